-- What came of the turns of a store, and of its settling.
use mathlib.Core.List.{IsPrefix}
use Rattle.std.specs.Prelude.{◌≡◌, List, [], ◌∷◌, ◌++◌, IfSome, IsTrue}
use Rattle.mum_io.specs.Counts.{Rose}
use Rattle.mum_outbox.specs.Facts.{QueueId}
use Rattle.mum_crew.specs.Turns.{TurnsTo}
use Rattle.mum_crew.specs.declared.role.Turn.{Turn}
use Rattle.mum_state.specs.State.{StateValue}
use Rattle.mum_state.specs.declared.edit.Edit.{Edit}
use Rattle.mum_published.specs.{Calls.ask_at, Calls.state_of, Facts.PassFacts}
use Rattle.mum_published.specs.declared.rule.AskAt.{AskAt}
use Rattle.mum_kept.specs.Kept.{kept}
use Rattle.mum_kept.specs.declared.rows.KeptRows.{KeptRows}
use Rattle.mum_keeper.specs.{Keeping.AreRowsOf, Keeping.KeeperFacts, Look.store_ask, Mirror.MirrorFacts}
use Rattle.mum_keeper.specs.Store.{IsOpened, StoreFacts, StoreTurned}
use Rattle.mum_keeper.specs.declared.keeper.KeepEnd.{KeepEnd}
use Rattle.mum_keeper.specs.declared.keeper.KeepEnd.TheVariants as ends

-- a look of a store asks nothing else
abbrev pub IsStoreAsk : AskAt → Type 0
IsStoreAsk at = at.ask ≡ store_ask

module _ {P : Type 0} (facts : P → KeeperFacts) where
  -- the keeper's rows, where they are known, are those that are kept of the state
  abbrev pub HoldsKept : P → StateValue → Type 0
  HoldsKept keeper state = IfSome (facts keeper).rows (λ known. known ≡ kept state)

  -- how a comparison with what is kept of a state ended: the keeper has these rows, or its count of faults rose, or memory
  -- ran out
  abbrev pub CameTo : MirrorFacts P → StateValue → KeepEnd → MirrorFacts P → Type 0
  CameTo old state ends.Kept new = HoldsKept new.keeper state
  CameTo old state ends.Failed new = Rose (facts old.keeper).faults (facts new.keeper).faults × IsTrue new.failed
  CameTo old state ends.NoMemory new = IsTrue new.no_memory

  -- one look was made, which saw a list that goes on from that of the look before, and the rows that are kept of the state
  -- there were compared
  pub record ShowsTo (old : StoreFacts P) (new : StoreFacts P) : Type 0 where
    pub edits : List Edit
    pub goes_on : IsPrefix old.pass.seen edits
    pub seen : new.pass.seen ≡ edits
    pub asked : new.pass.asks ≡ old.pass.asks ++ ask_at edits store_ask ∷ []
    pub end : KeepEnd
    pub came_to : CameTo old.mirror (state_of old.pass.opening edits) end new.mirror

  -- these turns, from its opening on, lead to this store
  pub record HasTurned (turns : List Turn) (store : StoreFacts P) : Type 0 where
    pub pass : PassFacts
    pub no_look : pass.asks ≡ []
    pub keeper : P
    pub rows : KeptRows
    pub has : AreRowsOf (facts keeper).rows rows
    pub queue : QueueId
    pub opened : StoreFacts P
    pub opening : IsOpened pass keeper rows queue opened
    pub all : TurnsTo (StoreTurned facts) opened turns store
