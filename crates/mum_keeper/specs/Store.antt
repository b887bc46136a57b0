-- The store, and a turn of it.
use Rattle.std.specs.Prelude.{◌≡◌, Bool, true, false, List, is_some, Option, Some, None}
use Rattle.mum_outbox.specs.Facts.{QueueId}
use Rattle.mum_crew.specs.declared.role.Turn.{Turn}
use Rattle.mum_state.specs.State.{StateValue}
use Rattle.mum_state.specs.declared.edit.Edit.{Edit}
use Rattle.mum_published.specs.Calls.{Learnt, MayMeet, looked, state_of}
use Rattle.mum_published.specs.Facts.{PassFacts}
use Rattle.mum_kept.specs.Kept.{kept}
use Rattle.mum_kept.specs.declared.rows.KeptRows.{KeptRows}
use Rattle.mum_keeper.specs.Bell.{BellFacts, NoMore, Noted, Ring, TakesRing, new_bell}
use Rattle.mum_keeper.specs.{Keeping.KeeperFacts, Look.store_ask}
use Rattle.mum_keeper.specs.Mirror.{Compares, MirrorFacts, new_mirror}
use Rattle.mum_keeper.specs.declared.keeper.KeepEnd.{KeepEnd}
use Rattle.mum_crew.specs.declared.role.Turn.TheVariants as turns

-- its pass, its bell, its keeper with the rows that are compared, and whether it took that no note comes any more
pub record StoreFacts (P : Type 0) : Type 0 where
  pub pass : PassFacts
  pub bell : BellFacts
  pub mirror : MirrorFacts P
  pub ended : Bool

-- it is new, and nothing was taken or compared
abbrev pub IsOpened : {P : Type 0} → PassFacts → P → KeptRows → QueueId → StoreFacts P → Type 0
IsOpened pass keeper rows queue store =
    store ≡ record { pass = pass; bell = new_bell queue; mirror = new_mirror keeper rows; ended = false }

-- what a turn comes to, by whether the store took that no note comes any more, and whether it took anything
abbrev pub turn_of : Bool → Bool → Turn
turn_of true took = turns.Done
turn_of false true = turns.Worked
turn_of false false = turns.Idle

module _ {P : Type 0} (facts : P → KeeperFacts) where
  -- the rows are compared with those that are kept of a state. Where memory runs out before, the keeper is not called
  abbrev pub Settles : MirrorFacts P → StateValue → KeepEnd → MirrorFacts P → Type 0
  Settles old state end new = Compares facts old (kept state) end new

  -- one look was made, and one comparison with what is kept of the state to which the list leads that it saw
  pub record Observes (old : StoreFacts P) (end : KeepEnd) (new : StoreFacts P) : Type 0 where
    pub edits : List Edit
    pub met : MayMeet old.pass edits
    pub asked : new.pass ≡ looked old.pass edits store_ask
    pub settles : Settles old.mirror (state_of old.pass.opening edits) end new.mirror
    pub others : new ≡ record old { pass = new.pass; mirror = new.mirror }

  -- a note is learnt before the look; after the last item the store has ended
  abbrev pub Heeds : StoreFacts P → Ring → KeepEnd → StoreFacts P → Type 0
  Heeds old (Noted note) end new =
      (pass : PassFacts) × Learnt old.pass note.edits pass × Observes (record old { pass = pass }) end new
  Heeds old NoMore end new = Observes (record old { ended = true }) end new

  -- what comes of what the bell gave
  abbrev pub HeedsGiven : StoreFacts P → Option Ring → StoreFacts P → Type 0
  HeedsGiven old None new = new ≡ old
  HeedsGiven old (Some ring) new = (end : KeepEnd) × Heeds old ring end new

  -- the bell is asked once, and what it gave is heeded
  pub record HearsBell (old : StoreFacts P) (took : Bool) (new : StoreFacts P) : Type 0 where
    pub ring : Option Ring
    pub bell : BellFacts
    pub takes : TakesRing old.bell ring bell
    pub heeds : HeedsGiven (record old { bell = bell }) ring new
    pub took_is : took ≡ is_some ring

  -- the bell is asked once, and nothing else is done
  pub record StoreTurned (old : StoreFacts P) (turn : Turn) (new : StoreFacts P) : Type 0 where
    pub took : Bool
    pub hears : HearsBell old took new
    pub came_to : turn ≡ turn_of new.ended took
