-- What a look of a store asks, and what it finds.
use mathlib.Core.List.{IsPrefix}
use Rattle.std.specs.Prelude.{◌≡◌, ◌==◌, ℕ, Bool, false, List, [], Option, Some, None, Result, Ok, Err, ⊤}
use Rattle.std.specs.Option.{option_map_or}
use Rattle.std.specs.declared.alloc.AllocError.{AllocError}
use Rattle.mum_state.specs.{Proper.IsProper, State.StateValue}
use Rattle.mum_state.specs.declared.edit.Edit.{Edit}
use Rattle.mum_published.specs.{Calls.MayMeet, Calls.looked, Calls.state_of, Facts.PassFacts}
use Rattle.mum_published.specs.declared.ask.Ask.{Ask}
use Rattle.mum_kept.specs.{Kept.kept, Standing.HavePoliciesOf}
use Rattle.mum_kept.specs.declared.rows.KeptRows.{KeptRows}
use Rattle.mum_keeper.specs.Changes.{AreInOrder}
use Rattle.mum_keeper.specs.declared.{keeper.KeepEnd.KeepEnd, look.Found.Found}
use Rattle.mum_keeper.specs.declared.keeper.KeepEnd.TheVariants as ends

-- nobody speaks, to nobody, nothing
abbrev pub store_ask : Ask
store_ask = record { speaker = record { 0 = 0 }; target = 0; packet = record { items = [] } }

-- these are the rows that are kept of the state, unless memory ran out
abbrev pub AreKeptRows : StateValue → Result KeptRows AllocError → Type 0
AreKeptRows state (Ok rows) = (rows ≡ kept state) × AreInOrder rows
AreKeptRows state (Err error) = ⊤

-- these are the rows that are kept of the state, and its policy count
pub record AreFound (state : StateValue) (found : Found) : Type 0 where
  pub are : found.rows ≡ kept state
  pub ordered : AreInOrder found.rows
  pub counted : found.policies ≡ state.counts.policy
  pub proper : IsProper state

abbrev pub Finds : StateValue → Result Found AllocError → Type 0
Finds state (Ok found) = AreFound state found
Finds state (Err error) = ⊤

-- one look was made, which found what is kept of the state to which the list leads that it saw, unless memory ran out
pub record Looks (old : PassFacts) (found : Result Found AllocError) (new : PassFacts) : Type 0 where
  pub edits : List Edit
  pub met : MayMeet old edits
  pub asked : new ≡ looked old edits store_ask
  pub finds : Finds (state_of old.opening edits) found

-- ---- rows that were kept of an earlier state

-- the rows have the policies of the state, if its policy count is this one
abbrev pub MayShare : StateValue → KeptRows → Option ℕ → Type 0
MayShare state rows None = ⊤
MayShare state rows (Some policies) = policies ≡ state.counts.policy → HavePoliciesOf state rows.channels

-- a policy count is known, and is this one
abbrev pub is_count : ℕ → Option ℕ → Bool
is_count count known = option_map_or (λ policies. policies == count) known false

-- the rows are those that are kept of the state to which a list leads that begins what the pass saw last, and the policy
-- count there is this one
pub record AreSeen (pass : PassFacts) (rows : KeptRows) (policies : ℕ) : Type 0 where
  pub edits : List Edit
  pub begins : IsPrefix edits pass.seen
  pub proper : IsProper (state_of pass.opening edits)
  pub are : rows ≡ kept (state_of pass.opening edits)
  pub counted : policies ≡ (state_of pass.opening edits).counts.policy

-- where a count is given, they are so with it
abbrev pub AreSeenAt : PassFacts → KeptRows → Option ℕ → Type 0
AreSeenAt pass rows None = ⊤
AreSeenAt pass rows (Some policies) = AreSeen pass rows policies

-- only a Kept takes the new rows over, and with them the policy count where they were found
abbrev pub policies_left : KeepEnd → Option ℕ → ℕ → Option ℕ
policies_left ends.Kept before now = Some now
policies_left ends.Failed before now = before
policies_left ends.NoMemory before now = before
