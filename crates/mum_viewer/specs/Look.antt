-- What a look of a view asks, and what it finds.
use Rattle.std.specs.Prelude.{◌≡◌, List, [], Result, Ok, Err, ⊤}
use Rattle.std.specs.declared.alloc.AllocError.{AllocError}
use Rattle.mum_state.specs.declared.edit.Edit.{Edit}
use Rattle.mum_state.specs.State.{StateValue}
use Rattle.mum_published.specs.{Calls.MayMeet, Calls.looked, Calls.state_of, Facts.PassFacts}
use Rattle.mum_published.specs.declared.{ask.Ask.Ask, rule.AskAt.AskAt}

-- nobody speaks, to nobody, nothing
abbrev pub view_ask : Ask
view_ask = record { speaker = record { 0 = 0 }; target = 0; packet = record { items = [] } }

abbrev pub IsViewAsk : AskAt → Type 0
IsViewAsk at = at.ask ≡ view_ask

-- what was found is what this state shows, unless memory ran out
abbrev pub IsFound : {X : Type 0} → (StateValue → X) → StateValue → Result X AllocError → Type 0
IsFound shows state (Ok found) = found ≡ shows state
IsFound shows state (Err error) = ⊤

-- one look was made, and what was found is what the state shows to which the list leads that it saw
pub record Looks {X : Type 0} (shows : StateValue → X) (old : PassFacts) (found : Result X AllocError)
    (new : PassFacts) : Type 0 where
  pub edits : List Edit
  pub met : MayMeet old edits
  pub asked : new ≡ looked old edits view_ask
  pub is : IsFound shows (state_of old.opening edits) found
