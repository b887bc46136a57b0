-- The edits that were accepted from one state on.
use Rattle.std.specs.Prelude.{ℕ, List, [], ◌∷◌, ◌++◌}
use Rattle.mum_state.specs.declared.edit.Edit.{Edit}
use Rattle.mum_state.specs.{After.at, After.led_to, State.StateValue}

pub record HistoryValue : Type 0 where
  -- the state before all of them
  pub opening : StateValue
  -- the accepted edits, the first of them first
  pub accepted : List Edit
  -- how many of them are published
  pub published : ℕ

-- no edit was accepted yet
abbrev pub begun : StateValue → HistoryValue
begun opening = record { opening = opening; accepted = []; published = 0 }

-- the state after the accepted edits up to a revision, and after all of them
abbrev pub state_at : HistoryValue → ℕ → StateValue
state_at history revision = at history.opening history.accepted revision

abbrev pub current : HistoryValue → StateValue
current history = led_to history.opening history.accepted

-- one edit more, at the end
abbrev pub with_edit : HistoryValue → Edit → HistoryValue
with_edit history edit = record history { accepted = history.accepted ++ edit ∷ [] }
