-- A state that lags behind a history.
use Rattle.std.specs.Prelude.{◌≡◌, ℕ, ◌≤◌, List, length}
use Rattle.mum_state.specs.declared.edit.Edit.{Edit}
use Rattle.mum_state.specs.{After.at, State.StateValue}

pub record ViewValue : Type 0 where
  pub state : StateValue
  -- how many edits it has
  pub revision : ℕ

-- it is the state after the edits up to its revision
pub record IsViewOf (opening : StateValue) (edits : List Edit) (view : ViewValue) : Type 0 where
  pub within : view.revision ≤ length edits
  pub state_is : view.state ≡ at opening edits view.revision
