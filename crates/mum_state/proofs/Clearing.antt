-- What clearing leaves: the state as it was, or with one session that may speak.
use Rattle.mum_state.proofs.Common.{Bool, true, false, Option, Some, None, if◌then◌else◌, SessionId, suppressed, Edit, SessionEdit, session_edit, StateValue, cleared_by, with_clearing}

-- what holds of the state, and of it with whichever session may speak, holds of what clearing leaves
pub by_clearing : (P : StateValue → Type 0) (edit : Edit) (state : StateValue) → P state
    → ((session : SessionId) → P (record state { roster = suppressed state.roster session false })) → P (with_clearing edit state)
by_clearing P edit state same one = step (session_edit edit)
  where
    either : (clears : Bool) (session : SessionId) → P (if clears then record state { roster = suppressed state.roster session false } else state)
    either true session = one session
    either false session = same

    step : (given : Option SessionEdit) → P (cleared_by given state)
    step None = same
    step (Some user) = either user.clear_suppress user.session
