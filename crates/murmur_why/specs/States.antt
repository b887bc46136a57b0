-- The states of a run.
use Rattle.mum_state.specs.State.{StateValue}
use Rattle.mum_audit.specs.Past.{Past}

-- what the commands so far leave, and the state to which somebody went back
pub record Reached : Type 0 where
  pub past : Past
  pub state : StateValue
