-- What the verdicts of a run accept.
use Rattle.std.specs.Prelude.{ℕ, List, [], ◌∷◌, Option, Some}
use Rattle.std.specs.Option.{option_map}
use Rattle.mum_record.specs.declared.step.Step.{Step}
use Rattle.mum_state.specs.After.{led_to}
use Rattle.mum_state.specs.declared.{edit.Edit.Edit, verdict.Verdict.Verdict, verdict.Verdict.TheVariants.Accepted}
use Rattle.mum_session.specs.Verdict.{verdict}
use Rattle.mum_core.specs.{Connection.next_command, Connection.session_of, Core.CoreState, Core.connection_at}
use Rattle.mum_record.specs.declared.step.Step.TheVariants as steps

-- the edit of a verdict that accepts
abbrev pub accepted_by : Option Verdict → List Edit
accepted_by (Some (Accepted edit)) = edit ∷ []
accepted_by others = []

-- the verdict on the command of a connection that was first to wait, for the session that its login gave it, at the state
-- to which all accepted edits lead
abbrev pub verdict_on : CoreState → ℕ → Option Verdict
verdict_on core c =
    let connection = connection_at core c in
    option_map (verdict (led_to core.opening core.accepted) (session_of connection)) (next_command connection)

-- the edit that a step accepts
abbrev pub accepted : CoreState → Step → List Edit
accepted core (steps.Edit c) = accepted_by (verdict_on core c)
accepted core step = []
