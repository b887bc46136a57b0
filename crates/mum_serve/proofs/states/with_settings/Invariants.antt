use Rattle.mum_serve.proofs.Common.{drop, settings_and_accounts, led_to}
use Rattle.mum_serve.proofs.Beginning.{LeadsOn}
use Rattle.mum_serve.proofs.states.with_settings.Given as goal

-- what is left leads on as all of them do
abbrev pub invariant-loop-edit : goal.invariant-loop-edit
invariant-loop-edit l = LeadsOn l.state (drop l.edit-index l.edits) (led_to l.fn.state (settings_and_accounts l.edits))
