-- What is decided of a command.
use Rattle.std.specs.Prelude.{List, [], ◌∷◌, Option, Some, None, unwrap_or}
use Rattle.mum_base.specs.declared.{number.SessionId.SessionId, outcome.Reason.Reason}
use Rattle.mum_base.specs.declared.outcome.Reason.TheVariants.{Gone, NotLoggedIn}
use Rattle.mum_base.specs.Codes.{reason_code}
use Rattle.mum_state.specs.declared.{edit.Edit.Edit, verdict.Verdict.Verdict}
use Rattle.mum_state.specs.declared.verdict.Verdict.TheVariants.{Accepted, Ignored}
use Rattle.mum_state.specs.State.{StateValue}
use Rattle.mum_rules_tree.specs.{Decision.case_of, Decision.first_standing, Reasons.takes_no_edits}
use Rattle.mum_rules_tree.specs.Verdict.{tree_verdict}
use Rattle.mum_rules_user.specs.Verdict.{user_verdict}
use Rattle.mum_session.specs.declared.command.Asked.{Asked, TheVariants.Tree, TheVariants.User}

-- why a command on channels is ignored that comes of a connection without a session
abbrev pub reason_for_nobody : StateValue → Reason
reason_for_nobody state = unwrap_or (first_standing (case_of Gone (takes_no_edits state) ∷ [])) NotLoggedIn

-- what is decided at a state of a command of a connection, which may have a session
unfoldable pub verdict : StateValue → Option SessionId → Asked → Verdict
verdict state None (Tree message) = Ignored (reason_code (reason_for_nobody state))
verdict state (Some session) (Tree message) = tree_verdict state session message
verdict state session (User message) = user_verdict state session message

-- the edit that is accepted, if one is
abbrev pub edits_of : Verdict → List Edit
edits_of (Accepted edit) = edit ∷ []
edits_of others = []
