-- What is decided of a message on users.
use Rattle.std.specs.Prelude.{ℕ, List, [], Option, Some, None}
use Rattle.std.specs.Option.{option_map_or}
use Rattle.mum_base.specs.declared.{number.SessionId.SessionId, outcome.Reason.TheVariants.NotLoggedIn}
use Rattle.mum_base.specs.declared.outcome.RejectType.{RejectType}
use Rattle.mum_base.specs.Codes.{reason_code, reject_code}
use Rattle.mum_policy.specs.Member.{Actor}
use Rattle.mum_users.specs.Sessions.{session_of}
use Rattle.mum_msg_state.specs.declared.authenticate.Authenticate.{Authenticate}
use Rattle.mum_state.specs.declared.verdict.Verdict.{Verdict}
use Rattle.mum_state.specs.declared.verdict.Verdict.TheVariants.{Accepted, Ignored, Rejected}
use Rattle.mum_state.specs.{State.StateValue, Permissions.actor_with}
use Rattle.mum_rules_tree.specs.Decision.{Case, first_standing, unless_ignored, unless_lacking, unless_refused}
use Rattle.mum_rules_tree.specs.{Tokens.tokens_for_once, Verdict.nobody}
use Rattle.mum_rules_user.specs.{Asked.Command, Asked.command_of, Limits.limits}
use Rattle.mum_rules_user.specs.{Login.edit_to_join, Login.limits_of_login, Needs.needs, Outcome.outcome}
use Rattle.mum_rules_user.specs.Reasons.{reasons}
use Rattle.mum_rules_user.specs.declared.message.UserMessage.{UserMessage, TheVariants.Join, TheVariants.User}

abbrev pub unless_rejected : List (Case RejectType) → Verdict → Verdict
unless_rejected limits verdict = option_map_or (λ kind. Rejected (reject_code kind)) (first_standing limits) verdict

-- the tokens that a message brings for this once
abbrev pub tokens_brought : UserMessage → List (List ℕ)
tokens_brought (User message) = message.temporary_access_tokens
tokens_brought message = []

-- the actor: the session, with these tokens too
abbrev pub actor_for : StateValue → SessionId → UserMessage → Actor
actor_for state actor message =
    option_map_or (λ user. actor_with state.tree user (tokens_for_once user.tokens (tokens_brought message)))
    (session_of state.roster actor) nobody

-- what is decided of a command for which there is no reason to ignore it
abbrev pub command_verdict : StateValue → Actor → SessionId → Command → Verdict
command_verdict state who actor command =
    unless_lacking state (needs state who actor command)
    (unless_refused (limits state actor command) (outcome state who actor command))

abbrev pub login_verdict : StateValue → Option ℕ → Authenticate → Verdict
login_verdict state version message = unless_rejected (limits_of_login state version message) (Accepted (edit_to_join state message))

-- whoever has no session asks for nothing but a login
abbrev pub heard_verdict : StateValue → Option SessionId → UserMessage → Verdict
heard_verdict state (Some actor) message =
    command_verdict state (actor_for state actor message) actor (command_of actor message)
heard_verdict state None (Join message version) = login_verdict state version message
heard_verdict state None message = Ignored (reason_code NotLoggedIn)

abbrev pub user_verdict : StateValue → Option SessionId → UserMessage → Verdict
user_verdict state actor message = unless_ignored (reasons state actor message) (heard_verdict state actor message)
