-- What is decided of a message on channels.
use Rattle.std.specs.Prelude.{[], None}
use Rattle.std.specs.Option.{option_map_or}
use Rattle.mum_base.specs.declared.number.{SessionId.SessionId, TheConstants.ChannelId.ROOT}
use Rattle.mum_policy.specs.Member.{Actor}
use Rattle.mum_users.specs.Sessions.{session_of}
use Rattle.mum_state.specs.declared.verdict.Verdict.{Verdict}
use Rattle.mum_state.specs.{Permissions.actor_from, State.StateValue}
use Rattle.mum_rules_tree.specs.Asked.{Command, command_of}
use Rattle.mum_rules_tree.specs.Decision.{unless_ignored, unless_lacking, unless_refused}
use Rattle.mum_rules_tree.specs.{Limits.limits, Needs.needs, Outcome.outcome, Reasons.reasons}
use Rattle.mum_rules_tree.specs.declared.message.TreeMessage.{TreeMessage}

-- nobody asks for a session that is gone
abbrev pub nobody : Actor
nobody = record { account = None; channel = ROOT; tokens = []; home = [] }

abbrev pub actor_named : StateValue → SessionId → Actor
actor_named state session = option_map_or (actor_from state.tree) (session_of state.roster session) nobody

-- what is decided of a command for which there is no reason to ignore it
abbrev pub command_verdict : StateValue → Actor → SessionId → Command → Verdict
command_verdict state who actor command =
    unless_lacking state (needs state.tree who command)
    (unless_refused (limits state command) (outcome state actor command))

abbrev pub tree_verdict : StateValue → SessionId → TreeMessage → Verdict
tree_verdict state actor message =
    unless_ignored (reasons state actor message)
    (command_verdict state (actor_named state actor) actor (command_of message))
