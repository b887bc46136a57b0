-- What a verdict says of the tables, in words of its own.
use Rattle.std.specs.Prelude.{◌≡◌, ℕ, ◌||◌, true, false, List, Option, Some, None, IsTrue}
use Rattle.mum_base.specs.Codes.{deny_code, reason_code, reject_code}
use Rattle.mum_base.specs.declared.{number.ChannelId.ChannelId, number.SessionId.SessionId, outcome.DenyType.DenyType}
use Rattle.mum_base.specs.declared.{outcome.Reason.Reason, outcome.RejectType.RejectType, perm.Perm.Perm}
use Rattle.mum_base.specs.declared.perm.TheConstants.Perm.{ENTER, MOVE, MUTE_DEAFEN}
use Rattle.mum_msg_state.specs.declared.{authenticate.Authenticate.Authenticate, user_remove.UserRemove.UserRemove}
use Rattle.mum_msg_state.specs.declared.user_state.UserState.{UserState}
use Rattle.mum_state.specs.declared.{account.Account.Account, edit.Edit.Edit}
use Rattle.mum_state.specs.declared.verdict.Verdict.TheVariants.{Accepted, Ignored, Lacks, Refused, Rejected}
use Rattle.mum_state.specs.{Proper.IsProper, State.StateValue, State.account_named}
use Rattle.mum_rules_tree.specs.{Decision.Need, Decision.is_open, Decision.way, Verdict.actor_named}
use Rattle.mum_rules_tree.specs.Laws.{AllMet, IsAcceptedOrAnswered, IsFirstMissing, IsFirstStanding, NoneStands}
use Rattle.mum_rules_user.specs.Asked.{channel_of, command_of, is_oneself, new_channel, rules_speech, session_or, sets_own}
use Rattle.mum_rules_user.specs.{Limits.is_super_user, Limits.limits, Needs.needs, Reasons.reasons}
use Rattle.mum_rules_user.specs.Verdict.{actor_for, user_verdict}
use Rattle.mum_rules_user.specs.Login.{is_digest_of, limits_of_login, name_given, password_given}
use Rattle.mum_rules_user.specs.declared.message.UserMessage.{UserMessage}
use Rattle.mum_rules_user.specs.declared.message.UserMessage.TheVariants.{Join, Kick, User}

-- what this message of a session needs
abbrev pub needs_of : StateValue → SessionId → UserMessage → List Need
needs_of state actor message = needs state (actor_for state actor message) actor (command_of actor message)

-- a denial names the first permission that is missing, and comes only where there is no reason to ignore the message
abbrev pub NamesFirstMissing : Type 0
NamesFirstMissing =
    (state : StateValue) (actor : SessionId) (message : UserMessage) (perm : Perm) (channel : ChannelId)
    → user_verdict state (Some actor) message ≡ Lacks perm channel
    → NoneStands (reasons state (Some actor) message) × IsFirstMissing state (needs_of state actor message) perm channel

-- what is accepted of a session has no reason, no need and no limit against it
abbrev pub AcceptsWhereNothingStands : Type 0
AcceptsWhereNothingStands =
    (state : StateValue) (actor : SessionId) (message : UserMessage) (edit : Edit)
    → user_verdict state (Some actor) message ≡ Accepted edit
    → NoneStands (reasons state (Some actor) message) × AllMet state (needs_of state actor message)
    × NoneStands (limits state actor (command_of actor message))

-- a message of a session is accepted or answered where no reason, no need and no limit is against it
abbrev pub GrantsWhereNothingStands : Type 0
GrantsWhereNothingStands =
    (state : StateValue) (actor : SessionId) (message : UserMessage) → IsProper state
    → NoneStands (reasons state (Some actor) message) → AllMet state (needs_of state actor message)
    → NoneStands (limits state actor (command_of actor message))
    → IsAcceptedOrAnswered (user_verdict state (Some actor) message)

-- a message, of a session or of nobody, is ignored for the first reason that applies
abbrev pub IgnoresForFirstReason : Type 0
IgnoresForFirstReason =
    (state : StateValue) (actor : Option SessionId) (message : UserMessage) (why : ℕ) → IsProper state
    → user_verdict state actor message ≡ Ignored why
    → (reason : Reason) × (why ≡ reason_code reason) × IsFirstStanding (reasons state actor message) reason

-- whoever has no session is let do nothing but log in, and that where no reason and no limit applies
abbrev pub LogsInWhereNothingStands : Type 0
LogsInWhereNothingStands =
    (state : StateValue) (message : UserMessage) (edit : Edit)
    → user_verdict state None message ≡ Accepted edit
    → (login : Authenticate) × (version : Option ℕ) × (message ≡ Join login version)
    × NoneStands (reasons state None message) × NoneStands (limits_of_login state version login)

-- whoever logs in under the name of an account gave its password
abbrev pub OwnersAlone : Type 0
OwnersAlone =
    (state : StateValue) (login : Authenticate) (version : Option ℕ) (edit : Edit) (account : Account)
    → user_verdict state None (Join login version) ≡ Accepted edit
    → account_named state (name_given login) ≡ Some account
    → IsTrue (is_digest_of (password_given login) account.digest)

-- nobody but SuperUser itself mutes, deafens or raises SuperUser
abbrev pub SparesSuperUser : Type 0
SparesSuperUser =
    (state : StateValue) (actor : SessionId) (message : UserState) (edit : Edit)
    → user_verdict state (Some actor) (User message) ≡ Accepted edit
    → IsTrue (rules_speech message) → IsTrue (is_super_user state.roster (session_or actor message.session))
    → IsTrue (is_oneself actor (session_or actor message.session))

-- and nobody else puts it out
abbrev pub KeepsSuperUser : Type 0
KeepsSuperUser =
    (state : StateValue) (actor : SessionId) (message : UserRemove) (edit : Edit)
    → user_verdict state (Some actor) (Kick message) ≡ Accepted edit
    → IsTrue (is_super_user state.roster (session_or actor message.session))
    → IsTrue (is_oneself actor (session_or actor message.session))

-- a refusal names the first limit that applies, and comes only where no reason and no need is against the message
abbrev pub RefusesForFirstLimit : Type 0
RefusesForFirstLimit =
    (state : StateValue) (actor : SessionId) (message : UserMessage) (kind : ℕ)
    → user_verdict state (Some actor) message ≡ Refused kind
    → NoneStands (reasons state (Some actor) message) × AllMet state (needs_of state actor message)
    × ((limit : DenyType) × (kind ≡ deny_code limit)
    × IsFirstStanding (limits state actor (command_of actor message)) limit)

-- a rejection of a login names the first limit that applies
abbrev pub RejectsForFirstLimit : Type 0
RejectsForFirstLimit =
    (state : StateValue) (login : Authenticate) (version : Option ℕ) (kind : ℕ)
    → user_verdict state None (Join login version) ≡ Rejected kind
    → NoneStands (reasons state None (Join login version))
    × ((limit : RejectType) × (kind ≡ reject_code limit) × IsFirstStanding (limits_of_login state version login) limit)

-- whoever enters another channel by a UserState of its own has Enter or Move there
abbrev pub EntersWherePermitted : Type 0
EntersWherePermitted =
    (state : StateValue) (actor : SessionId) (message : UserState) (edit : Edit) (there : ChannelId)
    → user_verdict state (Some actor) (User message) ≡ Accepted edit
    → is_oneself actor (session_or actor message.session) ≡ true
    → new_channel state.roster (session_or actor message.session) message ≡ Some there
    → IsTrue (is_open state (way (actor_for state actor (User message)) ENTER there)
    || is_open state (way (actor_for state actor (User message)) MOVE there))

-- whoever moves another session has Move in its channel, and has Move in the new one, or the other has Enter there
abbrev pub MovesWherePermitted : Type 0
MovesWherePermitted =
    (state : StateValue) (actor : SessionId) (message : UserState) (edit : Edit) (there : ChannelId)
    → user_verdict state (Some actor) (User message) ≡ Accepted edit
    → is_oneself actor (session_or actor message.session) ≡ false
    → new_channel state.roster (session_or actor message.session) message ≡ Some there
    → IsTrue (is_open state
    (way (actor_for state actor (User message)) MOVE (channel_of state.roster (session_or actor message.session))))
    × IsTrue (is_open state (way (actor_for state actor (User message)) MOVE there)
    || is_open state (way (actor_named state (session_or actor message.session)) ENTER there))

-- whoever mutes or deafens a session, lets it speak or gives it priority has MuteDeafen in its channel
abbrev pub RulesSpeechWherePermitted : Type 0
RulesSpeechWherePermitted =
    (state : StateValue) (actor : SessionId) (message : UserState) (edit : Edit)
    → user_verdict state (Some actor) (User message) ≡ Accepted edit
    → rules_speech message ≡ true
    → IsTrue (is_open state
    (way (actor_for state actor (User message)) MUTE_DEAFEN
    (channel_of state.roster (session_or actor message.session))))

-- nobody sets for another session what each session sets for itself
abbrev pub LeavesOwnToOthers : Type 0
LeavesOwnToOthers =
    (state : StateValue) (actor : SessionId) (message : UserState) (edit : Edit)
    → user_verdict state (Some actor) (User message) ≡ Accepted edit
    → is_oneself actor (session_or actor message.session) ≡ false
    → sets_own message ≡ false
