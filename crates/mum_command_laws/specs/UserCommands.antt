-- Who kicks, who listens, and who sends texts.
use Rattle.std.specs.Prelude.{◌≡◌, ℕ, ◌||◌, Bool, true, List, ◌++◌, Option, Some, IsTrue}
use Rattle.std.specs.List.{All}
use Rattle.mum_base.specs.declared.number.{ChannelId.ChannelId, SessionId.SessionId, TheConstants.ChannelId.ROOT}
use Rattle.mum_base.specs.declared.perm.Perm.{Perm}
use Rattle.mum_base.specs.declared.perm.TheConstants.Perm.{BAN, KICK, LISTEN, TEXT_MESSAGE}
use Rattle.mum_tree.specs.Rows.{is_there}
use Rattle.mum_users.specs.Sessions.{session_of}
use Rattle.mum_users.specs.declared.user.User.{User}
use Rattle.mum_msg_state.specs.declared.user_remove.UserRemove.{UserRemove}
use Rattle.mum_state.specs.State.{StateValue}
use Rattle.mum_state.specs.declared.edit.Edit.TheVariants.{Kick as Kicks, SetUser, Text as SendsText}
use Rattle.mum_state.specs.declared.verdict.Verdict.TheVariants.{Accepted}
use Rattle.mum_rules_tree.specs.Decision.{is_open, way}
use Rattle.mum_rules_user.specs.Verdict.{actor_for, user_verdict}
use Rattle.mum_rules_user.specs.declared.message.UserMessage.{UserMessage, TheVariants.Kick}

-- the session has the permission in the channel, with the tokens that its message brings
abbrev pub may_by : StateValue → SessionId → UserMessage → Perm → ChannelId → Bool
may_by state actor message perm channel = is_open state (way (actor_for state actor message) perm channel)

-- a session is kicked by the actor, whose message names it; the actor has Kick or Ban on the root, and Ban there where the
-- edit says that it is a ban
abbrev pub KicksWherePermitted : Type 0
KicksWherePermitted =
    (state : StateValue) (actor : SessionId) (message : UserMessage) (session by : SessionId) (reason : List ℕ)
    (ban : Bool)
    → user_verdict state (Some actor) message ≡ Accepted (Kicks session by reason ban)
    → (by ≡ actor)
    × ((named : UserRemove) × (message ≡ Kick named) × (named.session ≡ Some session.0))
    × IsTrue (may_by state actor message KICK ROOT || may_by state actor message BAN ROOT)
    × (ban ≡ true → IsTrue (may_by state actor message BAN ROOT))

-- in each channel to which an edit lets a session listen, the actor has Listen
abbrev pub ListensWherePermitted : Type 0
ListensWherePermitted =
    (state : StateValue) (actor : SessionId) (message : UserMessage) (session by : SessionId)
    (channel : Option ChannelId)
    (mute deaf : Option Bool) (clear_suppress : Bool) (priority self_mute self_deaf recording : Option Bool)
    (comment context : Option (List ℕ)) (listen unlisten : List ChannelId)
    → user_verdict state (Some actor) message
    ≡ Accepted (SetUser session by channel mute deaf clear_suppress priority self_mute self_deaf recording comment context listen unlisten)
    → (by ≡ actor) × All (λ there. (session ≡ actor) × IsTrue (may_by state actor message LISTEN there)) listen

-- a text is sent by the actor, which has TextMessage where each session is that it is for and that is there, and in each
-- channel that it is for and that is there, alone or as the top of a tree
abbrev pub TextsWherePermitted : Type 0
TextsWherePermitted =
    (state : StateValue) (actor : SessionId) (message : UserMessage) (by : SessionId) (sessions : List SessionId)
    (channels trees : List ChannelId) (text : List ℕ)
    → user_verdict state (Some actor) message ≡ Accepted (SendsText by sessions channels trees text)
    → (by ≡ actor)
    × All (λ session. (user : User) → session_of state.roster session ≡ Some user
    → IsTrue (may_by state actor message TEXT_MESSAGE user.channel))
    sessions
    × All (λ channel. IsTrue (is_there state.tree.channels channel)
    → IsTrue (may_by state actor message TEXT_MESSAGE channel)) (channels ++ trees)
