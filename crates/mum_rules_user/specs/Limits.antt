-- The limits of each command on users, in order, each with the type of its denial.
use Rattle.std.specs.Prelude.{ℕ, ◌==◌, ◌&&◌, ◌||◌, not, nat_le, nat_lt, Bool, false, List, [], ◌∷◌, ◌++◌, count_by}
use Rattle.std.specs.{List.list_any, Option.option_map_or}
use Rattle.mum_base.specs.declared.number.{ChannelId.ChannelId, SessionId.SessionId, TheConstants.AccountId.SUPER_USER}
use Rattle.mum_base.specs.declared.outcome.DenyType.{DenyType}
use Rattle.mum_base.specs.declared.outcome.DenyType.TheVariants.{ChannelFull, ChannelListenerLimit, SuperUser, Text, TextTooLong, UserListenerLimit}
use Rattle.mum_policy.specs.Walk.{is_account}
use Rattle.mum_tree.specs.Rows.{row_of}
use Rattle.mum_users.specs.declared.listening.{ListenerPair.ListenerPair, TheConstants.LISTENED_CHANNELS}
use Rattle.mum_users.specs.declared.target.TheConstants.{LAST_TARGET}
use Rattle.mum_users.specs.{Edit.is_crowded, Edit.with_channels, Sessions.session_of, Targets.is_oversize}
use Rattle.mum_users.specs.State.{RosterState, is_context, is_in, is_of_session}
use Rattle.mum_msg_state.specs.declared.user_state.UserState.{UserState}
use Rattle.mum_msg_rule.specs.declared.{text_message.TextMessage.TextMessage, voice_target.VoiceTarget.VoiceTarget}
use Rattle.mum_state.specs.{Fits.holds_of_given, Proper.is_text, State.StateValue}
use Rattle.mum_rules_tree.specs.{Asked.text_or_empty, Decision.Case, Decision.case_of}
use Rattle.mum_rules_user.specs.Asked.{Command, channels, is_oneself, new_channel, number_of_target, rules_speech, target_asked}

-- the session is SuperUser's
abbrev pub is_super_user : RosterState → SessionId → Bool
is_super_user roster session =
    option_map_or (λ user. is_account user.account SUPER_USER) (session_of roster session) false

-- it is SuperUser's, and somebody else's command is about it
abbrev pub is_protected : RosterState → SessionId → SessionId → Bool
is_protected roster actor session = not (is_oneself actor session) && is_super_user roster session

-- the most users that a channel takes; 0 for no limit
abbrev pub room_of : StateValue → ChannelId → ℕ
room_of state id = option_map_or (λ row. row.channel.info.max_users) (row_of state.tree.channels id) 0

-- it takes at most n users, and n are in it
abbrev pub takes_nobody : StateValue → ChannelId → Bool
takes_nobody state id = not (room_of state id == 0) && nat_le (room_of state id) (count_by (is_in id) state.roster.sessions)

-- who listens to what, once the session listens to these channels too and before it leaves any
abbrev pub pairs_with : RosterState → SessionId → List ChannelId → List ListenerPair
pairs_with roster session listen = with_channels session [] listen roster.listeners

-- one of these channels has too many listeners then, or the session listens to too many channels
abbrev pub limits_of_listening : RosterState → SessionId → List ChannelId → List (Case DenyType)
limits_of_listening roster session listen =
    let pairs : List ListenerPair = pairs_with roster session listen in
    case_of ChannelListenerLimit (list_any (is_crowded pairs) listen)
    ∷ case_of UserListenerLimit (nat_lt LISTENED_CHANNELS (count_by (is_of_session session) pairs))
    ∷ []

-- its comment or its plugin context is too long
abbrev pub has_long_text : UserState → Bool
has_long_text message =
    not (holds_of_given is_text message.comment) || not (holds_of_given is_context message.plugin_context)

abbrev pub limits_of_change : StateValue → SessionId → SessionId → UserState → List (Case DenyType)
limits_of_change state actor session message =
    case_of SuperUser (rules_speech message && is_protected state.roster actor session)
    ∷ case_of ChannelFull (option_map_or (takes_nobody state) (new_channel state.roster session message) false)
    ∷ (limits_of_listening state.roster session (channels message.listening_channel_add)
    ++ case_of TextTooLong (has_long_text message) ∷ [])

abbrev pub limits_of_text : TextMessage → List (Case DenyType)
limits_of_text message = case_of TextTooLong (not (is_text (text_or_empty message.message))) ∷ []

abbrev pub limits_of_target : VoiceTarget → List (Case DenyType)
limits_of_target message =
    case_of Text ((number_of_target message == 0) || nat_lt LAST_TARGET (number_of_target message))
    ∷ case_of Text (is_oversize (target_asked message))
    ∷ []

abbrev pub limits : StateValue → SessionId → Command → List (Case DenyType)
limits state actor (Command.renew message) = []
limits state actor (Command.change session message) = limits_of_change state actor session message
limits state actor (Command.kick session message) = case_of SuperUser (is_protected state.roster actor session) ∷ []
limits state actor (Command.text message) = limits_of_text message
limits state actor (Command.target message) = limits_of_target message
limits state actor (Command.query id) = []
limits state actor Command.leave = []
