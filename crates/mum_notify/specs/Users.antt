-- What is reported of sessions that are new or changed.
use Rattle.std.specs.Prelude.{ℕ, ◌==◌, ◌||◌, not, Bool, true, false, List, [], map, filter, Option, Some, None, is_some, if◌then◌else◌}
use Rattle.std.specs.{List.flat_map, Option.option_map, Option.option_map_or, Str.bytes_eq}
use Rattle.mum_base.specs.declared.number.SessionId.{SessionId}
use Rattle.mum_users.specs.{Listeners.listens, Listeners.pairs_of, Sessions.session_of, State.RosterState}
use Rattle.mum_users.specs.declared.user.User.{User}
use Rattle.mum_msg_state.specs.declared.user_state.UserState.{UserState}
use Rattle.mum_state.specs.declared.edit.Edit.{Edit}
use Rattle.mum_state.specs.declared.edit.Edit.TheVariants.{Kick, MakeChannel, RemoveChannel, SetAcl, SetTokens}
use Rattle.mum_state.specs.{Kinds.is_empty, Named.given, Parts.session_edit, State.StateValue}
use Rattle.mum_notify.specs.Channels.{if_it_tells, said_unless}
use Rattle.mum_notify.specs.declared.watch.Watch.{Watch, TheVariants.Nobody, TheVariants.One, TheVariants.Everybody}

-- ---- a session as a whole

-- a flag is said where it is set
abbrev pub said_if_set : Bool → Option Bool
said_if_set flag = said_unless (not flag) flag

-- the channels that a session listens to, in order of number
abbrev pub listened : RosterState → SessionId → List ℕ
listened roster session = map (λ pair. pair.channel.0) (pairs_of roster session)

abbrev pub user_told : RosterState → User → UserState
user_told roster user = record {
  session = Some user.session.0;
  actor = None;
  name = Some user.name;
  user_id = option_map (λ account. account.0) user.account;
  channel_id = Some user.channel.0;
  mute = said_if_set user.mute;
  deaf = said_if_set user.deaf;
  suppress = said_if_set user.suppress;
  self_mute = said_if_set user.self_mute;
  self_deaf = said_if_set user.self_deaf;
  plugin_context = None;
  plugin_identity = None;
  comment = said_unless (is_empty user.comment) user.comment;
  priority_speaker = said_if_set user.priority;
  recording = said_if_set user.recording;
  temporary_access_tokens = [];
  listening_channel_add = listened roster user.session;
  listening_channel_remove = [];
}

-- ---- what of a session is another

-- the session by which an edit is made, where it has one. The maker of a channel is none, nor is whoever sets tokens
abbrev pub edited_by : Edit → Option SessionId
edited_by (Kick session actor reason ban) = Some actor
edited_by (RemoveChannel id actor) = Some actor
edited_by (SetAcl channel actor policy) = actor
edited_by edit = option_map (λ user. user.actor) (session_edit edit)

-- a comment is given
abbrev pub gives_comment : Edit → Bool
gives_comment edit = option_map_or (λ user. is_some user.change.comment) (session_edit edit) false

-- a flag that is another is said, also where it became false
abbrev pub flag_told : Bool → Bool → Option Bool
flag_told true true = None
flag_told false false = None
flag_told was now = Some now

-- the channels that a session listens to in one roster and not in the other, in order of number
abbrev pub listened_only_in : RosterState → RosterState → SessionId → List ℕ
listened_only_in roster other session =
    map (λ pair. pair.channel.0) (filter (λ pair. not (listens other session pair.channel)) (pairs_of roster session))

abbrev pub user_change_told : RosterState → Edit → RosterState → User → User → UserState
user_change_told before edit after was now = record {
  session = Some now.session.0;
  actor = option_map (λ actor. actor.0) (edited_by edit);
  name = None;
  user_id = None;
  channel_id = said_unless (was.channel.0 == now.channel.0) now.channel.0;
  mute = flag_told was.mute now.mute;
  deaf = flag_told was.deaf now.deaf;
  suppress = flag_told was.suppress now.suppress;
  self_mute = flag_told was.self_mute now.self_mute;
  self_deaf = flag_told was.self_deaf now.self_deaf;
  plugin_context = None;
  plugin_identity = None;
  comment = said_unless (not (gives_comment edit) || bytes_eq was.comment now.comment) now.comment;
  priority_speaker = flag_told was.priority now.priority;
  recording = flag_told was.recording now.recording;
  temporary_access_tokens = [];
  listening_channel_add = listened_only_in after before now.session;
  listening_channel_remove = listened_only_in before after now.session;
}

-- the message names something beside the session and the actor
abbrev pub tells_of_user : UserState → Bool
tells_of_user message =
    is_some message.channel_id || is_some message.mute || is_some message.deaf || is_some message.suppress
    || is_some message.self_mute || is_some message.self_deaf || is_some message.comment
    || is_some message.priority_speaker || is_some message.recording
    || not (is_empty message.listening_channel_add) || not (is_empty message.listening_channel_remove)

-- what of a session is another, where it was there before
abbrev pub user_difference : StateValue → Edit → StateValue → User → List UserState
user_difference before edit after now =
    option_map_or (λ was. if_it_tells tells_of_user (user_change_told before.roster edit after.roster was now))
    (session_of before.roster now.session) []

-- ---- whom an edit can make another

-- one session, or none
abbrev pub watch_given : Option SessionId → Watch
watch_given session = option_map_or One session Nobody

-- the session whose own change the edit is; everybody may be heard or not where a policy is set
abbrev pub watch_own : Edit → Watch
watch_own (RemoveChannel id actor) = Everybody
watch_own (SetAcl channel actor policy) = Everybody
watch_own (SetTokens session tokens) = One session
watch_own (MakeChannel id parent name temporary info maker) = watch_given (if temporary then maker else None)
watch_own edit = option_map_or (λ user. One user.session) (session_edit edit) Nobody

-- where a channel goes, whoever was in it or listened to it is another
abbrev pub whom_to_watch : Edit → Bool → Watch
whom_to_watch edit closes = if closes then Everybody else watch_own edit

-- by their slots
abbrev pub watched : Watch → RosterState → List User
watched Nobody roster = []
watched (One session) roster = given (session_of roster session)
watched Everybody roster = roster.sessions

-- `closes` says that the edit takes a channel away
abbrev pub user_changes_told : StateValue → Edit → StateValue → Bool → List UserState
user_changes_told before edit after closes =
    flat_map (user_difference before edit after) (watched (whom_to_watch edit closes) after.roster)
