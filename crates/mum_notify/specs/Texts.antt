-- Texts and whom they reach; and what a session is sent of its permissions.
use Rattle.std.specs.Prelude.{ℕ, ◌==◌, ◌&&◌, ◌||◌, not, Bool, true, false, List, [], map, filter, Some}
use Rattle.std.specs.{List.list_any, Option.option_map_or}
use Rattle.mum_base.specs.Channels.{is_among}
use Rattle.mum_base.specs.declared.number.{ChannelId.ChannelId, SessionId.SessionId}
use Rattle.mum_base.specs.declared.perm.TheConstants.Perm.{TEXT_MESSAGE}
use Rattle.mum_policy.specs.Walk.{holds}
use Rattle.mum_tree.specs.Rows.{is_below, path}
use Rattle.mum_users.specs.declared.user.User.{User}
use Rattle.mum_msg_rule.specs.declared.permission_query.PermissionQuery.{PermissionQuery}
use Rattle.mum_msg_rule.specs.declared.text_message.TextMessage.{TextMessage}
use Rattle.mum_state.specs.declared.edit.Edit.{Edit, TheVariants.SetAcl, TheVariants.Text}
use Rattle.mum_state.specs.{Permissions.actor_from, Permissions.granted_to, Permissions.perm_of, State.StateValue}
use Rattle.mum_notify.specs.{Channels.numbers, Sorted.ListAlike, Sorted.lists}
use Rattle.mum_notify.specs.Parcels.{parcel, permissions_frame, text_frame, to_each}
use Rattle.mum_notify.specs.declared.{notice.Notice.Notice, texts.Named.Named}

-- ---- texts

abbrev pub is_named : List SessionId → User → Bool
is_named sessions user = list_any (λ session. session.0 == user.session.0) sessions

-- the session may send texts to the channel
abbrev pub may_text : StateValue → SessionId → ChannelId → Bool
may_text state actor channel = option_map_or (λ held. holds held TEXT_MESSAGE.0) (perm_of state actor channel) false

-- it is in or below one of the channels, where the actor may send texts to
abbrev pub is_in_trees : StateValue → SessionId → List ChannelId → User → Bool
is_in_trees state actor trees user =
    list_any (λ top. is_below state.tree.channels top user.channel) trees && may_text state actor user.channel

-- the text is for it: it is named, or in a channel that is named, or in a tree that is named; and it is not the actor
abbrev pub is_for : StateValue → SessionId → List SessionId → List ChannelId → List ChannelId → User → Bool
is_for state actor sessions channels trees user =
    not (user.session.0 == actor.0) && (is_named sessions user || is_among channels user.channel || is_in_trees state actor trees user)

abbrev pub session_numbers : List SessionId → List ℕ
session_numbers sessions = map (λ session. session.0) sessions

-- what is looked up are these sessions, channels and trees
abbrev pub NamesThese : Named → List ℕ → List ℕ → List ℕ → Type 0
NamesThese named sessions channels trees =
    ListAlike named.sessions.numbers.items sessions
    × ListAlike named.channels.numbers.items channels
    × ListAlike named.trees.numbers.items trees

-- the session is not the actor, and is named, or its channel, or a tree of a channel on the path to it
abbrev pub is_reached : StateValue → SessionId → Named → User → Bool
is_reached state actor named user =
    not (user.session.0 == actor.0)
    && (lists named.sessions.numbers.items user.session.0 || lists named.channels.numbers.items user.channel.0
    || (list_any (λ channel. lists named.trees.numbers.items channel.0) (path state.tree.channels user.channel) && may_text state actor user.channel))

-- all receive the lists as they were sent
abbrev pub text_told : SessionId → List SessionId → List ChannelId → List ChannelId → List ℕ → TextMessage
text_told actor sessions channels trees message = record {
  actor = Some actor.0;
  session = session_numbers sessions;
  channel_id = numbers channels;
  tree_id = numbers trees;
  message = Some message;
}

abbrev pub text_parcels : StateValue → Edit → List Notice
text_parcels after (Text actor sessions channels trees message) =
    to_each (filter (is_for after actor sessions channels trees) after.roster.sessions)
    (text_frame (text_told actor sessions channels trees message))
text_parcels after edit = []

-- ---- permissions

-- what it may do where it is; what it knew of other channels is no longer so
abbrev pub permissions_told : StateValue → User → PermissionQuery
permissions_told state user = record {
  channel_id = Some user.channel.0;
  permissions = Some (granted_to state (actor_from state.tree user) user.channel);
  flush = Some true;
}

abbrev pub permission_parcel : StateValue → User → Notice
permission_parcel state user = parcel (permissions_frame (permissions_told state user)) user

abbrev pub permission_parcels : StateValue → Edit → List Notice
permission_parcels after (SetAcl channel actor policy) = map (permission_parcel after) after.roster.sessions
permission_parcels after edit = []
