-- What a view shows of a state: its channels and its users.
use Rattle.std.specs.Prelude.{◌||◌, List, map, Option, Some, None, if◌then◌else◌}
use Rattle.mum_base.specs.declared.number.ChannelId.{ChannelId}
use Rattle.mum_tree.specs.declared.channel.Channel.{Channel}
use Rattle.mum_tree.specs.{Rows.is_root, State.TreeState, State.partners}
use Rattle.mum_users.specs.declared.user.User.{User}
use Rattle.mum_users.specs.{Listeners.pairs_of, State.RosterState}
use Rattle.mum_state.specs.State.{StateValue}
use Rattle.mum_viewer.specs.declared.picture.{Picture.Picture, ShownChannel.ShownChannel, ShownUser.ShownUser}

-- the channel above this one; the root is under none
abbrev pub shown_parent : Channel → Option ChannelId
shown_parent channel = if is_root channel.id then None else Some channel.parent

-- a channel, and the channels linked to it in order of number
abbrev pub shown_channel : TreeState → Channel → ShownChannel
shown_channel tree channel = record {
  id = channel.id;
  links = partners tree channel.id;
  name = channel.name;
  parent = shown_parent channel;
  temporary = channel.temporary;
}

-- a user, whoever made it deaf or mute, and the channels that it listens to in order of number
abbrev pub shown_user : RosterState → User → ShownUser
shown_user roster user = record {
  account = user.account;
  channel = user.channel;
  deaf = user.deaf || user.self_deaf;
  listens = map (λ pair. pair.channel) (pairs_of roster user.session);
  mute = user.mute || (user.self_mute || user.suppress);
  name = user.name;
  session = user.session;
}

-- all channels, in order of number
abbrev pub shown_channels : TreeState → List ShownChannel
shown_channels tree = map (λ row. shown_channel tree row.channel) tree.channels

-- all users, in order of slot
abbrev pub shown_users : RosterState → List ShownUser
shown_users roster = map (shown_user roster) roster.sessions

-- the channels and the users at the state's revision
abbrev pub picture_of : StateValue → Picture
picture_of state = record {
  channels = shown_channels state.tree;
  revision = state.counts.revision;
  users = shown_users state.roster;
}
