-- What a message on channels changes of channels, and who may change it.
use Rattle.std.specs.Prelude.{◌≡◌, ◌≢◌, ◌⊎◌, ◌&&◌, ◌||◌, Some, None, if◌then◌else◌, IsTrue}
use Rattle.std.specs.List.{Contains}
use Rattle.mum_base.specs.declared.number.{ChannelId.ChannelId, TheConstants.ChannelId.ROOT}
use Rattle.mum_base.specs.declared.perm.TheConstants.Perm.{LINK_CHANNEL, MAKE_CHANNEL, MAKE_TEMP_CHANNEL, WRITE}
use Rattle.mum_tree.specs.Rows.{is_below, row_of}
use Rattle.mum_tree.specs.declared.channel.Row.{Row}
use Rattle.mum_users.specs.declared.user.User.{User}
use Rattle.mum_msg_state.specs.declared.channel_state.ChannelState.{ChannelState}
use Rattle.mum_state.specs.State.{StateValue, open_policy, policy_of}
use Rattle.mum_rules_tree.specs.declared.message.TreeMessage.{TreeMessage, TheVariants.State}
use Rattle.mum_rights_laws.specs.{Rights.may, Standing.IsEmptied, Standing.LinkedAsBefore, Standing.OfLasting}
use Rattle.mum_rights_laws.specs.TreeCommands.{AsksForPolicy, AsksToChange, AsksToRemove, OfTreeCommands}

-- a channel keeps its name and what describes it, or the message names it and the actor has Write there
abbrev pub DescribedWherePermitted : Type 0
DescribedWherePermitted = OfTreeCommands (λ before after own message. OfLasting before after (λ was now.
    ((now.channel.name ≡ was.channel.name) × (now.channel.info ≡ was.channel.info))
    ⊎ (((asked : ChannelState) × AsksToChange message was.channel.id asked)
    × IsTrue (may before own WRITE was.channel.id))))

-- a channel stays under its parent; or the message names it, and the actor has Write there and MakeChannel on the new
-- parent
abbrev pub PlacedWherePermitted : Type 0
PlacedWherePermitted = OfTreeCommands (λ before after own message. OfLasting before after (λ was now.
    (now.channel.parent ≡ was.channel.parent)
    ⊎ (((asked : ChannelState) × AsksToChange message was.channel.id asked)
    × IsTrue (may before own WRITE was.channel.id && may before own MAKE_CHANNEL now.channel.parent))))

-- nothing else of a channel changes: its number, its place and whether it is temporary
abbrev pub ChannelsStayWhatTheyAre : Type 0
ChannelsStayWhatTheyAre = OfTreeCommands (λ before after own message. OfLasting before after (λ was now.
    (now.place ≡ was.place) × (now.channel.id ≡ was.channel.id) × (now.channel.temporary ≡ was.channel.temporary)))

-- the message names the one channel, and the other among those that are to be linked to it or unlinked from it
abbrev pub AsksToLink : TreeMessage → ChannelId → ChannelId → Type 0
AsksToLink message one other =
    (asked : ChannelState) × AsksToChange message one asked
    × (Contains asked.links_add other.0 ⊎ Contains asked.links_remove other.0)

-- two channels are linked as before; or the message names one of them, and the other among its links, and the actor has
-- LinkChannel on both
abbrev pub LinkedWherePermitted : Type 0
LinkedWherePermitted = OfTreeCommands (λ before after own message. (one other : ChannelId)
    → LinkedAsBefore before after one other
    ⊎ ((AsksToLink message one other ⊎ AsksToLink message other one)
    × IsTrue (may before own LINK_CHANNEL one && may before own LINK_CHANNEL other)))

-- a channel keeps its policy, or the message is for its policy and the actor has Write there or on its parent
abbrev pub RuledWherePermitted : Type 0
RuledWherePermitted = OfTreeCommands (λ before after own message. OfLasting before after (λ was now.
    (policy_of after was.channel.id ≡ policy_of before was.channel.id)
    ⊎ (AsksForPolicy message was.channel.id
    × IsTrue (may before own WRITE was.channel.id || may before own WRITE was.channel.parent))))

-- the channel, or one above it, is removed and is not the root: the message names that one, and the actor has Write there
abbrev pub IsRemoved : StateValue → User → TreeMessage → Row → Type 0
IsRemoved before own message row =
    (top : ChannelId) × AsksToRemove message top × IsTrue (may before own WRITE top) × (top.0 ≢ ROOT.0)
    × IsTrue (is_below before.tree.channels top row.channel.id)

-- a channel that goes is removed or emptied
abbrev pub RemovedWherePermitted : Type 0
RemovedWherePermitted = OfTreeCommands (λ before after own message. (id : ChannelId) (was : Row)
    → row_of before.tree.channels id ≡ Some was → row_of after.tree.channels id ≡ None
    → IsRemoved before own message was ⊎ IsEmptied before after was)

-- A channel that comes is made: the message names no channel but its parent, where the actor has MakeTempChannel if the
-- channel is temporary, and MakeChannel if it is not. Its policy is open.
abbrev pub MadeWherePermitted : Type 0
MadeWherePermitted = OfTreeCommands (λ before after own message. (id : ChannelId) (now : Row)
    → row_of before.tree.channels id ≡ None → row_of after.tree.channels id ≡ Some now
    → ((asked : ChannelState) × (message ≡ State asked) × (asked.channel_id ≡ None)
    × (asked.parent ≡ Some now.channel.parent.0))
    × IsTrue (may before own (if now.channel.temporary then MAKE_TEMP_CHANNEL else MAKE_CHANNEL) now.channel.parent)
    × (policy_of after id ≡ Some open_policy))
