-- What a message on channels asks for is what changes of channels, and nothing else does.
use Rattle.std.specs.Prelude.{◌≡◌, false, pos, [], Some, None, unwrap_or}
use Rattle.mum_base.specs.declared.number.ChannelId.{ChannelId}
use Rattle.mum_tree.specs.Rows.{row_of}
use Rattle.mum_tree.specs.declared.channel.{Channel.Channel, Row.Row}
use Rattle.mum_msg_state.specs.declared.channel_state.ChannelState.{ChannelState}
use Rattle.mum_rules_tree.specs.declared.message.TreeMessage.TheVariants.{State}
use Rattle.mum_rights_laws.specs.{Standing.OfLasting, TreeCommands.AsksToChange, TreeCommands.OfTreeCommands}

-- the channel is as the message asks, and what is not asked is as it was
pub record IsChanged (asked : ChannelState) (was now : Channel) : Type 0 where
  pub name : now.name ≡ unwrap_or asked.name was.name
  pub parent : now.parent.0 ≡ unwrap_or asked.parent was.parent.0
  pub description : now.info.description ≡ unwrap_or asked.description was.info.description
  pub position : now.info.position ≡ unwrap_or asked.position was.info.position
  pub max_users : now.info.max_users ≡ unwrap_or asked.max_users was.info.max_users

-- the channel that a ChannelState names is as it asks
abbrev pub ChannelStatesAreDone : Type 0
ChannelStatesAreDone =
    OfTreeCommands (λ before after own message. OfLasting before after (λ was now. (asked : ChannelState)
    → AsksToChange message was.channel.id asked → IsChanged asked was.channel now.channel))

-- a channel that no ChannelState names is as it was
abbrev pub OtherChannelsStand : Type 0
OtherChannelsStand = OfTreeCommands (λ before after own message. OfLasting before after (λ was now.
    ((asked : ChannelState) → ¬ AsksToChange message was.channel.id asked) → now ≡ was))

-- the new channel is as the message asks; what it does not say is empty, false or 0
pub record IsNew (asked : ChannelState) (now : Channel) : Type 0 where
  pub name : now.name ≡ unwrap_or asked.name []
  pub temporary : now.temporary ≡ unwrap_or asked.temporary false
  pub description : now.info.description ≡ unwrap_or asked.description []
  pub position : now.info.position ≡ unwrap_or asked.position (pos 0)
  pub max_users : now.info.max_users ≡ unwrap_or asked.max_users 0

-- a channel that comes is as the message asks
abbrev pub ChannelsAreMadeAsAsked : Type 0
ChannelsAreMadeAsAsked = OfTreeCommands (λ before after own message. (id : ChannelId) (now : Row) (asked : ChannelState)
    → row_of before.tree.channels id ≡ None → row_of after.tree.channels id ≡ Some now → message ≡ State asked
    → IsNew asked now.channel)
