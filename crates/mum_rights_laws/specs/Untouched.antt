-- What no message on users changes.
use Rattle.std.specs.Prelude.{◌≡◌, ◌⊎◌, Some, None}
use Rattle.mum_base.specs.declared.number.ChannelId.{ChannelId}
use Rattle.mum_tree.specs.Rows.{row_of}
use Rattle.mum_tree.specs.declared.channel.Row.{Row}
use Rattle.mum_state.specs.State.{StateValue, policy_of}
use Rattle.mum_rights_laws.specs.Standing.{IsEmptied, IsSetAsBefore, LinkedAsBefore}
use Rattle.mum_rights_laws.specs.UserCommands.{OfUserCommands}

-- channels stay as they are, with their policies and links, but for a temporary one that is emptied; and none comes
pub record ChannelsStandIn (before after : StateValue) : Type 0 where
  pub stay : (id : ChannelId) (was : Row) → row_of before.tree.channels id ≡ Some was
      → ((row_of after.tree.channels id ≡ Some was) × (policy_of after id ≡ policy_of before id))
      ⊎ ((row_of after.tree.channels id ≡ None) × IsEmptied before after was)
  pub none_come : (id : ChannelId) → row_of before.tree.channels id ≡ None → row_of after.tree.channels id ≡ None
  pub linked : (one other : ChannelId) → LinkedAsBefore before after one other

abbrev pub ChannelsStand : Type 0
ChannelsStand = OfUserCommands (λ before after own tokens message. ChannelsStandIn before after)

abbrev pub SettingsStand : Type 0
SettingsStand = OfUserCommands (λ before after own tokens message. IsSetAsBefore before after)
