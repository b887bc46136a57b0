-- Lists of channels in which one is looked up.
use Rattle.std.specs.Prelude.{◌≡◌, List}
use Rattle.std.specs.List.Sorted.{IsNonDecreasingBy}
use Rattle.mum_base.specs.Channels.{is_among}
use Rattle.mum_base.specs.declared.number.ChannelId.{ChannelId}

-- the second list has the channels of the first, in the order of their numbers
pub record IsByNumber (named sorted : List ChannelId) : Type 0 where
  pub rise : IsNonDecreasingBy (λ (channel : ChannelId). channel.0) sorted
  pub same : (channel : ChannelId) → is_among sorted channel ≡ is_among named channel
