-- Channels among the numbers of a message.
use Rattle.std.specs.Prelude.{ℕ, ◌==◌, Bool, List}
use Rattle.std.specs.List.{list_any}
use Rattle.mum_base.specs.declared.number.ChannelId.{ChannelId}

-- the channel is one of these numbers
abbrev pub is_listed : List ℕ → ChannelId → Bool
is_listed numbers channel = list_any (λ number. number == channel.0) numbers
