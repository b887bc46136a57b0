-- Lists of channels.
use Rattle.std.specs.Prelude.{◌==◌, Bool, List}
use Rattle.std.specs.List.{list_any}
use Rattle.mum_base.specs.declared.number.ChannelId.{ChannelId}

-- the channel is among these
abbrev pub is_among : List ChannelId → ChannelId → Bool
is_among ids id = list_any (λ one. one.0 == id.0) ids
