-- How a copy says that the packet reached its session: "Voice data" of the Mumble protocol documentation.
use Rattle.std.specs.Prelude.{ℕ, nat_lt, Option, Some, None, if◌then◌else◌}
use Rattle.mum_route.specs.declared.context.Context.{Context}
use Rattle.mum_route.specs.declared.context.Context.TheVariants.{Talk, ChannelWhisper, DirectWhisper, Listener}

-- the numbers of the protocol; that a listener's is 3 is this server's own choice
abbrev pub code : Context → ℕ
code Talk = 0
code ChannelWhisper = 1
code DirectWhisper = 2
code Listener = 3

-- of two ways in which a packet reaches a session, the one whose number is lower
abbrev pub first_of : Option Context → Option Context → Option Context
first_of None other = other
first_of (Some context) None = Some context
first_of (Some context) (Some other) = if nat_lt (code other) (code context) then Some other else Some context
