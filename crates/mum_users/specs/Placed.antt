-- The placement of all sessions at once.
use Rattle.std.specs.Prelude.{◌==◌, Bool, map, not}
use Rattle.mum_users.specs.declared.{placing.Placement.Placement, user.User.User}
use Rattle.mum_users.specs.State.{RosterState}

-- the session has its placement: in this channel, and it may speak there or not
abbrev pub with_placement : (User → Placement) → User → User
with_placement placement_of user = let placement : Placement = placement_of user in record user { channel = placement.channel; suppress = placement.suppress }

-- its placement is in another channel
abbrev pub is_moved : (User → Placement) → User → Bool
is_moved placement_of user = not ((placement_of user).channel.0 == user.channel.0)

-- each session has its placement, and nothing else is changed
abbrev pub with_placements : (User → Placement) → RosterState → RosterState
with_placements placement_of state = record state { sessions = map (with_placement placement_of) state.sessions }
