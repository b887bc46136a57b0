-- What a route depends on in a state.
use Rattle.std.specs.Prelude.{false, List, [], map}
use Rattle.mum_tree.specs.declared.channel.Row.{Row}
use Rattle.mum_tree.specs.State.{TreeState, plain_info}
use Rattle.mum_users.specs.declared.user.User.{User}
use Rattle.mum_users.specs.State.{RosterState}
use Rattle.mum_state.specs.State.{PolicyRow, StateValue}

-- the parts of a state on which a route depends: it reads nothing else, and not all of these
pub record RouteInputs : Type 0 where
  pub tree : TreeState
  pub policies : List PolicyRow
  pub roster : RosterState

-- names and what describes a channel are not read
abbrev pub without_text : Row → Row
without_text row = record row { channel = record row.channel { name = []; info = plain_info } }

-- nor are a session's comment, its context, and whether it has priority or records
abbrev pub without_talk : User → User
without_talk user = record user { comment = []; context = []; priority = false; recording = false }

abbrev pub route_inputs : StateValue → RouteInputs
route_inputs state = record {
  tree = record state.tree { channels = map without_text state.tree.channels };
  policies = state.policies;
  roster = record state.roster { sessions = map without_talk state.roster.sessions };
}
