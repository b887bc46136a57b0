-- A speaker that is there, and its entry, as the code knows it.
use Rattle.std.specs.Prelude.{◌≡◌, ℕ, ◌<◌, ◌==◌, ◌&&◌, Bool, Some, IsTrue}
use Rattle.mum_base.specs.declared.number.{SessionId.SessionId, TheConstants.SLOTS}
use Rattle.mum_tree.specs.Rows.{is_there}
use Rattle.mum_users.specs.declared.user.User.{User}
use Rattle.mum_users.specs.Sessions.{session_of}
use Rattle.mum_state.specs.{Proper.IsProper, State.StateValue}
use Rattle.mum_cache.specs.declared.routes.RouteEntry.{RouteEntry}

pub record IsSpeaker (state : StateValue) (speaker : User) : Type 0 where
  pub proper : IsProper state
  pub own : session_of state.roster speaker.session ≡ Some speaker
  pub there : IsTrue (is_there state.tree.channels speaker.channel)
  pub slot : speaker.slot.0 < SLOTS

abbrev pub answers_here : SessionId → ℕ → RouteEntry → Bool
answers_here speaker routing entry = entry.used && (entry.speaker.0 == speaker.0) && (entry.routing == routing)
