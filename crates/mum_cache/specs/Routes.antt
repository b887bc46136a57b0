-- What is kept of the routes of a state.
use Rattle.std.specs.Prelude.{◌≡◌, ◌⊎◌, ℕ, ◌+◌, ◌*◌, ◌<◌, ◌≤◌, false, None, List, replicate, set, slice_index_or, IsSome, IsTrue}
use Rattle.mum_base.specs.declared.number.{SessionId.SessionId, Slot.Slot, TheConstants.SLOTS}
use Rattle.mum_users.specs.Sessions.{session_of}
use Rattle.mum_state.specs.{Laws.IsInSlot, State.StateValue}
use Rattle.mum_route.specs.declared.routes.TheConstants.{LOOPBACK}
use Rattle.mum_route.specs.{Aims.members_by, Route.Member, Route.route}
use Rattle.mum_cache.specs.declared.routes.RouteEntry.{RouteEntry}
use Rattle.mum_cache.specs.Places.{slot_of}

-- ---- the entries, by slot and target; loopback has none

-- a place where nothing is kept
abbrev pub no_route : RouteEntry
no_route = record { used = false; speaker = record { 0 = 0 }; routing = 0; reached = replicate SLOTS None }

-- nothing is kept
unfoldable pub no_routes : List RouteEntry
no_routes = replicate (SLOTS * LOOPBACK) no_route

-- where an entry is: those of one target for all slots, and after them those of the next
abbrev pub route_index : ℕ → ℕ → ℕ
route_index slot target = target * SLOTS + slot

abbrev pub route_entry_at : List RouteEntry → ℕ → ℕ → RouteEntry
route_entry_at entries slot target = slice_index_or entries (route_index slot target) no_route

-- who hears, as an entry reports it: it keeps how each session is reached, by its place among the sessions
abbrev pub audience_of : StateValue → RouteEntry → List Member
audience_of state entry = members_by state.roster.sessions entry.reached

-- ---- which of them are right

-- an entry of this slot is valid: its speaker is in the slot, and the routing count is that of the state
pub record RouteStands (state : StateValue) (slot : ℕ) (entry : RouteEntry) : Type 0 where
  pub seated : IsInSlot state entry.speaker (record { 0 = slot })
  pub routing : entry.routing ≡ state.counts.routing

-- The count is not above the state's, and the number not above the last that the state gave. A speaker that is there has
-- this slot. One that is valid has the route of the speaker and the target.
pub record RouteSound (state : StateValue) (slot target : ℕ) (entry : RouteEntry) : Type 0 where
  pub routing : entry.routing ≤ state.counts.routing
  pub speaker_given : entry.speaker.0 ≤ state.roster.last
  pub seated : (own : Slot) → IsInSlot state entry.speaker own → own.0 ≡ slot
  pub value : RouteStands state slot entry → audience_of state entry ≡ route state entry.speaker target

-- each entry that is kept is sound
abbrev pub AreRoutesSound : StateValue → List RouteEntry → Type 0
AreRoutesSound state entries =
    (slot target : ℕ) → slot < SLOTS → target < LOOPBACK → IsTrue (route_entry_at entries slot target).used
    → RouteSound state slot target (route_entry_at entries slot target)

-- ---- what is asked

-- where the answer for a speaker that is there is kept
abbrev pub route_index_of : StateValue → SessionId → ℕ → ℕ
route_index_of state speaker target = route_index (slot_of state speaker) target

-- the entry that is kept at their place
abbrev pub route_kept_at : StateValue → SessionId → ℕ → List RouteEntry → RouteEntry
route_kept_at state speaker target entries = route_entry_at entries (slot_of state speaker) target

-- the speaker is there, and its entry for the target is of it, and has the routing count of the state: so it is valid
pub record RouteAnswers (state : StateValue) (speaker : SessionId) (target : ℕ)
    (entries : List RouteEntry) : Type 0 where
  pub there : IsSome (session_of state.roster speaker)
  pub aimed : target < LOOPBACK
  pub used : IsTrue (route_kept_at state speaker target entries).used
  pub speaker_is : (route_kept_at state speaker target entries).speaker ≡ speaker
  pub routing : (route_kept_at state speaker target entries).routing ≡ state.counts.routing

-- an entry of the speaker, with the count of the state and the answer
pub record IsRouteEntry (state : StateValue) (speaker : SessionId) (target : ℕ) (entry : RouteEntry) : Type 0 where
  pub used : IsTrue entry.used
  pub speaker_is : entry.speaker ≡ speaker
  pub routing : entry.routing ≡ state.counts.routing
  pub value : audience_of state entry ≡ route state speaker target

-- such an entry is at the place of the speaker and the target, and every other one is as it was
abbrev pub KeepsRoute : StateValue → SessionId → ℕ → List RouteEntry → List RouteEntry → Type 0
KeepsRoute state speaker target before later =
    (entry : RouteEntry) × IsRouteEntry state speaker target entry
    × (later ≡ set before (route_index_of state speaker target) entry)

-- What an answer for a speaker and a target leaves. Where the speaker is there, and the target is not loopback, their
-- entry is at its place, with the count and the route of the state, and every other entry is as it was. Else all of them are.
pub record KeepsAsked (state : StateValue) (speaker : SessionId) (target : ℕ)
    (before later : List RouteEntry) : Type 0 where
  pub kept : IsSome (session_of state.roster speaker) → target < LOOPBACK → KeepsRoute state speaker target before later
  pub stands : IsSome (session_of state.roster speaker) → target < LOOPBACK
      → IsRouteEntry state speaker target (route_kept_at state speaker target later)
  pub unkept : (session_of state.roster speaker ≡ None) ⊎ (LOOPBACK ≤ target) → later ≡ before
