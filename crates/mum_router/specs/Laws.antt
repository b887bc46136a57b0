-- What holds of all that a router keeps.
use Rattle.std.specs.Prelude.{◌≡◌, ◌≢◌, ℕ, ◌<◌, ◌≤◌, List, [], ◌∷◌, Some, IsSome, slice_get}
use Rattle.std.specs.List.{All}
use Rattle.mum_base.specs.declared.number.SessionId.{SessionId}
use Rattle.mum_users.specs.Sessions.{session_of}
use Rattle.mum_voice.specs.Packet.{Parts}
use Rattle.mum_state.specs.declared.edit.Edit.{Edit}
use Rattle.mum_state.specs.Proper.{IsProper}
use Rattle.mum_route.specs.declared.routes.TheConstants.{LOOPBACK}
use Rattle.mum_route.specs.Hearers.{hearers_at}
use Rattle.mum_published.specs.{Calls.state_of, Facts.Opening}
use Rattle.mum_cache.specs.declared.routes.RouteEntry.{RouteEntry}
use Rattle.mum_cache.specs.Routes.{IsRouteEntry, route_kept_at}
use Rattle.mum_router.specs.declared.offering.Routed.{Routed}
use Rattle.mum_router.specs.{Facts.RouterFacts, Offering.Delivery, Routing.RoutesAt}

-- a route changes the pass of no box in whose slot nobody hears the packet
abbrev pub OtherBoxesStay : Type 0
OtherBoxesStay =
    (opening : Opening) (old : RouterFacts) (speaker : SessionId) (packet : Parts) (edits : List Edit)
    (deliveries : List Delivery)
    (new : RouterFacts) (routed : Routed) → RoutesAt opening old speaker packet edits deliveries new routed
    → (slot : ℕ) → All (λ hearer. hearer.slot.0 ≢ slot) (hearers_at (state_of opening edits) speaker packet.target)
    → slice_get new.outs slot ≡ slice_get old.outs slot

-- ---- the routes that are kept

-- a packet that was routed: whose it was, what it was, and the edits that its look saw
pub record RoutedPacket : Type 0 where
  pub speaker : SessionId
  pub packet : Parts
  pub edits : List Edit

-- these packets are routed, one after another
abbrev pub RoutesEach : Opening → RouterFacts → List RoutedPacket → RouterFacts → Type 0
RoutesEach opening old [] new = new ≡ old
RoutesEach opening old (one ∷ more) new =
    (deliveries : List Delivery) × (routed : Routed) × (mid : RouterFacts)
    × RoutesAt opening old one.speaker one.packet one.edits deliveries mid routed × RoutesEach opening mid more new

-- the session is in the state to which these edits lead
abbrev pub IsIn : Opening → List Edit → SessionId → Type 0
IsIn opening edits session = IsSome (session_of (state_of opening edits).roster session)

-- of a packet at this place of these, its speaker and target have an entry among the routes that are kept: that of the look
-- of this packet, or of a later one of the same speaker and target, with the count and the route of the state of that look
pub record HasEntry (opening : Opening) (packets : List RoutedPacket) (place : ℕ) (one : RoutedPacket)
    (seen : List Edit) (routes : List RouteEntry) : Type 0 where
  pub later : ℕ
  pub last : RoutedPacket
  pub not_before : place ≤ later
  pub there : slice_get packets later ≡ Some last
  pub speaker_is : last.speaker ≡ one.speaker
  pub target_is : last.packet.target ≡ one.packet.target
  pub entry : IsRouteEntry (state_of opening last.edits) one.speaker one.packet.target
      (route_kept_at (state_of opening seen) one.speaker one.packet.target routes)

-- each of these packets has its entry whose target is not loopback, and whose speaker is both in the state of its look and
-- in the state that was seen last
abbrev pub HaveEntries : Opening → List RoutedPacket → List Edit → List RouteEntry → Type 0
HaveEntries opening packets seen routes =
    (place : ℕ) (one : RoutedPacket) → slice_get packets place ≡ Some one → one.packet.target < LOOPBACK
    → IsIn opening one.edits one.speaker → IsIn opening seen one.speaker
    → HasEntry opening packets place one seen routes

-- routes that were found stay, while others are
abbrev pub EntriesStay : Type 0
EntriesStay =
    (opening : Opening) (old new : RouterFacts) (packets : List RoutedPacket) → IsProper opening.state
    → old.pass.opening ≡ opening
    → RoutesEach opening old packets new → HaveEntries opening packets new.pass.seen new.caches.routes
