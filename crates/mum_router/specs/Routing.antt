-- One look for a packet, and its copies.
use Rattle.std.specs.Prelude.{◌≡◌, List, filter, length, map, not}
use Rattle.std.specs.List.{FoldsTo}
use Rattle.mum_base.specs.declared.number.SessionId.{SessionId}
use Rattle.mum_voice.specs.Packet.{Parts}
use Rattle.mum_state.specs.declared.edit.Edit.{Edit}
use Rattle.mum_route.specs.Hearers.{hearers_at}
use Rattle.mum_published.specs.{Calls.MayMeet, Calls.looked, Calls.state_of, Facts.Opening}
use Rattle.mum_cache.specs.Routes.{KeepsAsked}
use Rattle.mum_router.specs.declared.offering.Routed.{Routed}
use Rattle.mum_router.specs.{Facts.RouterFacts, Picking.ask_of}
use Rattle.mum_router.specs.Offering.{Delivers, Delivery, mark_of, was_sent}

-- a look that saw these edits, and one offer for each who hears the packet at their state, in the order of the route. The
-- entry of the speaker and the target is kept. The answer counts the copies, and says how many edits the look saw
pub record RoutesAt
    (opening : Opening) (old : RouterFacts) (speaker : SessionId) (packet : Parts)
    (edits : List Edit) (deliveries : List Delivery) (new : RouterFacts) (routed : Routed) : Type 0 where
  pub may : MayMeet old.pass edits
  pub router : new ≡ record {
    pass = looked old.pass edits (ask_of speaker packet);
    caches = new.caches;
    hearers = hearers_at (state_of opening edits) speaker packet.target;
    outs = new.outs;
    marks = map mark_of deliveries;
  }
  pub entry : KeepsAsked (state_of opening edits) speaker packet.target old.caches.routes new.caches.routes
  pub each : map (λ delivery. delivery.hearer) deliveries ≡ hearers_at (state_of opening edits) speaker packet.target
  pub offers : FoldsTo (Delivers edits speaker packet) old.outs deliveries new.outs
  pub revision : routed.revision ≡ length edits
  pub sent : routed.sent ≡ length (filter was_sent deliveries)
  pub full : routed.full ≡ length (filter (λ delivery. not (was_sent delivery)) deliveries)

-- one look at what is published, and then one offer for each who hears the packet there
abbrev pub Routes : Opening → RouterFacts → SessionId → Parts → RouterFacts → Routed → Type 0
Routes opening old speaker packet new routed =
    (edits : List Edit) × (deliveries : List Delivery) × RoutesAt opening old speaker packet edits deliveries new routed
