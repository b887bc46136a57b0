-- The parts of a route of a worker as steps of the core.
use mathlib.Core.List.{IsPrefix}
use Rattle.std.specs.Prelude.{◌≡◌, ℕ, ◌<◌, ◌≤◌, Bool, List, [], ◌∷◌, Option, Some, None, length, map, slice_get, slice_set}
use Rattle.mum_base.specs.declared.number.SessionId.{SessionId}
use Rattle.mum_voice.specs.Packet.{Parts}
use Rattle.mum_outbox.specs.Facts.{PassFacts as BoxFacts}
use Rattle.mum_record.specs.declared.step.Step.TheVariants.{Look, Offer}
use Rattle.mum_state.specs.declared.edit.Edit.{Edit}
use Rattle.mum_published.specs.Facts.{Opening, PassFacts}
use Rattle.mum_parcel.specs.Facts.{VoiceFacts}
use Rattle.mum_router.specs.{Facts.RouterFacts, Routing.RoutesAt}
use Rattle.mum_router.specs.Offering.{Delivers, Delivery, Outs, was_sent}
use Rattle.mum_router.specs.declared.offering.Routed.{Routed}
use Rattle.mum_core.specs.{Core.CoreState, Core.outbox_at, Core.worker_at, Step.does, Step.illegal}
use Rattle.mum_core.specs.{Worker.HeldPacket, Worker.WorkerState, Worker.least_look, steps.Look.outgoing}
use Rattle.mum_core.specs.steps.Offer.{has_room, put}
use Rattle.mum_core.specs.declared.{outbox.Parcel.Parcel, worker.Outgoing.Outgoing}

-- a worker of the core that has seen what this pass saw last, and whose next look is no earlier than what the pass
-- knows. It holds this packet, and has these copies left to offer
pub record StandsAt (pass : PassFacts) (held : Option HeldPacket) (copies : List Outgoing)
    (worker : WorkerState) : Type 0 where
  pub seen_is : worker.seen ≡ length pass.seen
  pub least_is : least_look worker ≡ length pass.known
  pub held_is : worker.held ≡ held
  pub copies_are : worker.copies ≡ copies

-- the core has published these edits, or more, after this opening
pub record HasPublished (opening : Opening) (edits : List Edit) (core : CoreState) : Type 0 where
  pub opening_is : core.opening ≡ opening.state
  pub begin : IsPrefix edits core.accepted
  pub shown : length edits ≤ core.published

-- a packet that a worker of the core holds
abbrev pub held_packet : SessionId → Parts → HeldPacket
held_packet speaker packet = record { speaker = speaker; parts = packet }

-- what a look of the core finds for those to whom copies were offered
abbrev pub copies_for : SessionId → Parts → List Delivery → List Outgoing
copies_for speaker packet deliveries =
    map (λ delivery. outgoing (held_packet speaker packet) delivery.hearer) deliveries

-- a route of a worker, at a list of edits that the core has published, begins with the step Look at that revision:
-- the step is allowed, and the copies that it leaves to the worker are those that the route offers, in their order
abbrev pub LooksAreLooks : Type 0
LooksAreLooks =
    (opening : Opening) (old new : RouterFacts) (speaker : SessionId) (packet : Parts) (edits : List Edit)
    (deliveries : List Delivery) (routed : Routed)
    → RoutesAt opening old speaker packet edits deliveries new routed
    → (core : CoreState) (w : ℕ) → w < length core.workers → HasPublished opening edits core
    → StandsAt old.pass (Some (held_packet speaker packet)) [] (worker_at core w)
    → (illegal core (Look w (length edits)) ≡ None)
    × StandsAt new.pass None (copies_for speaker packet deliveries) (worker_at (does core (Look w (length edits))) w)

-- a copy that lies in a box, as the core has it
abbrev pub parcel_of_core : VoiceFacts → Parcel
parcel_of_core copy = record { to = copy.to; bytes = copy.bytes }

-- the copy is offered once to the box of its slot, which takes it as an outbox of the core would; no other box changes
pub record PutsCopy (next : Outgoing) (sent : Bool) (outs after : Outs) : Type 0 where
  pub before : BoxFacts VoiceFacts
  pub later : BoxFacts VoiceFacts
  pub box : slice_get outs next.slot.0 ≡ Some before
  pub offered : map parcel_of_core later.offered ≡ put sent next (map parcel_of_core before.offered)
  pub others : after ≡ slice_set outs next.slot.0 later

-- each offer of a route is the step Offer: the first copy that is left, once, to the box of its slot. Where an outbox
-- of the core has room exactly where the box had, it has the copy as well
abbrev pub OffersAreOffers : Type 0
OffersAreOffers =
    (edits : List Edit) (speaker : SessionId) (packet : Parts) (outs : Outs) (delivery : Delivery) (after : Outs)
    → Delivers edits speaker packet outs delivery after
    → (pass : PassFacts) (rest : List Outgoing) (core : CoreState) (w : ℕ) → w < length core.workers
    → StandsAt pass None (outgoing (held_packet speaker packet) delivery.hearer ∷ rest) (worker_at core w)
    → (illegal core (Offer w) ≡ None)
    × StandsAt pass None rest (worker_at (does core (Offer w)) w)
    × PutsCopy (outgoing (held_packet speaker packet) delivery.hearer) (was_sent delivery) outs after
    × (delivery.hearer.slot.0 < length core.outboxes → has_room core delivery.hearer.slot.0 ≡ was_sent delivery
    → outbox_at (does core (Offer w)) delivery.hearer.slot.0
    ≡ put (was_sent delivery) (outgoing (held_packet speaker packet) delivery.hearer)
    (outbox_at core delivery.hearer.slot.0))
