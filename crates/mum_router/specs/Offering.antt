-- The copies of a packet, and what became of each.
use Rattle.std.specs.Prelude.{◌≡◌, ℕ, Bool, true, false, List, filter, length, map, min, slice_get, slice_set, Some}
use Rattle.std.specs.List.{FoldsTo, sum_by}
use Rattle.mum_base.specs.declared.number.{SessionId.SessionId, TheConstants.VOICE_CAPACITY}
use Rattle.mum_voice.specs.Packet.{Parts}
use Rattle.mum_outbox.specs.{Calls.Offers, Facts.PassFacts}
use Rattle.mum_outbox.specs.declared.queue.Offered.{Offered, TheVariants.Sent, TheVariants.Full}
use Rattle.mum_outbox.specs.declared.rule.TheConstants.{LAST}
use Rattle.mum_record.specs.declared.journal.Marked.{Marked}
use Rattle.mum_state.specs.declared.edit.Edit.{Edit}
use Rattle.mum_route.specs.declared.hearer.Hearer.{Hearer}
use Rattle.mum_route.specs.Hearers.{copy_for}
use Rattle.mum_parcel.specs.Facts.{VoiceFacts}

-- the passes of the voice boxes, by their slots
abbrev pub Outs : Type 0
Outs = List (PassFacts VoiceFacts)

-- the parcel with the copy of a packet for one who hears it after these edits
abbrev pub parcel_for : List Edit → SessionId → Parts → Hearer → VoiceFacts
parcel_for edits speaker packet hearer =
    record { to = hearer.session; bytes = copy_for speaker packet hearer; edits = edits }

-- a copy that was offered: for whom, and what the box answered
pub record Delivery : Type 0 where
  pub hearer : Hearer
  pub answer : Offered VoiceFacts

-- the box took the copy
abbrev pub is_sent : Offered VoiceFacts → Bool
is_sent Sent = true
is_sent (Full back) = false

-- the box took the copy of this delivery
abbrev pub was_sent : Delivery → Bool
was_sent delivery = is_sent delivery.answer

-- a delivery as a journal has it: to whom, in which context, sent or full
abbrev pub mark_of : Delivery → Marked
mark_of delivery =
    record { session = delivery.hearer.session; context = delivery.hearer.context; sent = was_sent delivery }

-- a copy is offered once, to the box of its slot, and the pass of no other box changes
pub record Delivers (edits : List Edit) (speaker : SessionId) (packet : Parts) (outs : Outs) (delivery : Delivery)
    (after : Outs) : Type 0 where
  pub old : PassFacts VoiceFacts
  pub new : PassFacts VoiceFacts
  pub box : slice_get outs delivery.hearer.slot.0 ≡ Some old
  pub offers : Offers VOICE_CAPACITY old (parcel_for edits speaker packet delivery.hearer) delivery.answer new
  pub others : after ≡ slice_set outs delivery.hearer.slot.0 new

-- how many copies these passes offered that were sent, as far as that is counted
abbrev pub copies_of : List (PassFacts VoiceFacts) → ℕ
copies_of outs = min (sum_by (λ pass. length pass.offered) outs) LAST

-- how many of their copies found a full box, as far as that is counted
abbrev pub full_of : List (PassFacts VoiceFacts) → ℕ
full_of outs = min (sum_by (λ pass. pass.full) outs) LAST

-- a copy is offered to each of these, in their order; the marks say what became of them, and n were sent
abbrev pub DeliversEach : List Edit → SessionId → Parts → List Hearer → Outs → Outs → List Marked → ℕ → Type 0
DeliversEach edits speaker packet hearers outs after marks sent =
    (deliveries : List Delivery) × (map (λ delivery. delivery.hearer) deliveries ≡ hearers)
    × FoldsTo (Delivers edits speaker packet) outs deliveries after
    × (marks ≡ map mark_of deliveries) × (sent ≡ length (filter was_sent deliveries))
