-- A copy for one who hears a packet is what the rules give.
use Rattle.mum_router.proofs.Common.{◌≡◌, ◌∙◌, ℕ, List, refl, subst, sym, Contains, SessionId, Hears, note_known, state_of, NoteFacts, Opening, Marked, Hearer, copy_for, hearers_at, Edit, IsPacket, Parts, IsOfSame, Delivers, DeliversEach, Delivery, Outs, Draft}
use Rattle.mum_published.specs.Facts.{PassFacts}

pub hears_copy : (opening : Opening) (edits : List Edit) (speaker : SessionId) (packet : Parts) (hearer : Hearer) (bytes : List ℕ)
    → IsPacket packet → Contains (hearers_at (state_of opening edits) speaker packet.target) hearer → bytes ≡ copy_for speaker packet hearer
    → Hears opening edits hearer.session bytes
hears_copy opening edits speaker packet hearer bytes valid there copied = record {
  speaker = speaker;
  packet = packet;
  valid = valid;
  hearer = hearer;
  in_route = there;
  session_is = refl;
  copied = copied;
}

pub same_on : (old mid new : Draft) → IsOfSame old mid → IsOfSame mid new → IsOfSame old new
same_on old mid new one other = record { speaker = other.speaker ∙ one.speaker; note = other.note ∙ one.note }

-- who is in a route at the edits of a draft is in it at those of another of the same
pub in_route : (opening : Opening) (first draft : Draft) (target : ℕ) (hearers : List Hearer) (hearer : Hearer) → IsOfSame first draft
    → hearers ≡ hearers_at (state_of opening first.note.edits) first.speaker target → Contains hearers hearer
    → Contains (hearers_at (state_of opening draft.note.edits) draft.speaker target) hearer
in_route opening first draft target hearers hearer same are there =
    subst (λ (s : SessionId). Contains (hearers_at (state_of opening draft.note.edits) s target) hearer) (sym same.speaker)
    (subst (λ (n : NoteFacts). Contains (hearers_at (state_of opening n.edits) first.speaker target) hearer) (sym same.note)
    (subst (λ (hs : List Hearer). Contains hs hearer) are there))

pub same_delivers : (first draft : Draft) (packet : Parts) (outs : Outs) (delivery : Delivery) (after : Outs) → IsOfSame first draft
    → Delivers draft.note.edits draft.speaker packet outs delivery after → Delivers first.note.edits first.speaker packet outs delivery after
same_delivers first draft packet outs delivery after same delivers =
    subst (λ (s : SessionId). Delivers first.note.edits s packet outs delivery after) same.speaker
    (subst (λ (n : NoteFacts). Delivers n.edits draft.speaker packet outs delivery after) same.note delivers)

-- the copies of a draft with the note of what a pass knows
pub of_draft : (pass : PassFacts) (note : NoteFacts) (draft : Draft) (speaker : SessionId) (packet : Parts) (hearers : List Hearer) (outs after : Outs) (marks : List Marked) (sent : ℕ)
    → note ≡ note_known pass → draft.note ≡ note → draft.speaker ≡ speaker
    → DeliversEach draft.note.edits draft.speaker packet hearers outs after marks sent → DeliversEach pass.known speaker packet hearers outs after marks sent
of_draft pass note draft speaker packet hearers outs after marks sent known noted its each =
    subst (λ (s : SessionId). DeliversEach pass.known s packet hearers outs after marks sent) its
    (subst (λ (n : NoteFacts). DeliversEach n.edits draft.speaker packet hearers outs after marks sent) (noted ∙ known) each)
