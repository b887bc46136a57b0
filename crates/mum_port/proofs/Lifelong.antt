-- What holds of a connection from its taking in on.
use Rattle.mum_port.proofs.Common.{◌≡◌, ℕ, false, List, ◌++◌, Option, Some, None, refl, sym, ap, subst, ◌∙◌, All, flat_map, append-nil, Cause, End, SessionId, Frame, HasNoFrame, IsFrame, frame_spelling, IsFront, Splits, longest-Splits, LinkFacts, Machine, PortDid, bytes_of, PortFacts, new_port, Event, Lives, Steps, bytes_queued, bytes_taken, bytes_written, frames_handled, is_closed, Settled}
use Rattle.mum_port.proofs.Living.{life_handled, life_wrote}

module _ {L V : Type 0} (facts : L → LinkFacts) (routed : V → ℕ → SessionId → List ℕ → V → Type 0) where
  pub conserved : (connection worker : ℕ) (link : L) (events : List Event) (port : PortFacts L)
      → Lives facts routed (new_port connection worker link) events port
      → (rest : List ℕ) × (bytes_taken events ≡ flat_map frame_spelling (frames_handled events) ++ rest) × All IsFrame (frames_handled events) × (is_closed port.stage ≡ false → rest ≡ port.framer.kept)
  conserved connection worker link events port lives =
      let all = life_handled facts routed (new_port connection worker link) events port lives in
      (all.rest, all.bytes, all.each, all.kept)

  pub front_of : (connection worker : ℕ) (link : L) (events : List Event) (port : PortFacts L) (frames : List Frame) (rest : List ℕ)
      → Lives facts routed (new_port connection worker link) events port → Splits (bytes_taken events) frames rest → IsFront (frames_handled events) frames
  front_of connection worker link events port frames rest lives splits =
      let all = life_handled facts routed (new_port connection worker link) events port lives in
      longest-Splits (bytes_taken events) rest all.rest frames (frames_handled events) splits all.each all.bytes

  -- a close at the end of the link: the port was open, and kept no whole frame
  closed_at_end : (old : PortFacts L) (machine : Machine) (did : PortDid) (new : PortFacts L) (closed : Option Cause) → did.closed ≡ closed → closed ≡ Some End
      → Steps facts routed old machine did new → Settled facts old did new closed
      → (is_closed old.stage ≡ false) × HasNoFrame old.framer.kept
  closed_at_end old machine did new None is end steps settled = absurd (cc end)
  closed_at_end old machine did new (Some cause) is end steps closes =
      let same : cause ≡ End = cc end in
      let at_end = subst (λ (x : Cause). Settled facts old did new (Some x)) same closes in
      let lost : old.framer.kept ≡ did.lost =
      sym (append-nil old.framer.kept)
      ∙ (ap (λ (l : List ℕ). old.framer.kept ++ l) (sym at_end.shown.2)
      ∙ (steps.turn.reads.bytes
      ∙ (ap (λ (f : Option Frame). bytes_of f ++ (new.framer.kept ++ did.lost)) at_end.shown.1
      ∙ ap (λ (f : _). f.kept ++ did.lost) at_end.framer_empty))) in
      (at_end.was_open, subst HasNoFrame (sym lost) at_end.shown.3)

  pub end_has_all : (connection worker : ℕ) (link : L) (events : List Event) (port last : PortFacts L) (machine : Machine) (did : PortDid)
      → Lives facts routed (new_port connection worker link) events port → Steps facts routed port machine did last
      → did.closed ≡ Some End → Splits (bytes_taken events) (frames_handled events) port.framer.kept
  end_has_all connection worker link events port last machine did lives steps ends =
      let all = life_handled facts routed (new_port connection worker link) events port lives in
      let at_end = closed_at_end port machine did last did.closed refl ends steps steps.turn.ends.settled in record {
        whole = all.bytes ∙ ap (λ (l : List ℕ). flat_map frame_spelling (frames_handled events) ++ l) (all.kept at_end.0);
        each = all.each;
        no_frame = at_end.1;
      }

  pub written_in_order : (connection worker : ℕ) (link : L) (events : List Event) (port : PortFacts L)
      → Lives facts routed (new_port connection worker link) events port
      → (rest : List ℕ) × (bytes_queued events ≡ bytes_written events ++ rest) × (is_closed port.stage ≡ false → rest ≡ port.out)
  written_in_order connection worker link events port lives =
      let all = life_wrote facts routed (new_port connection worker link) events port lives in
      (all.rest, all.bytes, all.kept)
