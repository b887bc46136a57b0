-- A port that is closed does nothing more in its step but put its farewell.
use Rattle.mum_port.proofs.Common.{◌≡◌, ℕ, Bool, true, false, IsTrue, List, [], Option, Some, None, refl, sym, ap, ◌∙◌, inl, inr, true≢false, not, length, ◌==◌, SessionId, LinkFacts, QueueFacts, PortFacts, may_handle, may_write, stage_after_put, is_closed, is_live, CollectsBehind, CollectsPost, DrainsVoice, Handles, Reads, TakesParcels, Writes, has_taken, DeskItem, Taking, Stage, Live, Ending, Closed, Went, NotDue}
use Rattle.mum_port.proofs.{BoxParts.post_of, BoxParts.taking-is, BoxParts.voice_of, Closing.and-left, Closing.live-is, HandlePart.handled_of, Parcels.post_behind, Parcels.post_taken, Parcels.voice_taken, WritePart.wrote_of}

-- a live port is open
pub live-open : (stage : Stage) → stage ≡ Live → is_closed stage ≡ false
live-open stage live = ap is_closed live

module _ {L : Type 0} where
  pub may-live : (port : PortFacts L) → IsTrue (may_handle port) → port.stage ≡ Live
  may-live port may = live-is port.stage (and-left (is_live port.stage) _ may)

  closed_live : (port : PortFacts L) → is_closed port.stage ≡ true → port.stage ≡ Live → {P : Type 0} → P
  closed_live port closed live = absurd (true≢false (sym closed ∙ live-open port.stage live))

  pub handle-rests : {V : Type 0} (routed : V → ℕ → SessionId → List ℕ → V → Type 0) (old : PortFacts L) (router : V) (went : Went) (new : PortFacts L) (router_after : V)
      (handles : Handles routed old router went new router_after)
      → is_closed old.stage ≡ true → (went ≡ NotDue) × (handled_of routed old router went new router_after handles ≡ None) × (new ≡ old)
  handle-rests routed old router went new router_after (inl never) closed = (never.0.so, refl, never.0.same)
  handle-rests routed old router went new router_after (inr one) closed = closed_live old closed (may-live old one.allowed)

  post-rests : (posts : List QueueFacts) (old : PortFacts L) (took : Taking) (new : PortFacts L) (collects : CollectsPost posts old took new)
      → is_closed old.stage ≡ true → (post_of posts old took new collects ≡ None) × (new ≡ old)
  post-rests posts old took new (inl nothing) closed = (refl, nothing.same)
  post-rests posts old took new (inr one) closed = closed_live old closed (taking-is old one.session one.allowed).0

  voice-rests : (voices : List QueueFacts) (old : PortFacts L) (took : Taking) (new : PortFacts L) (drains : DrainsVoice voices old took new)
      → is_closed old.stage ≡ true → (voice_of voices old took new drains ≡ None) × (new ≡ old)
  voice-rests voices old took new (inl nothing) closed = (refl, nothing.same)
  voice-rests voices old took new (inr one) closed = closed_live old closed (taking-is old one.session one.allowed).0

  behind-rests : (posts : List QueueFacts) (taken : Bool) (old : PortFacts L) (took : Taking) (new : PortFacts L) (collects : CollectsBehind posts taken old took new)
      → is_closed old.stage ≡ true → (post_behind posts taken old took new collects ≡ None) × (new ≡ old)
  behind-rests posts true old took new collects closed = (refl, collects.1)
  behind-rests posts false old took new collects closed = post-rests posts old took new collects closed

  pub takes-rest : (posts voices : List QueueFacts) (old : PortFacts L) (posted heard : Taking) (new : PortFacts L) (takes : TakesParcels posts voices old posted heard new)
      → is_closed old.stage ≡ true → (post_taken posts voices old posted heard new takes ≡ None) × (voice_taken posts voices old posted heard new takes ≡ None) × (new ≡ old)
  takes-rest posts voices old posted heard new (inl first) closed =
      let one = post-rests posts old posted first.mid first.collects closed in
      let two = voice-rests voices first.mid heard new first.drains (ap (λ (p : PortFacts L). is_closed p.stage) one.1 ∙ closed) in
      (one.0, two.0, two.1 ∙ one.1)
  takes-rest posts voices old posted heard new (inr first) closed =
      let one = voice-rests voices old heard first.mid first.drains closed in
      let two = behind-rests posts (has_taken heard) first.mid posted new first.collects (ap (λ (p : PortFacts L). is_closed p.stage) one.1 ∙ closed) in
      (two.0, one.0, two.1 ∙ one.1)

  pub may_write-open : (port : PortFacts L) → IsTrue (may_write port) → is_closed port.stage ≡ false
  may_write-open port may = opened (is_closed port.stage) (and-left (not (is_closed port.stage)) (not (length port.out == 0)) may)
    where
      opened : (closed : Bool) → not closed ≡ true → closed ≡ false
      opened false is = refl
      opened true is = absurd (true≢false (sym is))

module _ {L : Type 0} (facts : L → LinkFacts) where
  pub read-rests : (old : PortFacts L) (went : Went) (new : PortFacts L) (reads : Reads facts old went new)
      → is_closed old.stage ≡ true → (went ≡ NotDue) × (new ≡ old)
  read-rests old went new (inl never) closed = (never.so, never.same)
  read-rests old went new (inr once) closed = absurd (true≢false (sym closed ∙ live-open old.stage (may-live old once.allowed.ready)))

  pub write-rests : (old : PortFacts L) (went : Went) (new : PortFacts L) (writes : Writes facts old went new)
      → is_closed old.stage ≡ true → (went ≡ NotDue) × (wrote_of facts old went new writes ≡ []) × (new ≡ old)
  write-rests old went new (inl never) closed = (never.so, refl, never.same)
  write-rests old went new (inr once) closed = absurd (true≢false (sym closed ∙ may_write-open old once.allowed))

pub stage_after_put-closed : (waiting : Option DeskItem) (stage : Stage) → is_closed (stage_after_put waiting stage) ≡ is_closed stage
stage_after_put-closed (Some item) stage = refl
stage_after_put-closed None Live = refl
stage_after_put-closed None (Ending parting) = refl
stage_after_put-closed None (Closed cause farewell) = refl
