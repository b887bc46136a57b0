-- What the parts of a step leave of a port's passes, and of the passes in it.
use Rattle.mum_port.proofs.Common.{◌≡◌, ℕ, Bool, true, false, List, Option, Some, None, refl, sym, ap, subst, ◌∙◌, inl, inr, Cause, SessionId, LinkFacts, Takes, PassFacts, QueueFacts, PortFacts, due_item, CollectsBehind, CollectsPost, DrainsVoice, Handles, Puts, Reads, Settles, TakesParcels, Writes, desk_refused, Collects, Drains, IsPosted, IsVoiced, PassesCollect, PassesDrain, has_taken, DeskItem, Taking, PassesFacts, Stage, Went}

-- a take leaves the pass on its queue
Takes-queue : {I : Type 0} (capacity : ℕ) (pass : PassFacts I) (taken : Option I) (after : PassFacts I) → Takes capacity pass taken after → after.queue ≡ pass.queue
Takes-queue capacity pass (Some item) after takes = ap (λ (p : PassFacts _). p.queue) takes.2
Takes-queue capacity pass None after takes = ap (λ (p : PassFacts _). p.queue) takes.0

PassesCollect-posted : (posts boxes : List QueueFacts) (session : SessionId) (passes : PassesFacts) (stage : Stage) (took : Taking) (after : PassesFacts) (out : List ℕ) (stage_after : Stage)
    → PassesCollect posts session passes stage took after out stage_after → IsPosted boxes (Some passes) → IsPosted boxes (Some after)
PassesCollect-posted posts boxes session passes stage took after out stage_after (inl none) known = subst (λ (p : PassesFacts). IsPosted boxes (Some p)) (sym none.0.passes_same) known
PassesCollect-posted posts boxes session passes stage took after out stage_after (inr takes) known =
    subst (λ (p : PassesFacts). IsPosted boxes (Some p)) (sym takes.after) (λ queue found. Takes-queue _ _ _ _ takes.takes ∙ known queue found)

PassesCollect-voiced : (posts boxes : List QueueFacts) (session : SessionId) (passes : PassesFacts) (stage : Stage) (took : Taking) (after : PassesFacts) (out : List ℕ) (stage_after : Stage)
    → PassesCollect posts session passes stage took after out stage_after → IsVoiced boxes (Some passes) → IsVoiced boxes (Some after)
PassesCollect-voiced posts boxes session passes stage took after out stage_after (inl none) known = subst (λ (p : PassesFacts). IsVoiced boxes (Some p)) (sym none.0.passes_same) known
PassesCollect-voiced posts boxes session passes stage took after out stage_after (inr takes) known = subst (λ (p : PassesFacts). IsVoiced boxes (Some p)) (sym takes.after) known

PassesDrain-posted : (voices boxes : List QueueFacts) (session : SessionId) (passes : PassesFacts) (took : Taking) (after : PassesFacts) (out : List ℕ)
    → PassesDrain voices session passes took after out → IsPosted boxes (Some passes) → IsPosted boxes (Some after)
PassesDrain-posted voices boxes session passes took after out (inl none) known = subst (λ (p : PassesFacts). IsPosted boxes (Some p)) (sym none.passes_same) known
PassesDrain-posted voices boxes session passes took after out (inr takes) known = subst (λ (p : PassesFacts). IsPosted boxes (Some p)) (sym takes.after) known

PassesDrain-voiced : (voices boxes : List QueueFacts) (session : SessionId) (passes : PassesFacts) (took : Taking) (after : PassesFacts) (out : List ℕ)
    → PassesDrain voices session passes took after out → IsVoiced boxes (Some passes) → IsVoiced boxes (Some after)
PassesDrain-voiced voices boxes session passes took after out (inl none) known = subst (λ (p : PassesFacts). IsVoiced boxes (Some p)) (sym none.passes_same) known
PassesDrain-voiced voices boxes session passes took after out (inr takes) known =
    subst (λ (p : PassesFacts). IsVoiced boxes (Some p)) (sym takes.after) (λ queue found. Takes-queue _ _ _ _ takes.takes ∙ known queue found)

Collects-posted : (posts boxes : List QueueFacts) (session : SessionId) (passes : Option PassesFacts) (stage : Stage) (took : Taking) (after : Option PassesFacts) (out : List ℕ) (stage_after : Stage)
    → Collects posts session passes stage took after out stage_after → IsPosted boxes passes → IsPosted boxes after
Collects-posted posts boxes session None stage took None out stage_after collects known = tt
Collects-posted posts boxes session None stage took (Some after) out stage_after collects known = absurd collects
Collects-posted posts boxes session (Some passes) stage took None out stage_after collects known = tt
Collects-posted posts boxes session (Some passes) stage took (Some after) out stage_after collects known =
    PassesCollect-posted posts boxes session passes stage took after out stage_after collects known

Collects-voiced : (posts boxes : List QueueFacts) (session : SessionId) (passes : Option PassesFacts) (stage : Stage) (took : Taking) (after : Option PassesFacts) (out : List ℕ) (stage_after : Stage)
    → Collects posts session passes stage took after out stage_after → IsVoiced boxes passes → IsVoiced boxes after
Collects-voiced posts boxes session None stage took None out stage_after collects known = tt
Collects-voiced posts boxes session None stage took (Some after) out stage_after collects known = absurd collects
Collects-voiced posts boxes session (Some passes) stage took None out stage_after collects known = tt
Collects-voiced posts boxes session (Some passes) stage took (Some after) out stage_after collects known =
    PassesCollect-voiced posts boxes session passes stage took after out stage_after collects known

Drains-posted : (voices boxes : List QueueFacts) (session : SessionId) (passes : Option PassesFacts) (took : Taking) (after : Option PassesFacts) (out : List ℕ)
    → Drains voices session passes took after out → IsPosted boxes passes → IsPosted boxes after
Drains-posted voices boxes session None took None out drains known = tt
Drains-posted voices boxes session None took (Some after) out drains known = absurd drains
Drains-posted voices boxes session (Some passes) took None out drains known = tt
Drains-posted voices boxes session (Some passes) took (Some after) out drains known = PassesDrain-posted voices boxes session passes took after out drains known

Drains-voiced : (voices boxes : List QueueFacts) (session : SessionId) (passes : Option PassesFacts) (took : Taking) (after : Option PassesFacts) (out : List ℕ)
    → Drains voices session passes took after out → IsVoiced boxes passes → IsVoiced boxes after
Drains-voiced voices boxes session None took None out drains known = tt
Drains-voiced voices boxes session None took (Some after) out drains known = absurd drains
Drains-voiced voices boxes session (Some passes) took None out drains known = tt
Drains-voiced voices boxes session (Some passes) took (Some after) out drains known = PassesDrain-voiced voices boxes session passes took after out drains known

refused-queue : (due : Option DeskItem) (desk : PassFacts DeskItem) → (desk_refused due desk).queue ≡ desk.queue
refused-queue None desk = refl
refused-queue (Some item) desk = refl

module _ {L : Type 0} where
  pub Puts-passes : (old : PortFacts L) (desk : PassFacts DeskItem) (put : Bool) (new : PortFacts L) (after : PassFacts DeskItem) → Puts old desk put new after → new.passes ≡ old.passes
  Puts-passes old desk put new after (inl item) = ap (λ (p : PortFacts L). p.passes) item.left
  Puts-passes old desk put new after (inr nothing) = ap (λ (p : PortFacts L). p.passes) nothing.same

  pub Puts-queue : (old : PortFacts L) (desk : PassFacts DeskItem) (put : Bool) (new : PortFacts L) (after : PassFacts DeskItem) → Puts old desk put new after → after.queue ≡ desk.queue
  Puts-queue old desk put new after (inl item) = ap (λ (p : PassFacts DeskItem). p.queue) item.offered
  Puts-queue old desk put new after (inr nothing) = ap (λ (p : PassFacts DeskItem). p.queue) nothing.refused ∙ refused-queue (due_item old) desk

  pub Handles-passes : {V : Type 0} (routed : V → ℕ → SessionId → List ℕ → V → Type 0) (old : PortFacts L) (router : V) (went : Went) (new : PortFacts L) (router_after : V)
      → Handles routed old router went new router_after → new.passes ≡ old.passes
  Handles-passes routed old router went new router_after (inl never) = ap (λ (p : PortFacts L). p.passes) never.0.same
  Handles-passes routed old router went new router_after (inr one) = ap (λ (p : PortFacts L). p.passes) one.left

  pub CollectsPost-posted : (posts boxes : List QueueFacts) (old : PortFacts L) (took : Taking) (new : PortFacts L)
      → CollectsPost posts old took new → IsPosted boxes old.passes → IsPosted boxes new.passes
  CollectsPost-posted posts boxes old took new (inl nothing) known = subst (IsPosted boxes) (sym (ap (λ (p : PortFacts L). p.passes) nothing.same)) known
  CollectsPost-posted posts boxes old took new (inr one) known =
      Collects-posted posts boxes one.session old.passes old.stage took new.passes new.out new.stage one.taken known

  pub CollectsPost-voiced : (posts boxes : List QueueFacts) (old : PortFacts L) (took : Taking) (new : PortFacts L)
      → CollectsPost posts old took new → IsVoiced boxes old.passes → IsVoiced boxes new.passes
  CollectsPost-voiced posts boxes old took new (inl nothing) known = subst (IsVoiced boxes) (sym (ap (λ (p : PortFacts L). p.passes) nothing.same)) known
  CollectsPost-voiced posts boxes old took new (inr one) known =
      Collects-voiced posts boxes one.session old.passes old.stage took new.passes new.out new.stage one.taken known

  pub DrainsVoice-posted : (voices boxes : List QueueFacts) (old : PortFacts L) (took : Taking) (new : PortFacts L)
      → DrainsVoice voices old took new → IsPosted boxes old.passes → IsPosted boxes new.passes
  DrainsVoice-posted voices boxes old took new (inl nothing) known = subst (IsPosted boxes) (sym (ap (λ (p : PortFacts L). p.passes) nothing.same)) known
  DrainsVoice-posted voices boxes old took new (inr one) known =
      Drains-posted voices boxes one.session old.passes took new.passes new.out one.taken known

  pub DrainsVoice-voiced : (voices boxes : List QueueFacts) (old : PortFacts L) (took : Taking) (new : PortFacts L)
      → DrainsVoice voices old took new → IsVoiced boxes old.passes → IsVoiced boxes new.passes
  DrainsVoice-voiced voices boxes old took new (inl nothing) known = subst (IsVoiced boxes) (sym (ap (λ (p : PortFacts L). p.passes) nothing.same)) known
  DrainsVoice-voiced voices boxes old took new (inr one) known =
      Drains-voiced voices boxes one.session old.passes took new.passes new.out one.taken known

  behind-posted : (posts boxes : List QueueFacts) (taken : Bool) (old : PortFacts L) (took : Taking) (new : PortFacts L)
      → CollectsBehind posts taken old took new → IsPosted boxes old.passes → IsPosted boxes new.passes
  behind-posted posts boxes true old took new collects known = subst (λ (p : PortFacts L). IsPosted boxes p.passes) (sym collects.1) known
  behind-posted posts boxes false old took new collects known = CollectsPost-posted posts boxes old took new collects known

  behind-voiced : (posts boxes : List QueueFacts) (taken : Bool) (old : PortFacts L) (took : Taking) (new : PortFacts L)
      → CollectsBehind posts taken old took new → IsVoiced boxes old.passes → IsVoiced boxes new.passes
  behind-voiced posts boxes true old took new collects known = subst (λ (p : PortFacts L). IsVoiced boxes p.passes) (sym collects.1) known
  behind-voiced posts boxes false old took new collects known = CollectsPost-voiced posts boxes old took new collects known

  pub TakesParcels-posted : (posts voices boxes : List QueueFacts) (old : PortFacts L) (posted heard : Taking) (new : PortFacts L)
      → TakesParcels posts voices old posted heard new → IsPosted boxes old.passes → IsPosted boxes new.passes
  TakesParcels-posted posts voices boxes old posted heard new (inl first) known =
      DrainsVoice-posted voices boxes first.mid heard new first.drains (CollectsPost-posted posts boxes old posted first.mid first.collects known)
  TakesParcels-posted posts voices boxes old posted heard new (inr first) known =
      behind-posted posts boxes (has_taken heard) first.mid posted new first.collects (DrainsVoice-posted voices boxes old heard first.mid first.drains known)

  pub TakesParcels-voiced : (posts voices boxes : List QueueFacts) (old : PortFacts L) (posted heard : Taking) (new : PortFacts L)
      → TakesParcels posts voices old posted heard new → IsVoiced boxes old.passes → IsVoiced boxes new.passes
  TakesParcels-voiced posts voices boxes old posted heard new (inl first) known =
      DrainsVoice-voiced voices boxes first.mid heard new first.drains (CollectsPost-voiced posts boxes old posted first.mid first.collects known)
  TakesParcels-voiced posts voices boxes old posted heard new (inr first) known =
      behind-voiced posts boxes (has_taken heard) first.mid posted new first.collects (DrainsVoice-voiced voices boxes old heard first.mid first.drains known)

module _ {L : Type 0} (facts : L → LinkFacts) where
  pub Reads-passes : (old : PortFacts L) (went : Went) (new : PortFacts L) → Reads facts old went new → new.passes ≡ old.passes
  Reads-passes old went new (inl never) = ap (λ (p : PortFacts L). p.passes) never.same
  Reads-passes old went new (inr once) = ap (λ (p : PortFacts L). p.passes) once.rest

  pub Writes-passes : (old : PortFacts L) (went : Went) (new : PortFacts L) → Writes facts old went new → new.passes ≡ old.passes
  Writes-passes old went new (inl never) = ap (λ (p : PortFacts L). p.passes) never.same
  Writes-passes old went new (inr once) = ap (λ (p : PortFacts L). p.passes) once.rest

  pub Settles-passes : (was_closed : Bool) (old : PortFacts L) (closed : Option Cause) (new : PortFacts L) → Settles facts was_closed old closed new → new.passes ≡ old.passes
  Settles-passes was_closed old closed new (inl stays) = ap (λ (p : PortFacts L). p.passes) stays.same
  Settles-passes was_closed old closed new (inr now) = ap (λ (p : PortFacts L). p.passes) now.closes.rest
