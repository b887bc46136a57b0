-- The caches of the workers are sound after each step.
use Rattle.mum_core.proofs.Common.{◌≡◌, ℕ, zero, suc, ◌<◌, List, ◌++◌, length, Option, Some, None, refl, sym, ap, ◌∙◌, subst, arith, inl, inr, Result, Ok, Err, ◌⊎◌, ⊤, IsTrue, replicate, drop, ForSome, length-replicate, same_Some, Edit, all_fit, at, IsProper, StateValue, packet, Version, Step, Open, Frame, Publish, Tell, Look, Offer, Post, Drain, Collect, Close, End, Action, Voice, Caches, AreSound, CachedCore, EachIsSound, KeepsFor, LooksThrough, caches_at, routes_in, Gives, Settles, StepFault, IsStarved, named_cause, CoreState, connection_at, start, state_at, worker_at, changed_at, does, frame_action, frame_version, illegal, HeldPacket, WorkerState, idle, spoken}
use Rattle.mum_core.proofs.{Changed.changed-by, Changed.changed_other, Changed.changed_same, Changed.length-changed, Fitted.lawful_step, Keeping.sound_on, RunLaws.collect_workers, RunLaws.decided_workers, RunLaws.drain_workers, RunLaws.goes_on, RunLaws.grown, RunLaws.posted_workers, RunLaws.puts_workers, RunLaws.same_opening, RunLaws.taken_core, RunLaws.told_core}
use Rattle.mum_record.specs.declared.step.Step.TheVariants as steps
use Rattle.mum_core.specs.steps.Edit as edit_step
use Rattle.mum_core.specs.steps.Frame as frame_step
use Rattle.mum_core.specs.steps.Offer as offer_step
use Rattle.mum_core.specs.steps.Tell as tell_step

-- ---- no step makes or takes a worker

hears_many : (core : CoreState) (w : ℕ) (held : Option HeldPacket) → length (frame_step.hears core w held).workers ≡ length core.workers
hears_many core w None = refl
hears_many core w (Some held) = length-changed core.workers w (λ worker. record worker { held = Some held })

frame_many : (core : CoreState) (c : ℕ) (version : Option ℕ) (a : Action) → length (frame_step.does core c version a).workers ≡ length core.workers
frame_many core c version (Voice payload) = hears_many core (connection_at core c).worker (spoken (connection_at core c).seat (packet payload))
frame_many core c version others = refl

notes_many : (core : CoreState) (w : ℕ) (revision : Option ℕ) → length (tell_step.notes w revision core).workers ≡ length core.workers
notes_many core w None = refl
notes_many core w (Some revision) = length-changed core.workers w _

same_many : (core new : CoreState) → new.workers ≡ core.workers → length new.workers ≡ length core.workers
same_many core new same = ap length same

as_many : (core : CoreState) (step : Step) → length (does core step).workers ≡ length core.workers
as_many core (Open c w) = refl
as_many core (Frame c bytes) = frame_many core c (frame_version core c bytes) (frame_action core c bytes)
as_many core (steps.Edit c) = same_many core (does core (steps.Edit c)) (decided_workers core c (edit_step.decision core c))
as_many core Publish = refl
as_many core (Tell c revision) = notes_many (told_core core c) (connection_at core c).worker revision
as_many core (Look w revision) = length-changed core.workers w _
as_many core (Offer w) =
    same_many (taken_core core w) (does core (Offer w)) (puts_workers (taken_core core w) (offer_step.next_copy core w))
    ∙ length-changed core.workers w (λ worker. record worker { copies = drop 1 worker.copies })
as_many core Post = same_many core (does core Post) (posted_workers core)
as_many core (Drain c) = same_many core (does core (Drain c)) (drain_workers core (connection_at core c).seat)
as_many core (Collect c) = same_many core (does core (Collect c)) (collect_workers core (connection_at core c).seat)
as_many core (Close c cause) = refl
as_many core End = refl

-- ---- each step

module _ (core : CoreState) (step : Step) (proper : IsProper core.opening) (fit : IsTrue (all_fit core.opening core.accepted)) (legal : illegal core step ≡ None) where
  abbrev later : CoreState
  later = does core step

  -- caches that are sound at what a worker saw are sound at what it saw later
  pub sound_later : (w : ℕ) (caches : Caches) → AreSound (state_at core (worker_at core w).seen) caches → AreSound (state_at later (worker_at later w).seen) caches
  sound_later w caches right =
      let more = grown core step in
      let lawful = lawful_step core step (record { proper = proper; fit = fit }) in
      let on = goes_on core step w legal in
      let opening : later.opening ≡ core.opening = same_opening core step in
      let fitting : IsTrue (all_fit core.opening (core.accepted ++ more.0)) =
      subst (λ (es : List Edit). IsTrue (all_fit core.opening es)) more.1 (subst (λ (state : StateValue). IsTrue (all_fit state later.accepted)) opening lawful.fit) in
      let there : AreSound (at core.opening (core.accepted ++ more.0) (worker_at later w).seen) caches =
      sound_on core.opening core.accepted more.0 (worker_at core w).seen (worker_at later w).seen caches proper fitting on.0 right in
      subst (λ (state : StateValue). AreSound (at state later.accepted (worker_at later w).seen) caches) (sym opening)
      (subst (λ (es : List Edit). AreSound (at core.opening es (worker_at later w).seen) caches) (sym more.1) there)

  pub each_later : (caches : List (Option Caches)) → EachIsSound core caches → EachIsSound later caches
  each_later caches each = record {
    as_many = each.as_many ∙ sym (as_many core step);
    sound = λ w own found. sound_later w own (each.sound w own found);
  }

-- the same, where the step was taken or not
pub each_after : (core new : CoreState) (step : Step) (caches : List (Option Caches)) → IsProper core.opening → IsTrue (all_fit core.opening core.accepted)
    → illegal core step ≡ None → new ≡ does core step → EachIsSound core caches → EachIsSound new caches
each_after core new step caches proper fit legal done each = subst (λ (one : CoreState). EachIsSound one caches) (sym done) (each_later core step proper fit legal caches each)

-- an answer that says whether it was taken
pub each_settled : (core new : CoreState) (step : Step) (caches : List (Option Caches)) (answered : Result ⊤ StepFault) → IsProper core.opening → IsTrue (all_fit core.opening core.accepted)
    → Settles named_cause (illegal core step) (does core step) core answered new → EachIsSound core caches → EachIsSound new caches
each_settled core new step caches (Ok done) proper fit settled each = each_after core new step caches proper fit settled.0 settled.1 each
each_settled core new step caches (Err fault) proper fit settled each = subst (λ (one : CoreState). EachIsSound one caches) (sym settled.1) each

pub each_given : (core new : CoreState) (step : Step) (caches : List (Option Caches)) (lines : List (List ℕ)) (answered : Result (List (List ℕ)) StepFault)
    → IsProper core.opening → IsTrue (all_fit core.opening core.accepted)
    → IsStarved core answered new ⊎ Gives named_cause (illegal core step) lines (does core step) core answered new → EachIsSound core caches → EachIsSound new caches
each_given core new step caches lines answered proper fit (inl starved) each = subst (λ (one : CoreState). EachIsSound one caches) (sym starved.1) each
each_given core new step caches lines (Ok given) proper fit (inr gives) each = each_after core new step caches proper fit gives.0 gives.2 each
each_given core new step caches lines (Err fault) proper fit (inr gives) each = subst (λ (one : CoreState). EachIsSound one caches) (sym gives.1) each

-- ---- at first

pub each_at_first : (version : Version) (opening : StateValue) (count : ℕ) (core : CoreState) (caches : List (Option Caches))
    → core ≡ start version opening count → caches ≡ replicate count None → EachIsSound core caches
each_at_first version opening count core caches is none = rw (is, none) (record {
  as_many = length-replicate count None ∙ sym (length-replicate count idle);
  sound = λ w own found. absurd (nothing count w own found);
})
  where
    nothing : (n w : ℕ) (own : Caches) → caches_at (replicate n None) w ≡ Some own → ⊥
    nothing zero w own found = absurd (cc)
    nothing (suc n) zero own found = absurd (cc)
    nothing (suc n) (suc w) own found = nothing n w own found

-- ---- a look

-- those of one worker are gone
pub each_without : (core : CoreState) (caches : List (Option Caches)) (w : ℕ) → EachIsSound core caches → EachIsSound core (changed_at w (λ _. None) caches)
each_without core caches w each = record {
  as_many = length-changed caches w (λ _. None) ∙ each.as_many;
  sound = λ v.
      changed-by (λ (one other : Option Caches). ForSome one (AreSound (state_at core (worker_at core v).seen)) → ForSome other (AreSound (state_at core (worker_at core v).seen)))
      (λ x same. same) caches w v (λ _. None) None (λ x at same right own found. absurd (cc)) (each.sound v);
}

-- the state that a worker saw after a look
saw_it : (core : CoreState) (w revision : ℕ) → w < length core.workers
    → state_at (does core (Look w revision)) (worker_at (does core (Look w revision)) w).seen ≡ state_at core revision
saw_it core w revision within = ap (λ (worker : WorkerState). state_at core worker.seen) (changed_same core.workers w _ idle within)

-- its caches are sound there before
pub sound_at_look : (core : CoreState) (caches : List (Option Caches)) (w revision : ℕ) → IsProper core.opening → IsTrue (all_fit core.opening core.accepted)
    → illegal core (Look w revision) ≡ None → w < length core.workers → EachIsSound core caches → ForSome (caches_at caches w) (AreSound (state_at core revision))
sound_at_look core caches w revision proper fit legal within each own found =
    subst (λ (state : StateValue). AreSound state own) (saw_it core w revision within) (sound_later core (Look w revision) proper fit legal w own (each.sound w own found))

-- the worker has caches that are sound at the revision of its look, in place of those that it had
pub each_looked : (core new : CoreState) (caches : List (Option Caches)) (w revision : ℕ) (own : Caches) → IsProper core.opening → IsTrue (all_fit core.opening core.accepted)
    → illegal core (Look w revision) ≡ None → new ≡ does core (Look w revision) → w < length core.workers → AreSound (state_at core revision) own → EachIsSound core caches
    → EachIsSound new (changed_at w (λ _. Some own) (changed_at w (λ _. None) caches))
each_looked core new caches w revision own proper fit legal done within right each =
    let gone : List (Option Caches) = changed_at w (λ _. None) caches in
    let before : EachIsSound (does core (Look w revision)) gone = each_later core (Look w revision) proper fit legal gone (each_without core caches w each) in
    subst (λ (one : CoreState). EachIsSound one (changed_at w (λ _. Some own) gone)) (sym done) (record {
      as_many = length-changed gone w (λ _. Some own) ∙ before.as_many;
      sound = λ v.
          changed-by (λ (one other : Option Caches). ForSome one (AreSound (saw v)) → ForSome other (AreSound (saw v)))
          (λ x same. same) gone w v (λ _. Some own) None
          (λ x at here earlier one found. subst (AreSound (saw v)) (same_Some _ _ found) (subst (λ (k : ℕ). AreSound (saw k) own) (sym here) (rw seen right)))
          (before.sound v);
    })
  where
    saw : ℕ → StateValue
    saw v = state_at (does core (Look w revision)) (worker_at (does core (Look w revision)) v).seen

    seen : saw w ≡ state_at core revision
    seen = saw_it core w revision within

-- what is left by it
pub looks_through : (old : CachedCore) (w revision : ℕ) (own : Caches) → length old.caches ≡ length old.state.workers → w < length old.state.workers
    → KeepsFor (state_at old.state revision) (worker_at old.state w).held (routes_in (caches_at old.caches w)) own.routes
    → LooksThrough old w revision (changed_at w (λ _. Some own) (changed_at w (λ _. None) old.caches))
looks_through old w revision own many within asked =
    let gone : List (Option Caches) = changed_at w (λ _. None) old.caches in
    let near : w < length gone = omega (arith, many, within, length-changed old.caches w (λ _. None)) in
    let at : caches_at (changed_at w (λ _. Some own) gone) w ≡ Some own = changed_same gone w (λ _. Some own) None near in
    record {
      there = rw at refl;
      others = λ v other. changed_other gone w v (λ _. Some own) None other ∙ changed_other old.caches w v (λ _. None) None other;
      asked = rw at asked;
    }
