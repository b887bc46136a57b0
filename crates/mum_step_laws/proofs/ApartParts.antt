-- A step of one role leaves what another has of the core.
use Rattle.mum_step_laws.proofs.Common.{◌≡◌, ◌∙◌, ℕ, false, true≢false, List, [], ◌++◌, Option, Some, None, refl, sym, ap, ◌==◌, slice_index_or, eq-eqb, append-nil, changed_other, waits, collect_keeps, collect_workers, decided_workers, drain_keeps, drain_workers, frame_keeps, notes_keep, posted_workers, puts_keep, puts_workers, same_opening, told, CoreState, at_connection, at_worker, connection_at, worker_at, noticed, offered, does, frame_action, frame_version, HeldPacket, WorkerState, idle, spoken, Notice, Step, Close, Collect, Drain, End, Frame, Look, Offer, Open, Post, Publish, Tell, Action, Voice, packet, OwnersAreApart, WorkersAreApart, is_of_owner}
use Rattle.mum_record.specs.declared.step.Step.TheVariants.{Edit}
use Rattle.mum_core.specs.steps.Edit as edit_step
use Rattle.mum_core.specs.steps.Frame as frame_step
use Rattle.mum_core.specs.steps.Offer as offer_step
use Rattle.mum_core.specs.steps.Tell as tell_step

-- ---- the owner

-- neither the accepted edits nor the published count changes
abbrev SameEdits : CoreState → CoreState → Type 0
SameEdits old new = (new.accepted ≡ old.accepted) × (new.published ≡ old.published)

same_edits : (core : CoreState) (step : Step) → is_of_owner step ≡ false → SameEdits core (does core step)
same_edits core (Open c w) other = (refl, refl)
same_edits core (Frame c bytes) other =
    let keeps = frame_keeps core c (frame_version core c bytes) (frame_action core c bytes) in (keeps.0, keeps.1)
same_edits core (Edit c) other = absurd (true≢false other)
same_edits core Publish other = absurd (true≢false other)
same_edits core (Tell c told_of) other =
    let keeps = notes_keep (at_connection c told core) (connection_at core c).worker told_of in (keeps.0, keeps.1)
same_edits core (Look w revision) other = (refl, refl)
same_edits core (Offer w) other =
    let keeps = puts_keep (at_worker w (λ worker. offer_step.left worker) core) (offer_step.next_copy core w) in (keeps.0, keeps.1)
same_edits core Post other = absurd (true≢false other)
same_edits core (Drain c) other = let keeps = drain_keeps core (connection_at core c).seat in (keeps.0, keeps.1)
same_edits core (Collect c) other = let keeps = collect_keeps core (connection_at core c).seat in (keeps.0, keeps.1)
same_edits core (Close c cause) other = (refl, refl)
same_edits core End other = (refl, refl)

-- no notice comes, and none goes
nothing_noticed : (core : CoreState) (step : Step) → is_of_owner step ≡ false → (noticed core step ≡ []) × (offered core step ≡ [])
nothing_noticed core (Open c w) other = (refl, refl)
nothing_noticed core (Frame c bytes) other = (refl, refl)
nothing_noticed core (Edit c) other = absurd (true≢false other)
nothing_noticed core Publish other = absurd (true≢false other)
nothing_noticed core (Tell c told_of) other = (refl, refl)
nothing_noticed core (Look w revision) other = (refl, refl)
nothing_noticed core (Offer w) other = (refl, refl)
nothing_noticed core Post other = absurd (true≢false other)
nothing_noticed core (Drain c) other = (refl, refl)
nothing_noticed core (Collect c) other = (refl, refl)
nothing_noticed core (Close c cause) other = (refl, refl)
nothing_noticed core End other = (refl, refl)

same_pending : (core : CoreState) (step : Step) → is_of_owner step ≡ false → (does core step).pending ≡ core.pending
same_pending core step other =
    let none = nothing_noticed core step other in
    sym (ap (λ (xs : List Notice). xs ++ (does core step).pending) none.1)
    ∙ (sym (waits core step) ∙ (ap (λ (xs : List Notice). core.pending ++ xs) none.0 ∙ append-nil core.pending))

pub owners_apart : OwnersAreApart
owners_apart control core step other owns =
    let same = same_edits core step other in record {
      opening_is = same_opening core step ∙ owns.opening_is;
      accepted_are = same.0 ∙ owns.accepted_are;
      published_are = same.1 ∙ owns.published_are;
      pending_are = same_pending core step other ∙ owns.pending_are;
    }

-- ---- a worker

same_worker : (old new : CoreState) (w : ℕ) → new.workers ≡ old.workers → worker_at new w ≡ worker_at old w
same_worker old new w same = ap (λ (xs : List WorkerState). slice_index_or xs w idle) same

differ : (v w : ℕ) → (v == w) ≡ false → w ≡ v → ⊥
differ v w other same = true≢false (sym (eq-eqb v w (sym same)) ∙ other)

hears_apart : (core : CoreState) (v w : ℕ) (held : Option HeldPacket) → (v == w) ≡ false → worker_at (frame_step.hears core v held) w ≡ worker_at core w
hears_apart core v w None other = refl
hears_apart core v w (Some held) other = changed_other core.workers v w (λ worker. frame_step.holding held worker) idle (differ v w other)

frame_apart : (core : CoreState) (c w : ℕ) (version : Option ℕ) (a : Action) → ((connection_at core c).worker == w) ≡ false → worker_at (frame_step.does core c version a) w ≡ worker_at core w
frame_apart core c w version (Voice payload) other = hears_apart core (connection_at core c).worker w (spoken (connection_at core c).seat (packet payload)) other
frame_apart core c w version others other = refl

notes_apart : (core : CoreState) (v w : ℕ) (note : Option ℕ) → (v == w) ≡ false → worker_at (tell_step.notes v note core) w ≡ worker_at core w
notes_apart core v w None other = refl
notes_apart core v w (Some revision) other = changed_other core.workers v w (λ worker. tell_step.noted revision worker) idle (differ v w other)

pub workers_apart : WorkersAreApart
workers_apart core w (Open c v) other = refl
workers_apart core w (Frame c bytes) other = frame_apart core c w (frame_version core c bytes) (frame_action core c bytes) other
workers_apart core w (Edit c) other = same_worker core (does core (Edit c)) w (decided_workers core c (edit_step.decision core c))
workers_apart core w Publish other = refl
workers_apart core w (Tell c told_of) other = notes_apart (at_connection c told core) (connection_at core c).worker w told_of other
workers_apart core w (Look v revision) other = changed_other core.workers v w _ idle (differ v w other)
workers_apart core w (Offer v) other =
    same_worker (at_worker v (λ worker. offer_step.left worker) core) (does core (Offer v)) w (puts_workers (at_worker v (λ worker. offer_step.left worker) core) (offer_step.next_copy core v))
    ∙ changed_other core.workers v w (λ worker. offer_step.left worker) idle (differ v w other)
workers_apart core w Post other = same_worker core (does core Post) w (posted_workers core)
workers_apart core w (Drain c) other = same_worker core (does core (Drain c)) w (drain_workers core (connection_at core c).seat)
workers_apart core w (Collect c) other = same_worker core (does core (Collect c)) w (collect_workers core (connection_at core c).seat)
workers_apart core w (Close c cause) other = refl
workers_apart core w End other = refl
