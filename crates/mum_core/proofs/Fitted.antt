-- Each accepted edit of a run fits in its place, so the states of a run are proper, and whoever is there in two of them is in one slot.
use Rattle.mum_core.proofs.Common.{◌≡◌, ℕ, zero, suc, ◌+◌, ◌-◌, ◌≤◌, List, [], ◌∷◌, ◌++◌, length, take, drop, Option, Some, None, refl, sym, ap, ◌∙◌, subst, arith, inl, inr, IsTrue, option_map, option_map_or, and_parts, cases_lt, append-nil, take-append-le, fold-append, take-add, SessionId, Slot, Edit, Verdict, Accepted, Lacks, Refused, Rejected, Answer, Ignored, all_fit, at, led_to, applied, fits, IsInSlot, IsProper, StateValue, seats_stand_lem, all_fit_on, FitsWhereAccepted, Asked, Version, Step, Open, Frame, Publish, Tell, Look, Offer, Post, Drain, Collect, Close, End, next_command, session_of, CoreState, start, connection_at, current, state_at, IsRun, ran, edits_of, verdict, does, frame_action, frame_version}
use Rattle.mum_core.proofs.{Lower.keeps_proper, Lower.verdict_fits, RunLaws.told_core, RunLaws.taken_core, RunLaws.frame_keeps, RunLaws.notes_keep, RunLaws.puts_keep, RunLaws.drain_keeps, RunLaws.posted_keeps, RunLaws.collect_keeps, RunLaws.same_opening, RunLaws.opening_stays, RunLaws.accepted_grows}
use Rattle.mum_record.specs.declared.step.Step.TheVariants as steps
use Rattle.mum_core.specs.steps.Edit as edit_step
use Rattle.mum_core.specs.steps.Offer as offer_step

-- ---- accepted edits fit

abbrev pub IsFitted : CoreState → Type 0
IsFitted core = IsTrue (all_fit core.opening core.accepted)

fitted_by : (old new : CoreState) → new.opening ≡ old.opening → new.accepted ≡ old.accepted → IsFitted old → IsFitted new
fitted_by old new opening accepted fit = rw (opening, accepted) fit

more_fit : (opening : StateValue) (edits : List Edit) (verdict : Verdict) → IsTrue (all_fit opening edits) → FitsWhereAccepted (led_to opening edits) verdict
    → IsTrue (all_fit opening (edits ++ edits_of verdict))
more_fit opening edits (Accepted edit) fit next = all_fit_on opening edits edit fit next
more_fit opening edits (Lacks perm channel) fit next = rw (append-nil edits) fit
more_fit opening edits (Refused kind) fit next = rw (append-nil edits) fit
more_fit opening edits (Rejected kind) fit next = rw (append-nil edits) fit
more_fit opening edits (Answer frame) fit next = rw (append-nil edits) fit
more_fit opening edits (Ignored why) fit next = rw (append-nil edits) fit

edit_fits : (core : CoreState) (c : ℕ) (next : Option Asked) → IsProper core.opening → IsFitted core
    → IsFitted (option_map_or (edit_step.decides core c) (option_map (verdict (current core) (session_of (connection_at core c))) next) core)
edit_fits core c None proper fit = fit
edit_fits core c (Some command) proper fit =
    let state : StateValue = current core in
    let session : Option SessionId = session_of (connection_at core c) in
    more_fit core.opening core.accepted (verdict state session command) fit (verdict_fits state session command (keeps_proper core.opening core.accepted proper fit))

fitted : (core : CoreState) (step : Step) → IsProper core.opening → IsFitted core → IsFitted (does core step)
fitted core (Open c w) proper fit = fit
fitted core (Frame c bytes) proper fit =
    let keeps = frame_keeps core c (frame_version core c bytes) (frame_action core c bytes) in
    fitted_by core (does core (Frame c bytes)) keeps.2 keeps.0 fit
fitted core (steps.Edit c) proper fit = edit_fits core c (next_command (connection_at core c)) proper fit
fitted core Publish proper fit = fit
fitted core (Tell c revision) proper fit =
    let keeps = notes_keep (told_core core c) (connection_at core c).worker revision in
    fitted_by core (does core (Tell c revision)) keeps.2 keeps.0 fit
fitted core (Look w revision) proper fit = fit
fitted core (Offer w) proper fit =
    let keeps = puts_keep (taken_core core w) (offer_step.next_copy core w) in
    fitted_by core (does core (Offer w)) keeps.2 keeps.0 fit
fitted core (Drain c) proper fit =
    let keeps = drain_keeps core (connection_at core c).seat in
    fitted_by core (does core (Drain c)) keeps.2 keeps.0 fit
fitted core Post proper fit = let keeps = posted_keeps core in fitted_by core (does core Post) keeps.2 keeps.0 fit
fitted core (Collect c) proper fit =
    let keeps = collect_keeps core (connection_at core c).seat in
    fitted_by core (does core (Collect c)) keeps.2 keeps.0 fit
fitted core (Close c cause) proper fit = fit
fitted core End proper fit = fit

-- ---- lawful cores

-- the opening is proper, and each accepted edit fits in its place
pub record IsLawful (core : CoreState) : Type 0 where
  pub proper : IsProper core.opening
  pub fit : IsFitted core

pub lawful_step : (core : CoreState) (step : Step) → IsLawful core → IsLawful (does core step)
lawful_step core step lawful = record { proper = rw (same_opening core step) lawful.proper; fit = fitted core step lawful.proper lawful.fit }

pub lawful_all : (core : CoreState) (run : List Step) → IsLawful core → IsLawful (ran core run)
lawful_all core [] lawful = lawful
lawful_all core (step ∷ run) lawful = lawful_all (does core step) run (lawful_step core step lawful)

pub lawful_start : (version : Version) (opening : StateValue) (workers : ℕ) → IsProper opening → IsLawful (start version opening workers)
lawful_start version opening workers proper = record { proper = proper; fit = refl }

pub edits_fit : (version : Version) (opening : StateValue) (workers : ℕ) (run : List Step) → IsProper opening → IsRun (start version opening workers) run
    → IsTrue (all_fit opening (ran (start version opening workers) run).accepted)
edits_fit version opening workers run proper is =
    let lawful = lawful_all (start version opening workers) run (lawful_start version opening workers proper) in
    subst (λ (state : StateValue). IsTrue (all_fit state (ran (start version opening workers) run).accepted)) (opening_stays (start version opening workers) run) lawful.fit

-- ---- their states are proper

-- the parts of a list of edits that fits
record ArePartsFit (opening : StateValue) (n : ℕ) (edits : List Edit) : Type 0 where
  front : IsTrue (all_fit opening (take n edits))
  rest : IsTrue (all_fit (at opening edits n) (drop n edits))

parts_fit : (opening : StateValue) (n : ℕ) (edits : List Edit) → IsTrue (all_fit opening edits) → ArePartsFit opening n edits
parts_fit opening zero edits fit = record { front = refl; rest = fit }
parts_fit opening (suc n) [] fit = record { front = refl; rest = refl }
parts_fit opening (suc n) (edit ∷ edits) fit =
    let parts = and_parts (fits opening edit) (all_fit (applied opening edit) edits) fit in
    let later = parts_fit (applied opening edit) n edits parts.1 in
    record { front = rw parts.0 later.front; rest = later.rest }

pub state_proper : (core : CoreState) (revision : ℕ) → IsLawful core → IsProper (state_at core revision)
state_proper core revision lawful =
    keeps_proper core.opening (take revision core.accepted) lawful.proper (parts_fit core.opening revision core.accepted lawful.fit).front

pub current_proper : (core : CoreState) → IsLawful core → IsProper (current core)
current_proper core lawful = keeps_proper core.opening core.accepted lawful.proper lawful.fit

-- ---- a session is in one slot in all states of a run

-- a later state is led to from an earlier one
at_later : (opening : StateValue) (edits : List Edit) (n more : ℕ) → at opening edits (n + more) ≡ led_to (at opening edits n) (take more (drop n edits))
at_later opening edits n more = ap (led_to opening) (take-add n more edits) ∙ fold-append applied opening (take n edits) (take more (drop n edits))

one_slot_later : (core : CoreState) (low more : ℕ) (session : SessionId) (slot other : Slot) → IsLawful core
    → IsInSlot (state_at core low) session slot → IsInSlot (state_at core (low + more)) session other → slot ≡ other
one_slot_later core low more session slot other lawful here there =
    let parts = parts_fit core.opening low core.accepted lawful.fit in
    let between = parts_fit (state_at core low) more (drop low core.accepted) parts.rest in
    (seats_stand_lem (state_at core low) (take more (drop low core.accepted)) (state_proper core low lawful) between.front).0 session slot other here
    (subst (λ (state : StateValue). IsInSlot state session other) (at_later core.opening core.accepted low more) there)

pub one_slot : (core : CoreState) (one two : ℕ) (session : SessionId) (slot other : Slot) → IsLawful core
    → IsInSlot (state_at core one) session slot → IsInSlot (state_at core two) session other → slot ≡ other
one_slot core one two session slot other lawful here there = elim (cases_lt one two) [
  | inl lt ↦
      let up : one + (two - one) ≡ two = omega arith in
      one_slot_later core one (two - one) session slot other lawful here (subst (λ (n : ℕ). IsInSlot (state_at core n) session other) (sym up) there)
  | inr le ↦
      let up : two + (one - two) ≡ one = omega arith in
      sym (one_slot_later core two (one - two) session other slot lawful there (subst (λ (n : ℕ). IsInSlot (state_at core n) session slot) (sym up) here))
]

-- a state stays what it was once its edits are accepted
pub state_stays : (core : CoreState) (run : List Step) (revision : ℕ) → revision ≤ length core.accepted → state_at (ran core run) revision ≡ state_at core revision
state_stays core run revision le =
    let more = accepted_grows core run in
    let same : take revision (ran core run).accepted ≡ take revision core.accepted = ap (take revision) more.1 ∙ take-append-le revision core.accepted more.0 le in
    ap (λ (state : StateValue). at state (ran core run).accepted revision) (opening_stays core run) ∙ ap (led_to core.opening) same
