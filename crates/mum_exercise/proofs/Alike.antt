-- What a course comes to does not depend on the steps that are kept of it.
use Rattle.mum_exercise.proofs.Common.{◌≡◌, ℕ, ◌+◌, List, [], ◌∷◌, ◌++◌, Option, Some, None, refl, sym, ap, subst, if◌then◌else◌, is_some, map, flat_map, Step, Drain, Edit, End, Frame, Look, Offer, Publish, Tell, CoreState, worker_at, does, illegal, Outgoing, Lcg, aiming, channel_frame, entering, linking, listening, self_muting, target_frame, user_frame, voice_frame, drawn_round, CourseValue, IsAlike, acted, all_taken, answered, brings, commanded, counted, decided, delivered, exercised, informed, note, played, progress, spoken, taken, worker_of, Act, Talk, Enter, Link, SetSelfMute, Listen, Aim, Round, Tally}
use Rattle.mum_exercise.proofs.Turns.{plays_more}

alike_by : (found : Option (ℕ × ℕ)) (one other one_after other_after : CourseValue) → IsAlike one other → IsAlike one_after other_after
    → IsAlike (if is_some found then one else one_after) (if is_some found then other else other_after)
alike_by None one other one_after other_after same after = after
alike_by (Some numbers) one other one_after other_after same after = same

taken_alike : (one other : CourseValue) (step : Step) → IsAlike one other → IsAlike (taken one step) (taken other step)
taken_alike one other step same =
    subst
    (λ (core : CoreState).
    IsAlike (taken one step) (if is_some (illegal core step) then other else record { core = does core step; steps = other.steps ++ step ∷ []; tally = other.tally }))
    same.core
    (alike_by (illegal one.core step) one other (record { core = does one.core step; steps = one.steps ++ step ∷ []; tally = one.tally })
    (record { core = does one.core step; steps = other.steps ++ step ∷ []; tally = other.tally }) same (record { core = refl; tally = same.tally }))

all_alike : (steps : List Step) (one other : CourseValue) → IsAlike one other → IsAlike (all_taken one steps) (all_taken other steps)
all_alike [] one other same = same
all_alike (step ∷ steps) one other same = all_alike steps (taken one step) (taken other step) (taken_alike one other step same)

informed_alike : (one other : CourseValue) → IsAlike one other → IsAlike (informed one) (informed other)
informed_alike one other same =
    subst (λ (core : CoreState). IsAlike (informed one) (all_taken other (flat_map brings core.pending))) same.core
    (all_alike (flat_map brings one.core.pending) one other same)

answered_alike : (c : ℕ) (one other : CourseValue) → IsAlike one other → IsAlike (answered c one) (answered c other)
answered_alike c one other same =
    subst
    (λ (core : CoreState).
    IsAlike (answered c one) (informed (taken (record other { tally = counted other.tally (decided core c) }) (Tell c (note core (decided core c))))))
    same.core
    (informed_alike _ _
    (taken_alike (record one { tally = counted one.tally (decided one.core c) }) (record other { tally = counted other.tally (decided one.core c) }) (Tell c (note one.core (decided one.core c)))
    (record { core = same.core; tally = ap (λ (t : Tally). counted t (decided one.core c)) same.tally })))

commanded_alike : (c : ℕ) (bytes : List ℕ) (one other : CourseValue) → IsAlike one other → IsAlike (commanded c bytes one) (commanded c bytes other)
commanded_alike c bytes one other same =
    answered_alike c (all_taken one (Frame c bytes ∷ Edit c ∷ Publish ∷ [])) (all_taken other (Frame c bytes ∷ Edit c ∷ Publish ∷ []))
    (all_alike (Frame c bytes ∷ Edit c ∷ Publish ∷ []) one other same)

delivered_alike : (w : ℕ) (one other : CourseValue) → IsAlike one other → IsAlike (delivered w one) (delivered w other)
delivered_alike w one other same =
    subst
    (λ (core : CoreState).
    IsAlike (delivered w one)
    (all_taken other (map (λ (copy : Outgoing). Offer w) (worker_at core w).copies ++ map (λ (copy : Outgoing). Drain copy.to.0) (worker_at core w).copies)))
    same.core
    (all_alike (map (λ (copy : Outgoing). Offer w) (worker_at one.core w).copies ++ map (λ (copy : Outgoing). Drain copy.to.0) (worker_at one.core w).copies) one other same)

looked_alike : (w : ℕ) (one other : CourseValue) → IsAlike one other → IsAlike (taken one (Look w one.core.published)) (taken other (Look w other.core.published))
looked_alike w one other same =
    subst (λ (core : CoreState). IsAlike (taken one (Look w one.core.published)) (taken other (Look w core.published))) same.core
    (taken_alike one other (Look w one.core.published) same)

spoken_alike : (c : ℕ) (bytes : List ℕ) (one other : CourseValue) → IsAlike one other → IsAlike (spoken c bytes one) (spoken c bytes other)
spoken_alike c bytes one other same =
    delivered_alike (worker_of c) _ _ (looked_alike (worker_of c) (taken one (Frame c bytes)) (taken other (Frame c bytes)) (taken_alike one other (Frame c bytes) same))

acted_alike : (number c : ℕ) (act : Act) (one other : CourseValue) → IsAlike one other → IsAlike (acted number c act one) (acted number c act other)
acted_alike number c (Talk target) one other same = spoken_alike c (voice_frame target number) one other same
acted_alike number c (Enter channel) one other same = commanded_alike c (user_frame (entering channel.0)) one other same
acted_alike number c (Link channel) one other same = commanded_alike c (channel_frame (linking channel.0)) one other same
acted_alike number c (SetSelfMute muted) one other same = commanded_alike c (user_frame (self_muting muted)) one other same
acted_alike number c (Listen channel) one other same = commanded_alike c (user_frame (listening channel.0)) one other same
acted_alike number c (Aim channel) one other same = commanded_alike c (target_frame (aiming channel.0)) one other same

played_alike : (number : ℕ) (round : Round) (one other : CourseValue) → IsAlike one other → IsAlike (played number round one) (played number round other)
played_alike number round one other same = acted_alike number round.connection round.act one other same

-- one round more, of which no step is kept
pub counts_more : (seed k : ℕ) (course last kept : CourseValue) (round : Round) (before after : Lcg) → IsAlike course (progress seed k).course → before ≡ (progress seed k).draws
    → (round, after) ≡ drawn_round before → last ≡ played (k + 1) round course → kept ≡ record last { steps = [] }
    → IsAlike kept (progress seed (k + 1)).course × (after ≡ (progress seed (k + 1)).draws)
counts_more seed k course last kept round before after same drawn_is drawn plays keeps =
    let full = plays_more seed k (progress seed k).course (played (k + 1) round (progress seed k).course) round before after refl drawn_is drawn refl in
    let next : IsAlike last (played (k + 1) round (progress seed k).course)
    = subst (λ (c : CourseValue). IsAlike c (played (k + 1) round (progress seed k).course)) (sym plays) (played_alike (k + 1) round course (progress seed k).course same) in
    let there : IsAlike last (progress seed (k + 1)).course = subst (λ (c : CourseValue). IsAlike last c) full.0 next in
    (subst (λ (c : CourseValue). IsAlike c (progress seed (k + 1)).course) (sym keeps) (record { core = there.core; tally = there.tally }), full.1)

-- all rounds, and the end
pub counts_all : (seed rounds : ℕ) (course last : CourseValue) → IsAlike course (progress seed rounds).course → last ≡ taken course End → IsAlike last (exercised seed rounds)
unfolding exercised
counts_all seed rounds course last same ends =
    subst (λ (c : CourseValue). IsAlike c (taken (progress seed rounds).course End)) (sym ends) (taken_alike course (progress seed rounds).course End same)
