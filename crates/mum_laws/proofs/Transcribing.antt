-- What is reported after the head of a recording are the lines of a run.
use Rattle.mum_laws.proofs.Common.{◌≡◌, ℕ, ◌+◌, ◌-◌, ◌≤◌, ◌<◌, ◌⊎◌, Bool, true, false, cond, List, [], ◌∷◌, ◌++◌, length, map, Option, Some, None, refl, sym, ap, subst, ◌∙◌, arith, inl, inr, length-append, nat_lt, ◌||◌, ltb-false, ltb-true, append-nil, flat_map-append, IsLineOf, line_of, ended_lines, step_of, line_of_words, Step, step_of-found, step_of-line_of, CoreState, gathered, ran, text_of, does, illegal, lines, Outcome, StopsAt, allowed_answer, answer, behind, goes_on, is_too_long, outcome_from, phase_after, step_answer, stops_at, Faulty, Phase, TooLong, BadRecording, IllegalStep, Over, Running, EndsAt, IsLong, IsRunFrom, IsShort, NoneIsBehindTheEnd, is_end, is_over}
use Rattle.mum_record.specs.declared.step.Step.TheVariants as steps

pub not_nil : {A : Type 0} (x : A) (xs : List A) → x ∷ xs ≡ [] → ⊥
not_nil x xs e = cc

-- ---- lengths

or_parts : (a b : Bool) → (a || b) ≡ true → (a ≡ true) ⊎ (b ≡ true)
or_parts true b h = inl refl
or_parts false b h = inr h

or_false : (a b : Bool) → (a || b) ≡ false → (a ≡ false) × (b ≡ false)
or_false true b h = cc
or_false false b h = (refl, h)

-- m bytes come before, and n may still come
long_from : (before left line all : ℕ) → before + left ≡ 67108864 → is_too_long left line all ≡ true → (131200 < line) ⊎ (67108864 < before + all)
long_from before left line all sum long = elim (or_parts (nat_lt 131200 line) (nat_lt left all) long) [
  | inl above ↦ inl (ltb-true 131200 line above)
  | inr past ↦ let more = ltb-true left all past in inr (omega (arith, sum, more))
]

pub short_from : (before left line all : ℕ) → before + left ≡ 67108864 → is_too_long left line all ≡ false → (line ≤ 131200) × (before + all ≤ 67108864)
short_from before left line all sum short =
    let parts = or_false (nat_lt 131200 line) (nat_lt left all) short in
    let within = ltb-false left all parts.1 in
    (ltb-false 131200 line parts.0, omega (arith, sum, within))

-- ---- runs of no step, of one more, and of the last

nothing_yet : (before n : ℕ) (core : CoreState) (pieces : List (List ℕ)) (outcome : Outcome) → outcome.text ≡ [] → EndsAt before n core false pieces outcome.ending
    → IsRunFrom before n core pieces outcome
nothing_yet before n core pieces outcome none ends =
    let first : before ≡ before + 0 = omega arith in
    let second : n ≡ n + 0 = omega arith in
    record {
      steps = [];
      behind = pieces;
      said = refl;
      recordable = tt;
      allowed = tt;
      last = tt;
      transcript = none;
      ending = subst (λ (b : ℕ). EndsAt b (n + 0) core false pieces outcome.ending) first (subst (λ (m : ℕ). EndsAt before m core false pieces outcome.ending) second ends);
    }

last_behind : (step : Step) (more : List Step) → is_end step ≡ false → NoneIsBehindTheEnd more → NoneIsBehindTheEnd (step ∷ more)
last_behind step [] on last = tt
last_behind step (next ∷ more) on last = (on, last)

over_behind : (step : Step) (more : List Step) → is_end step ≡ false → is_over (step ∷ more) ≡ is_over more
over_behind step [] on = on
over_behind step (next ∷ more) on = refl

-- the text of lines
abbrev text_line : List (List ℕ) → List ℕ
text_line words = line_of_words words ++ 10 ∷ []

pub longer : (line : List ℕ) (more : List (List ℕ)) → length (ended_lines (line ∷ more)) ≡ (length line + 1) + length (ended_lines more)
longer line more =
    let first = length-append (line ++ 10 ∷ []) (ended_lines more) in
    let second = length-append line (10 ∷ []) in
    first ∙ ap (λ (k : ℕ). k + length (ended_lines more)) second

run_more : (before n : ℕ) (core : CoreState) (line : List ℕ) (step : Step) (rest : List (List ℕ)) (outcome : Outcome) → IsLineOf line step → illegal core step ≡ None → is_end step ≡ false
    → IsRunFrom (before + (length line + 1)) (n + 1) (does core step) rest outcome → IsRunFrom before n core (line ∷ rest) (behind (text_of (lines core step)) outcome)
run_more before n core line step rest outcome is legal on run =
    let more : List Step = run.steps in
    let size : ℕ = length (ended_lines (map line_of more)) in
    let all : length (ended_lines (line_of step ∷ map line_of more)) ≡ (length (line_of step) + 1) + size = longer (line_of step) (map line_of more) in
    let same : length line ≡ length (line_of step) = ap (λ (l : List ℕ). length l) is.1 in
    let first : (before + (length line + 1)) + size ≡ before + length (ended_lines (line_of step ∷ map line_of more)) = omega (arith, all, same) in
    let second : (n + 1) + length more ≡ n + length (step ∷ more) = omega arith in
    let third : is_over more ≡ is_over (step ∷ more) = sym (over_behind step more on) in
    let end : CoreState = ran (does core step) more in
    record {
      steps = step ∷ more;
      behind = run.behind;
      said = ap (λ (l : List ℕ). l ∷ rest) is.1 ∙ ap (λ (ls : List (List ℕ)). line_of step ∷ ls) run.said;
      recordable = (is.0, run.recordable);
      allowed = (legal, run.allowed);
      last = last_behind step more on run.last;
      transcript = ap (λ (text : List ℕ). text_of (lines core step) ++ text) run.transcript
          ∙ sym (flat_map-append text_line (lines core step) (gathered lines (does core step) more));
      ending = subst (λ (b : ℕ). EndsAt b (n + length (step ∷ more)) end (is_over (step ∷ more)) run.behind outcome.ending) first
          (subst (λ (m : ℕ). EndsAt ((before + (length line + 1)) + size) m end (is_over (step ∷ more)) run.behind outcome.ending) second
          (subst (λ (o : Bool). EndsAt ((before + (length line + 1)) + size) ((n + 1) + length more) end o run.behind outcome.ending) third run.ending));
    }

run_last : (before n : ℕ) (core : CoreState) (line : List ℕ) (rest : List (List ℕ)) (outcome : Outcome) → IsLineOf line steps.End → outcome.text ≡ []
    → EndsAt (before + (length line + 1)) (n + 1) (does core steps.End) true rest outcome.ending → IsRunFrom before n core (line ∷ rest) (behind (text_of (lines core steps.End)) outcome)
run_last before n core line rest outcome is none ends =
    let all : length (ended_lines (line_of steps.End ∷ [])) ≡ (length (line_of steps.End) + 1) + 0 = longer (line_of steps.End) [] in
    let same : length line ≡ length (line_of steps.End) = ap (λ (l : List ℕ). length l) is.1 in
    let first : before + (length line + 1) ≡ before + length (ended_lines (line_of steps.End ∷ [])) = omega (arith, all, same) in
    record {
      steps = steps.End ∷ [];
      behind = rest;
      said = ap (λ (l : List ℕ). l ∷ rest) is.1;
      recordable = (is.0, tt);
      allowed = (refl, tt);
      last = tt;
      transcript = ap (λ (text : List ℕ). text_of (lines core steps.End) ++ text) none ∙ append-nil (text_of (lines core steps.End))
          ∙ sym (ap text_of (append-nil (lines core steps.End)));
      ending = subst (λ (b : ℕ). EndsAt b (n + 1) (does core steps.End) true rest outcome.ending) first ends;
    }

-- ---- after the last step

-- what follows it, where that is not nothing
over_stops : (before n left size : ℕ) (core : CoreState) (piece : List ℕ) (more : List (List ℕ)) (b : Bool) → is_too_long left (length piece) size ≡ b → before + left ≡ 67108864
    → (is_too_long left (length piece) size ≡ true → IsLong before piece more) → (is_too_long left (length piece) size ≡ false → IsShort before piece more)
    → ((piece ≡ []) × (more ≡ []) → ⊥) → EndsAt before n core true (piece ∷ more) (Faulty n (cond b TooLong BadRecording))
over_stops before n left size core piece more true is sum long short other = (refl, long is)
over_stops before n left size core piece more false is sum long short other = (refl, (short is, other))

abbrev IsOver : ℕ → ℕ → CoreState → List (List ℕ) → Outcome → Type 0
IsOver before n core pieces outcome = (outcome.text ≡ []) × EndsAt before n core true pieces outcome.ending

over_line : (before n left : ℕ) (core : CoreState) (line next : List ℕ) (more : List (List ℕ)) (rest : Phase → Outcome) (b : Bool) → is_too_long left (length line) (length line + 1) ≡ b
    → before + left ≡ 67108864 → IsOver before n core (line ∷ next ∷ more) (goes_on n (cond b (StopsAt TooLong) (StopsAt BadRecording)) rest)
over_line before n left core line next more rest true is sum = (refl, (refl, long_from before left (length line) (length line + 1) sum is))
over_line before n left core line next more rest false is sum =
    (refl, (refl, (short_from before left (length line) (length line + 1) sum is, λ none. not_nil next more none.1)))

over_ends : (before n left : ℕ) (core : CoreState) (pieces : List (List ℕ)) → before + left ≡ 67108864 → (pieces ≡ [] → ⊥) → IsOver before n core pieces (outcome_from Over n left pieces)
unfolding outcome_from answer
over_ends before n left core [] sum filled = absurd (filled refl)
over_ends before n left core ([] ∷ []) sum filled = (refl, (refl, refl, refl))
over_ends before n left core ((x ∷ xs) ∷ []) sum filled = (
  refl,
  over_stops before n left (length (x ∷ xs)) core (x ∷ xs) [] (is_too_long left (length (x ∷ xs)) (length (x ∷ xs))) refl sum
      (λ long. long_from before left (length (x ∷ xs)) (length (x ∷ xs)) sum long)
      (λ short. short_from before left (length (x ∷ xs)) (length (x ∷ xs)) sum short)
      (λ none. not_nil x xs none.0),
)
over_ends before n left core (line ∷ next ∷ more) sum filled =
    over_line before n left core line next more (λ after. outcome_from after (n + 1) (left - (length line + 1)) (next ∷ more)) (is_too_long left (length line) (length line + 1)) refl sum

-- ---- the steps

-- the last step, or one after which the run goes on
phase_by : (core : CoreState) (step : Step) → (step ≡ steps.End) ⊎ ((phase_after core step ≡ Running (does core step)) × (is_end step ≡ false))
phase_by core (steps.Open c w) = inr (refl, refl)
phase_by core (steps.Frame c bytes) = inr (refl, refl)
phase_by core (steps.Edit c) = inr (refl, refl)
phase_by core steps.Publish = inr (refl, refl)
phase_by core (steps.Tell c revision) = inr (refl, refl)
phase_by core (steps.Look w revision) = inr (refl, refl)
phase_by core (steps.Offer w) = inr (refl, refl)
phase_by core steps.Post = inr (refl, refl)
phase_by core (steps.Drain c) = inr (refl, refl)
phase_by core (steps.Collect c) = inr (refl, refl)
phase_by core (steps.Close c cause) = inr (refl, refl)
phase_by core steps.End = inl refl

-- no step has a line that is read as none
no_step : (line : List ℕ) → step_of line ≡ None → (step : Step) → IsLineOf line step → ⊥
no_step line none step is = apart step (sym none ∙ (ap step_of is.1 ∙ step_of-line_of step is.0))
  where
    apart : (one : Step) → ◌≡◌ {A = Option Step} None (Some one) → ⊥
    apart one e = cc

sum_later : (before left size : ℕ) → before + left ≡ 67108864 → size ≤ left → (before + size) + (left - size) ≡ 67108864
sum_later before left size sum fits = omega (arith, sum, fits)

module _ (before n left : ℕ) (core : CoreState) (line next : List ℕ) (more : List (List ℕ)) (sum : before + left ≡ 67108864) where
  abbrev parts : List (List ℕ)
  parts = next ∷ more

  abbrev rest_of : Phase → Outcome
  rest_of after = outcome_from after (n + 1) (left - (length line + 1)) parts

  -- the run after this line
  abbrev Later : Type 0
  Later = (other : CoreState) → IsRunFrom (before + (length line + 1)) (n + 1) other parts (rest_of (Running other))

  by_phase : (step : Step) → IsLineOf line step → length line + 1 ≤ left → Later → illegal core step ≡ None
      → IsRunFrom before n core (line ∷ parts) (behind (text_of (lines core step)) (rest_of (phase_after core step)))
  by_phase step is fits later legal = elim (phase_by core step) [
    | inl last ↦
        let own : IsLineOf line steps.End = subst (IsLineOf line) last is in
        let over = over_ends (before + (length line + 1)) (n + 1) (left - (length line + 1)) (does core steps.End) parts (sum_later before left (length line + 1) sum fits) (not_nil next more) in
        subst (λ (s : Step). IsRunFrom before n core (line ∷ parts) (behind (text_of (lines core s)) (rest_of (phase_after core s)))) (sym last)
        (run_last before n core line parts (rest_of Over) own over.0 over.1)
    | inr on ↦
        subst (λ (p : Phase). IsRunFrom before n core (line ∷ parts) (behind (text_of (lines core step)) (rest_of p))) (sym on.0)
        (run_more before n core line step parts (rest_of (Running (does core step))) is legal on.1 (later (does core step)))
  ]

  by_cause : (step : Step) → IsLineOf line step → length line + 1 ≤ left → IsShort before line parts → Later → (cause : Option (ℕ × ℕ)) → illegal core step ≡ cause
      → IsRunFrom before n core (line ∷ parts) (goes_on n (allowed_answer core step cause) rest_of)
  by_cause step is fits short later None legal = by_phase step is fits later legal
  by_cause step is fits short later (Some (given, against)) numbers =
      nothing_yet before n core (line ∷ parts) (stops_at n (IllegalStep given against)) refl
      (refl, (short, record { step = step; said = is; ended = not_nil next more; numbers = numbers }))

  by_step : (found : Option Step) → step_of line ≡ found → length line + 1 ≤ left → IsShort before line parts → Later
      → IsRunFrom before n core (line ∷ parts) (goes_on n (step_answer core found) rest_of)
  by_step None none fits short later = nothing_yet before n core (line ∷ parts) (stops_at n BadRecording) refl (refl, (short, inr (no_step line none)))
  by_step (Some step) said fits short later = by_cause step (step_of-found line step said) fits short later (illegal core step) refl

  by_length : (b : Bool) → is_too_long left (length line) (length line + 1) ≡ b → (length line + 1 ≤ left → Later)
      → IsRunFrom before n core (line ∷ parts) (goes_on n (cond b (StopsAt TooLong) (step_answer core (step_of line))) rest_of)
  by_length true long later =
      nothing_yet before n core (line ∷ parts) (stops_at n TooLong) refl (refl, long_from before left (length line) (length line + 1) sum long)
  by_length false short later =
      let fit = short_from before left (length line) (length line + 1) sum short in
      let within : length line + 1 ≤ left = omega (arith, sum, fit.1) in
      by_step (step_of line) refl within fit (later within)

-- what no line feed ends
cut_ends : (before n left : ℕ) (core : CoreState) (piece : List ℕ) (b : Bool) → is_too_long left (length piece) (length piece) ≡ b → before + left ≡ 67108864
    → IsRunFrom before n core (piece ∷ []) (record { text = []; ending = Faulty n (cond b TooLong BadRecording) })
cut_ends before n left core piece true long sum =
    nothing_yet before n core (piece ∷ []) (record { text = []; ending = Faulty n TooLong }) refl (refl, long_from before left (length piece) (length piece) sum long)
cut_ends before n left core piece false short sum =
    nothing_yet before n core (piece ∷ []) (record { text = []; ending = Faulty n BadRecording }) refl
    (refl, (short_from before left (length piece) (length piece) sum short, inl refl))

pub runs : (before n left : ℕ) (core : CoreState) (pieces : List (List ℕ)) → before + left ≡ 67108864 → (pieces ≡ [] → ⊥) → IsRunFrom before n core pieces (outcome_from (Running core) n left pieces)
unfolding outcome_from answer
runs before n left core [] sum filled = absurd (filled refl)
runs before n left core ([] ∷ []) sum filled = cut_ends before n left core [] (is_too_long left 0 0) refl sum
runs before n left core ((x ∷ xs) ∷ []) sum filled = cut_ends before n left core (x ∷ xs) (is_too_long left (length (x ∷ xs)) (length (x ∷ xs))) refl sum
runs before n left core (line ∷ next ∷ more) sum filled =
    by_length before n left core line next more sum (is_too_long left (length line) (length line + 1)) refl
    (λ fits other.
    runs (before + (length line + 1)) (n + 1) (left - (length line + 1)) other (next ∷ more) (sum_later before left (length line + 1) sum fits)
    (not_nil next more))
