-- A meter counts what was read run by run as it does byte by byte.
use Rattle.mum_pace.proofs.Common.{◌≡◌, ℕ, ◌+◌, ◌<◌, ◌≤◌, ◌&&◌, Bool, true, false, zero, suc, inl, inr, List, [], ◌∷◌, ◌++◌, length, drop, refl, sym, ap, ◌∙◌, arith, ◌^◌, cases_eq, eq-eqb, ne_eqb, Cost, Front, Counted, Pace, Place, after_byte, after_bytes, are_of_pings, cost_at_header, cost_by, cost_in, IsFront, MeterState, after_read, used_with}

-- a meter by its parts
abbrev pub state : Pace → ℕ → Place → ℕ → ℕ → MeterState
state pace milliseconds place messages voice =
    record { pace = pace; place = place; messages = messages; voice = voice; milliseconds = milliseconds }

-- the frames that have begun so far
pub frames_so_far : (all so_far : ℕ) (old new : Place) (read : List ℕ) (front : Front) → IsFront old read front new → all ≡ so_far + (cost_in old read).frames
    → all ≡ so_far + front.cost.frames + (cost_in new (drop front.length read)).frames
frames_so_far all so_far old new read front is e = omega (arith, ap (λ (c : Cost). c.frames) is.cost)

and_true : (a : Bool) → (a && true) ≡ a
and_true true = refl
and_true false = refl

-- no more frames begin than there are bytes
one_by_header : (header : List ℕ) → (cost_at_header header).frames ≤ 1
unfolding cost_at_header
one_by_header header =
    elim (cases_eq (length header) 6) [
      | inl e ↦ rw (eq-eqb (length header) 6 e) (omega arith)
      | inr ne ↦ rw (ne_eqb (length header) 6 ne) (omega arith)
    ]

one_by : (left : ℕ) (place : Place) (byte : ℕ) → (cost_by left place byte).frames ≤ 1
unfolding cost_by
one_by zero place byte = one_by_header (place.header ++ byte ∷ [])
one_by (suc left) place byte = omega arith

pub few_frames : (place : Place) (bytes : List ℕ) → (cost_in place bytes).frames ≤ length bytes
unfolding cost_in
few_frames place [] = omega arith
few_frames place (byte ∷ bytes) = omega (arith, one_by place.left place byte, few_frames (after_byte place byte) bytes)

-- ---- nothing is left

pub empty : (xs : List ℕ) → length xs ≡ 0 → xs ≡ []
empty [] e = refl
empty (x ∷ xs) e = absurd (omega arith)

pub nothing_read : (meter : MeterState) (rest : List ℕ) → meter.messages < 2 ^ 64 → meter.voice < 2 ^ 64 → rest ≡ [] → after_read meter rest ≡ meter
unfolding after_bytes cost_in
nothing_read meter rest few little e =
    let m : used_with meter.messages 0 ≡ meter.messages = omega arith in
    let v : used_with meter.voice 0 ≡ meter.voice = omega arith in
    ap (after_read meter) e
    ∙ ap (λ (n : ℕ). state meter.pace meter.milliseconds meter.place n (used_with meter.voice 0)) m
    ∙ ap (state meter.pace meter.milliseconds meter.place meter.messages) v

pub nothing_counted : (place : Place) (rest : List ℕ) (all_frames frames : ℕ) (all_pings pings : Bool) → rest ≡ []
    → all_frames ≡ frames + (cost_in place rest).frames → all_pings ≡ (pings && are_of_pings place rest)
    → record { frames = frames; is_pings = pings } ≡ (let all : Counted = record { frames = all_frames; is_pings = all_pings } in all)
unfolding cost_in are_of_pings
nothing_counted place rest all_frames frames all_pings pings e f p =
    let n : frames ≡ all_frames = omega (arith, ap (λ (xs : List ℕ). (cost_in place xs).frames) e) in
    let b : pings ≡ all_pings = sym (p ∙ ap (λ (xs : List ℕ). pings && are_of_pings place xs) e ∙ and_true pings) in
    ap (λ (k : ℕ). record { frames = k; is_pings = pings }) n ∙ ap (λ (k : Bool). record { frames = all_frames; is_pings = k }) b
