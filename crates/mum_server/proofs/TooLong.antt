-- A line that is too long stops the run, wherever it ends.
use Rattle.mum_server.proofs.Common.{◌≡◌, ℕ, ◌+◌, ◌-◌, ◌<◌, ◌≤◌, ◌⊎◌, Bool, true, false, cond, ltb, List, [], ◌∷◌, ◌++◌, length, take, drop, refl, ap, ◌∙◌, arith, inl, inr, length-append, ◌||◌, min, slice_split, onto_first, cases_lt, le-ltb, lt-ltb, length-take-le, slice_split_first, slice_split-whole, IsTooLong, begun, line_length, first-longer, first-within, Phase, Head, Workers, Limits, Config, LimitedConfig, Running, Over, TooLong, BadRecording, Faulty, LINE_LIMIT, Answer, Stops, goes_on, answer, line_answer, is_too_long, end_fault, ending_of, outcome_from, stops_at, is_line_feed}

abbrev pub IsFilled : List (List ℕ) → Type 0
IsFilled parts = (first : List ℕ) × (more : List (List ℕ)) × (parts ≡ first ∷ more)

IsFilled-cons : (b : Bool) (x : ℕ) (parts : List (List ℕ)) → IsFilled parts → IsFilled (cond b ([] ∷ parts) (onto_first x parts))
IsFilled-cons true x parts h = ([], parts, refl)
IsFilled-cons false x parts h = (x ∷ h.0, h.1, ap (onto_first x) h.2)

pub split_filled : (xs : List ℕ) → IsFilled (slice_split is_line_feed xs)
split_filled [] = ([], [], refl)
split_filled (x ∷ xs) = IsFilled-cons (is_line_feed x) x (slice_split is_line_feed xs) (split_filled xs)

-- ---- the tests of lengths

or-true : (b : Bool) → (b || true) ≡ true
or-true true = refl
or-true false = refl

-- a line is too long where it is, or where the input passes its limit
pub too_long : (left line all : ℕ) → ((LINE_LIMIT < line) ⊎ (left < all)) → is_too_long left line all ≡ true
too_long left line all (inl lt) = ap (λ (b : Bool). b || ltb left all) (lt-ltb LINE_LIMIT line lt)
too_long left line all (inr lt) = ap (λ (b : Bool). ltb LINE_LIMIT line || b) (lt-ltb left all lt) ∙ or-true (ltb LINE_LIMIT line)

-- and else it is not
pub short_enough : (left line all : ℕ) → line ≤ LINE_LIMIT → all ≤ left → is_too_long left line all ≡ false
short_enough left line all a b = ap (λ (x : Bool). x || ltb left all) (le-ltb LINE_LIMIT line a) ∙ le-ltb left all b

pub ending_cut : (phase : Phase) (n left x : ℕ) (xs : List ℕ) → ending_of phase n left (x ∷ xs) ≡ Faulty n (end_fault left (x ∷ xs))
ending_cut Head n left x xs = refl
ending_cut (Workers version) n left x xs = refl
ending_cut (Limits w) n left x xs = refl
ending_cut (Config w) n left x xs = refl
ending_cut (LimitedConfig w limits) n left x xs = refl
ending_cut (Running core) n left x xs = refl
ending_cut Over n left x xs = refl

-- the first of several parts is a line
pub outcome_cons : (phase : Phase) (n left : ℕ) (line : List ℕ) (parts : List (List ℕ)) → IsFilled parts
    → outcome_from phase n left (line ∷ parts) ≡ goes_on n (line_answer phase left line) (λ after. outcome_from after (n + 1) (left - (length line + 1)) parts)
unfolding outcome_from
outcome_cons phase n left line [] h = absurd cc
outcome_cons phase n left line (next ∷ parts) h = refl

-- ---- a line that is too long

-- where no line feed ends it
ends_long : (phase : Phase) (n left : ℕ) (rest : List ℕ) → ((LINE_LIMIT < length rest) ⊎ (left < length rest)) → ending_of phase n left rest ≡ Faulty n TooLong
ends_long phase n left [] (inl lt) = absurd (omega arith)
ends_long phase n left [] (inr lt) = absurd (omega arith)
ends_long phase n left (x ∷ xs) long =
    ending_cut phase n left x xs ∙ ap (λ (b : Bool). Faulty n (cond b TooLong BadRecording)) (too_long left (length (x ∷ xs)) (length (x ∷ xs)) long)

-- where one does
answers_long : (phase : Phase) (left : ℕ) (line : List ℕ) → ((LINE_LIMIT < length line) ⊎ (left < length line + 1)) → line_answer phase left line ≡ Stops TooLong
answers_long phase left line long = ap (λ (b : Bool). cond b (Stops TooLong) (answer phase line)) (too_long left (length line) (length line + 1) long)

-- more bytes do not make a line shorter
longer_begun : (kept more : List ℕ) → begun kept ≤ begun (kept ++ more)
longer_begun kept more =
    let grows = first-longer is_line_feed kept more in
    omega (arith, grows, length-append kept more)

pub longer_too_long : (left : ℕ) (kept more : List ℕ) → IsTooLong left kept → IsTooLong left (kept ++ more)
longer_too_long left kept more (inl lt) = let grows = first-longer is_line_feed kept more in inl (omega (arith, grows, lt))
longer_too_long left kept more (inr lt) = let grows = longer_begun kept more in inr (omega (arith, grows, lt))

pub above_by : (left at len line : ℕ) → at < len → line ≡ at → ((LINE_LIMIT < at) ⊎ (left < min (at + 1) len)) → (LINE_LIMIT < line) ⊎ (left < line + 1)
above_by left at len line inside is (inl lt) = inl (omega (arith, is, lt))
above_by left at len line inside is (inr lt) = inr (omega (arith, is, lt, inside))

pub all_by : (left at len : ℕ) → len ≤ at → at ≤ len → ((LINE_LIMIT < at) ⊎ (left < min (at + 1) len)) → (LINE_LIMIT < len) ⊎ (left < len)
all_by left at len outside within (inl lt) = inl (omega (arith, lt, within))
all_by left at len outside within (inr lt) = inr (omega (arith, lt, within))

whole_long : (phase : Phase) (n left : ℕ) (bytes : List ℕ) → IsTooLong left bytes → outcome_from phase n left (slice_split is_line_feed bytes) ≡ stops_at n TooLong
unfolding outcome_from
whole_long phase n left bytes long =
    elim (cases_lt (line_length bytes) (length bytes)) [
      | inl inside ↦
          let line = take (line_length bytes) bytes in
          let len : length line ≡ line_length bytes = length-take-le (line_length bytes) bytes (omega (arith, inside)) in
          let rest = slice_split is_line_feed (drop (line_length bytes + 1) bytes) in
          let above : (LINE_LIMIT < length line) ⊎ (left < length line + 1) = above_by left (line_length bytes) (length bytes) (length line) inside len long in
          ap (outcome_from phase n left) (slice_split_first is_line_feed bytes 0 inside)
          ∙ outcome_cons phase n left line rest (split_filled (drop (line_length bytes + 1) bytes))
          ∙ ap (λ (a : Answer). goes_on n a (λ after. outcome_from after (n + 1) (left - (length line + 1)) rest)) (answers_long phase left line above)
      | inr outside ↦
          let all : (LINE_LIMIT < length bytes) ⊎ (left < length bytes) = all_by left (line_length bytes) (length bytes) outside (first-within is_line_feed bytes) long in
          ap (outcome_from phase n left) (slice_split-whole is_line_feed bytes outside) ∙ ap (λ e. record { text = []; ending = e }) (ends_long phase n left bytes all)
    ]

-- the run stops at it, whatever comes after what is kept of it
pub stops_long : (phase : Phase) (n left : ℕ) (kept more : List ℕ) → IsTooLong left kept → outcome_from phase n left (slice_split is_line_feed (kept ++ more)) ≡ stops_at n TooLong
stops_long phase n left kept more long = whole_long phase n left (kept ++ more) (longer_too_long left kept more long)
