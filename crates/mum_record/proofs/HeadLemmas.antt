-- The version, the workers and the limits that a line names.
use Rattle.mum_record.proofs.Common.{◌≡◌, ℕ, ◌≤◌, List, [], ◌∷◌, Option, Some, None, refl, sym, ap, ◌∙◌, arith, Bool, true, false, cond, codes, option_and_then_some, bytes_eq-Decides, join_with_byte-slice_split, IsUtf8-from_ascii, IfSome, IfNone, decimal, join_with_byte, bytes_eq, IsUtf8, WORKERS_LIMIT, LEAST_SESSIONS, MOST_SESSIONS, LEAST_CHANNELS, MOST_CHANNELS, Version, One, Two, journal_line, journal_version, version_by, workers_in, workers_of, IsWorkersLine, AreLimits, limits_with, limits_in, limits_of, IsLimitsLine, BeginBelowTheHead, words_in, number_within}
use Rattle.mum_record.proofs.{Numbers.none_unless, Numbers.number_within-found, Numbers.number_within-decimal, Splits.AreAllWords, Splits.slice_split-join, Splits.join-IsAscii, Laws.literal_IsWord, Laws.decimal_IsWord, Laws.chosen, Laws.mapped}

test_holds : {A : Type 0} (b : Bool) (o : Option A) (x : A) → cond b o None ≡ Some x → (b ≡ true) × (o ≡ Some x)
test_holds true o x h = (refl, h)
test_holds false o x h = cc

workers_in-found : (words : List (List ℕ)) (w : ℕ) → workers_in words ≡ Some w → (1 ≤ w) × (w ≤ WORKERS_LIMIT) × (words ≡ codes "workers" ∷ decimal w ∷ [])
workers_in-found [] w h = cc
workers_in-found (name ∷ []) w h = cc
workers_in-found (name ∷ word ∷ []) w h =
    let parts = test_holds (bytes_eq name (codes "workers")) (number_within 1 WORKERS_LIMIT word) w h in
    let found = number_within-found 1 WORKERS_LIMIT word w parts.1 in
    let named = (bytes_eq-Decides name (codes "workers")).0 parts.0 in
    (found.0, found.1, rw (named, found.2) refl)
workers_in-found (name ∷ word ∷ more ∷ others) w h = cc

-- the workers that are found have that line
pub workers_of-found : (line : List ℕ) (w : ℕ) → workers_of line ≡ Some w → IsWorkersLine line w
unfolding workers_of
workers_of-found line w h =
    let found = workers_in-found (words_in line) w h in
    (found.0, found.1, sym (join_with_byte-slice_split 32 line) ∙ ap (join_with_byte 32) found.2)

words_are : (w : ℕ) → w ≤ WORKERS_LIMIT → AreAllWords (codes "workers" ∷ decimal w ∷ [])
words_are w h = (literal_IsWord (codes "workers") refl, (decimal_IsWord w (omega arith), tt))

-- the line of workers is read back
pub workers_of-line : (line : List ℕ) (w : ℕ) → IsWorkersLine line w → workers_of line ≡ Some w
unfolding workers_of
workers_of-line line w is =
    let split : words_in line ≡ codes "workers" ∷ decimal w ∷ [] =
    ap words_in is.2 ∙ slice_split-join (codes "workers") (decimal w ∷ []) (words_are w is.1) in
    rw split (number_within-decimal 1 WORKERS_LIMIT w is.0 is.1 (omega (arith, is.1)))

-- what is no text is no such line
pub workers_of-no_text : (line : List ℕ) → (IsUtf8 line → ⊥) → workers_of line ≡ None
workers_of-no_text line not_text =
    none_unless (workers_of line) (λ w is.
    let found = workers_of-found line w is in
    let text : IsUtf8 line = rw found.2 (IsUtf8-from_ascii _ (join-IsAscii (codes "workers" ∷ decimal w ∷ []) (words_are w found.1))) in
    not_text text)

-- what computes to a reading is right about the line
pub reads-some : {A : Type 0} (read : List ℕ → Option A) (Says : List ℕ → A → Type 0) → ((line : List ℕ) (a : A) → read line ≡ Some a → Says line a)
    → (line : List ℕ) (r : Option A) → r ≡ read line → IfSome r (Says line)
reads-some read Says found line None h = tt
reads-some read Says found line (Some a) h = found line a (sym h)

-- where nothing is read, the line says nothing
pub reads-none : {A : Type 0} (read : List ℕ → Option A) (Says : List ℕ → A → Type 0) → ((line : List ℕ) (a : A) → Says line a → read line ≡ Some a)
    → (line : List ℕ) (r : Option A) → r ≡ read line → IfNone r ((a : A) → Says line a → ⊥)
reads-none read Says back line None h = λ a says. let e = back line a says in cc
reads-none read Says back line (Some a) h = tt

-- ---- versions

version_by-found : (first : Version → List ℕ) (line : List ℕ) (v : Version) → version_by first line ≡ Some v → line ≡ first v
version_by-found first line v h =
    chosen line (first One) _ _ v (λ w e. let is : One ≡ v = cc in rw (← is) w)
    (chosen line (first Two) _ _ v (λ w e. let is : Two ≡ v = cc in rw (← is) w) (λ e. cc))
    h

-- the version whose first line it is
pub journal_version-found : (line : List ℕ) (v : Version) → journal_version line ≡ Some v → line ≡ journal_line v
unfolding journal_version
journal_version-found line v h = version_by-found journal_line line v h

-- ---- limits

limits_with-found : (sessions channels : List ℕ) (limits : ℕ × ℕ) → limits_with sessions channels ≡ Some limits
    → AreLimits limits × (sessions ≡ decimal limits.0) × (channels ≡ decimal limits.1)
limits_with-found sessions channels limits h =
    option_and_then_some _ (number_within LEAST_SESSIONS MOST_SESSIONS sessions) limits h (λ s s_is e.
    mapped (λ (c : ℕ). (s, c)) (number_within LEAST_CHANNELS MOST_CHANNELS channels) limits (λ c c_is e1.
    let left = number_within-found LEAST_SESSIONS MOST_SESSIONS sessions s s_is in
    let right = number_within-found LEAST_CHANNELS MOST_CHANNELS channels c c_is in
    rw (← e1) ((left.0, left.1, right.0, right.1), left.2, right.2)) e)

limits_in-found : (words : List (List ℕ)) (limits : ℕ × ℕ) → limits_in words ≡ Some limits
    → AreLimits limits × (words ≡ codes "limits" ∷ decimal limits.0 ∷ decimal limits.1 ∷ [])
limits_in-found [] limits h = cc
limits_in-found (name ∷ []) limits h = cc
limits_in-found (name ∷ sessions ∷ []) limits h = cc
limits_in-found (name ∷ sessions ∷ channels ∷ []) limits h =
    let parts = test_holds (bytes_eq name (codes "limits")) (limits_with sessions channels) limits h in
    let found = limits_with-found sessions channels limits parts.1 in
    let named = (bytes_eq-Decides name (codes "limits")).0 parts.0 in
    (found.0, rw (named, found.1, found.2) refl)
limits_in-found (name ∷ sessions ∷ channels ∷ more ∷ others) limits h = cc

-- the limits that are found have that line
pub limits_of-found : (line : List ℕ) (limits : ℕ × ℕ) → limits_of line ≡ Some limits → IsLimitsLine line limits
unfolding limits_of
limits_of-found line limits h =
    let found = limits_in-found (words_in line) limits h in
    (found.0, sym (join_with_byte-slice_split 32 line) ∙ ap (join_with_byte 32) found.1)

limits_are_words : (limits : ℕ × ℕ) → AreLimits limits → AreAllWords (codes "limits" ∷ decimal limits.0 ∷ decimal limits.1 ∷ [])
limits_are_words limits h =
    (literal_IsWord (codes "limits") refl, (decimal_IsWord limits.0 (omega (arith, h.1)), (decimal_IsWord limits.1 (omega (arith, h.3)), tt)))

-- the line of limits is read back
pub limits_of-line : (line : List ℕ) (limits : ℕ × ℕ) → IsLimitsLine line limits → limits_of line ≡ Some limits
unfolding limits_of
limits_of-line line limits is =
    let h = is.0 in
    let split : words_in line ≡ codes "limits" ∷ decimal limits.0 ∷ decimal limits.1 ∷ [] =
    ap words_in is.1 ∙ slice_split-join (codes "limits") (decimal limits.0 ∷ decimal limits.1 ∷ []) (limits_are_words limits h) in
    rw (
      split,
      number_within-decimal LEAST_SESSIONS MOST_SESSIONS limits.0 h.0 h.1 (omega (arith, h.1)),
      number_within-decimal LEAST_CHANNELS MOST_CHANNELS limits.1 h.2 h.3 (omega (arith, h.3)),
    ) refl

-- what is no text is no such line
pub limits_of-no_text : (line : List ℕ) → (IsUtf8 line → ⊥) → limits_of line ≡ None
limits_of-no_text line not_text =
    none_unless (limits_of line) (λ limits is.
    let found = limits_of-found line limits is in
    let text : IsUtf8 line = rw found.1 (IsUtf8-from_ascii _ (join-IsAscii (codes "limits" ∷ decimal limits.0 ∷ decimal limits.1 ∷ []) (limits_are_words limits found.0))) in
    not_text text)

-- ---- heads

-- steps and entries begin at the line below the head
pub begin_below_the_head : BeginBelowTheHead
begin_below_the_head first workers None document = refl
begin_below_the_head first workers (Some limits) document = refl
