-- Lines cut into words, and words joined to lines.
use Rattle.mum_record.proofs.Common.{◌≡◌, ℕ, zero, suc, ◌+◌, ◌<◌, ◌≤◌, Bool, sym, List, [], ◌∷◌, ◌++◌, map, length, Option, Some, None, refl, ap, ◌∙◌, arith, inl, inr, false, lit<, Bor, length-append, append-nil, slice_split_first, IsSplitOnceResult, split_once_first, split_parts, cases_Bool, IsAscii-append, IsAscii-nil, IsAscii, slice_split, join_with_byte, flat_map, position_or_len, before_first, after_first, is_space, line_of_words, spelled_word, behind_space, Word}

-- no byte is a space, and each is ASCII
abbrev pub IsWord : List ℕ → Type 0
IsWord [] = Unit {0}
IsWord (b ∷ bs) = (is_space b ≡ false) × (b < 128) × IsWord bs

abbrev pub AreAllWords : List (List ℕ) → Type 0
AreAllWords [] = Unit {0}
AreAllWords (w ∷ ws) = IsWord w × AreAllWords ws

split_last : (w : List ℕ) → IsWord w → slice_split is_space w ≡ w ∷ []
split_last [] h = refl
split_last (b ∷ bs) h = rw (h.0, split_last bs h.2) refl

split_more : (w rest : List ℕ) → IsWord w → slice_split is_space (w ++ 32 ∷ rest) ≡ w ∷ slice_split is_space rest
split_more [] rest h = refl
split_more (b ∷ bs) rest h = rw (h.0, split_more bs rest h.2) refl

-- words that were joined by spaces are found again
pub slice_split-join : (w : List ℕ) (ws : List (List ℕ)) → AreAllWords (w ∷ ws) → slice_split is_space (join_with_byte 32 (w ∷ ws)) ≡ w ∷ ws
slice_split-join w [] h = split_last w h.0
slice_split-join w (x ∷ xs) h = split_more w (join_with_byte 32 (x ∷ xs)) h.0 ∙ ap (λ (ys : List (List ℕ)). w ∷ ys) (slice_split-join x xs h.1)

pub slice_split-join_all : (ws : List (List ℕ)) → 0 < length ws → AreAllWords ws → slice_split is_space (join_with_byte 32 ws) ≡ ws
slice_split-join_all [] some h = absurd (omega arith)
slice_split-join_all (w ∷ ws) some h = slice_split-join w ws h

spaced : (line : List ℕ) → IsAscii line → IsAscii (32 ∷ line)
spaced line h zero = lit< tt
spaced line h (suc i) = h i

-- words joined by spaces are ASCII
word-IsAscii : (w : List ℕ) → IsWord w → IsAscii w
word-IsAscii [] h i = lit< tt
word-IsAscii (b ∷ bs) h zero = h.1
word-IsAscii (b ∷ bs) h (suc i) = word-IsAscii bs h.2 i

pub join-IsAscii : (ws : List (List ℕ)) → AreAllWords ws → IsAscii (join_with_byte 32 ws)
join-IsAscii [] h = IsAscii-nil
join-IsAscii (w ∷ []) h = word-IsAscii w h.0
join-IsAscii (w ∷ x ∷ xs) h = IsAscii-append w (32 ∷ join_with_byte 32 (x ∷ xs)) (word-IsAscii w h.0) (spaced (join_with_byte 32 (x ∷ xs)) (join-IsAscii (x ∷ xs) h.1))

-- what has no element that passes is one part
pub slice_split-whole : {X : Type 0} (p : X → Bool) (xs : List X) → length xs ≤ position_or_len p xs → slice_split p xs ≡ xs ∷ []
slice_split-whole p [] h = refl
slice_split-whole p (x ∷ xs) h = elim (cases_Bool (p x)) [
  | inl passes ↦
      let here : position_or_len p (x ∷ xs) ≡ 0 = rw passes refl in
      absurd (omega arith)
  | inr other ↦
      let later : position_or_len p (x ∷ xs) ≡ 1 + position_or_len p xs = rw other refl in
      let rest : length xs ≤ position_or_len p xs = omega arith in
      rw (other, slice_split-whole p xs rest) refl
]

-- a line of a first word and others
pub line_of_words-first : (first : List ℕ) (words : List Word) → line_of_words (first ∷ map spelled_word words) ≡ first ++ flat_map behind_space words
line_of_words-first first [] = sym (append-nil first)
line_of_words-first first (word ∷ words) = ap (λ (xs : List ℕ). first ++ 32 ∷ xs) (line_of_words-first (spelled_word word) words)

pub first_word-none : (line : List ℕ) (r : Option (Bor (List ℕ) × Bor (List ℕ))) → IsSplitOnceResult 32 line r → r ≡ None → slice_split is_space line ≡ line ∷ []
first_word-none line None h e =
    let none = split_once_first 32 line None h (lit< tt) in
    slice_split-whole is_space line (omega arith)
first_word-none line (Some x) h e = cc

pub first_word-some : (line : List ℕ) (r : Option (Bor (List ℕ) × Bor (List ℕ))) (x : Bor (List ℕ) × Bor (List ℕ)) → IsSplitOnceResult 32 line r → r ≡ Some x
    → slice_split is_space line ≡ x.0.now ∷ slice_split is_space x.1.now
first_word-some line None x h e = cc
first_word-some line (Some y) x h e =
    let parts = split_once_first 32 line (Some y) h (lit< tt) in
    let cut : slice_split is_space line ≡ before_first is_space line ∷ slice_split is_space (after_first is_space line) = slice_split_first is_space line 0 parts.0 in
    let same : y ≡ x = cc in
    rw (← same, parts.1, parts.2) cut

-- what follows the space is shorter
pub first_word-shorter : (line : List ℕ) (r : Option (Bor (List ℕ) × Bor (List ℕ))) (x : Bor (List ℕ) × Bor (List ℕ)) → IsSplitOnceResult 32 line r → r ≡ Some x
    → length x.1.now < length line
first_word-shorter line None x h e = cc
first_word-shorter line (Some y) x h e =
    let parts = split_parts 32 line (Some y) h (lit< tt) in
    let same : y ≡ x = cc in
    let size : length line ≡ length y.0.now + length (32 ∷ y.1.now) = ap length parts.0 ∙ length-append y.0.now (32 ∷ y.1.now) in
    rw (← same) (omega (arith, size))
