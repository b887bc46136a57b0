-- The longest front of a text.
use Rattle.mum_bans.proofs.Common.{◌≡◌, ℕ, ◌≤◌, ◌<◌, List, ◌++◌, length, take, drop, inl, inr, refl, sym, ap, subst, ◌∙◌, take_at, IsUtf8, IsCharBoundary, length-append, length-take, take-append-drop, le_antisymm, arith, cases_lt, IsUtf8-take, IsCharBoundary-from_take, IsFront, IsCut}

-- a front is the text up to its length
front_is : (text front : List ℕ) → (is : IsFront text front) → take (length front) text ≡ front
front_is text front is = ap (λ (bytes : List ℕ). take (length front) bytes) is.begins ∙ take_at front is.rest (length front) refl

pub one_cut : (text front other : List ℕ) → IsCut text front → IsCut text other → front ≡ other
one_cut text front other is also =
    let same : length front ≡ length other = le_antisymm (also.longest front is.is_front) (is.longest other also.is_front) in
    sym (front_is text front is.is_front) ∙ ap (λ n. take n text) same ∙ front_is text other also.is_front

front_length : (text front : List ℕ) → IsFront text front → length front ≤ length text
front_length text front is =
    let e = length-append front is.rest in
    let l : length text ≡ length (front ++ is.rest) = ap (λ (bytes : List ℕ). length bytes) is.begins in
    omega arith

-- the text up to the last place within the limit at which it may be cut
pub cut_at : (text : List ℕ) (place : ℕ) → IsUtf8 text → place ≤ 1024 → IsCharBoundary text place → ((i : ℕ) → place < i → i ≤ 1024 → IsCharBoundary text i → ⊥) → IsCut text (take place text)
cut_at text place utf8 within boundary nearest = record {
  is_front = record {
    rest = drop place text;
    begins = sym (take-append-drop place text);
    whole = IsUtf8-take text place utf8 boundary;
    short = let e = length-take place text in omega arith;
  };
  longest = λ other is. no_longer other is;
}
  where
    there : length (take place text) ≡ place
    there = let e = length-take place text in let inside : place ≤ length text = boundary.0 in omega arith

    no_longer : (other : List ℕ) → IsFront text other → length other ≤ length (take place text)
    no_longer other is =
        elim (cases_lt place (length other)) [
          | inr less ↦ omega (arith, there)
          | inl more ↦ absurd (nearest (length other) more is.short (IsCharBoundary-from_take text (length other) utf8 (front_length text other is) (subst (λ (bytes : List ℕ). IsUtf8 bytes) (sym (front_is text other is)) is.whole)))
        ]
