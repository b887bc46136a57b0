-- A chain of tests names the first cause that applies.
use Rattle.mum_part_laws.proofs.Common.{◌≡◌, ◌⊎◌, ℕ, ◌==◌, ◌&&◌, ◌||◌, not, Bool, true, false, cond, List, [], ◌∷◌, map, Option, Some, None, inl, inr, refl, sym, ap, ◌∙◌, arith, length, nat_le, nat_lt, slice_index_or, ⊤, ◌≤◌, ◌<◌, Contains, list_any, false≢true, nat_tests, All-cons, All-contains, All-nil, Contains-append_right, Contains-get_or, NamesFirst}

-- a cause, and the test whether it applies
abbrev pub Case : Type 0 → Type 0
Case Cause = Cause × Bool

-- the first whose test holds
abbrev pub chain : {Cause : Type 0} → List (Case Cause) → Option Cause
chain [] = None
chain (one ∷ others) = cond one.1 (Some one.0) (chain others)

-- the test says whether the fact holds
pub record Tells (test : Bool) (Fact : Type 0) : Type 0 where
  pub so : test ≡ true → Fact
  pub not_so : test ≡ false → Fact → ⊥

names : {Cause : Type 0} (Applies : Cause → Type 0) (cause : Cause) (order : List Cause) (answer : Option Cause) → (Applies cause → ⊥) → NamesFirst Applies order answer → NamesFirst Applies (cause ∷ order) answer
names Applies cause order None never rest = All-cons (λ other. Applies other → ⊥) cause order never rest
names Applies cause order (Some found) never rest = record {
  earlier = cause ∷ rest.earlier;
  later = rest.later;
  whole = ap (λ (list : List _). cause ∷ list) rest.whole;
  applies = rest.applies;
  none_earlier = All-cons (λ other. Applies other → ⊥) cause rest.earlier never rest.none_earlier;
}

-- each test says whether its cause applies, where none before it does
abbrev pub TellsEach : {Cause : Type 0} → (Cause → Type 0) → List (Case Cause) → Type 0
TellsEach Applies [] = ⊤
TellsEach Applies (one ∷ others) = Tells one.1 (Applies one.0) × (one.1 ≡ false → TellsEach Applies others)

pub chain_names : {Cause : Type 0} (Applies : Cause → Type 0) (cases : List (Case Cause)) → TellsEach Applies cases → NamesFirst Applies (map (λ one. one.0) cases) (chain cases)
chain_names Applies [] tells = All-nil (λ other. Applies other → ⊥)
chain_names {Cause} Applies (one ∷ others) tells = step one.1 refl (λ off. chain_names Applies others (tells.1 off))
  where
    step : (b : Bool) → one.1 ≡ b → (one.1 ≡ false → NamesFirst Applies (map (λ other. other.0) others) (chain others))
        → NamesFirst Applies (one.0 ∷ map (λ other. other.0) others) (cond b (Some one.0) (chain others))
    step true is rest = record { earlier = []; later = map (λ other. other.0) others; whole = refl; applies = tells.0.so is; none_earlier = All-nil (λ other. Applies other → ⊥) }
    step false is rest = names Applies one.0 (map (λ other. other.0) others) (chain others) (tells.0.not_so is) (rest is)

-- ---- what tests say

pub tells_eq : (a b : ℕ) → Tells (a == b) (a ≡ b)
tells_eq a b = record { so = λ is. yes a b is; not_so = λ is same. no a b is same }
  where
    yes : (a b : ℕ) → (a == b) ≡ true → a ≡ b
    yes a b is = grind (arith, nat_tests)

    no : (a b : ℕ) → (a == b) ≡ false → a ≡ b → ⊥
    no a b is same = grind (arith, nat_tests)

pub tells_le : (a b : ℕ) → Tells (nat_le a b) (a ≤ b)
tells_le a b = record { so = λ is. yes a b is; not_so = λ is below. no a b is below }
  where
    yes : (a b : ℕ) → nat_le a b ≡ true → a ≤ b
    yes a b is = grind (arith, nat_tests)

    no : (a b : ℕ) → nat_le a b ≡ false → a ≤ b → ⊥
    no a b is below = grind (arith, nat_tests)

pub tells_lt : (a b : ℕ) → Tells (nat_lt a b) (a < b)
tells_lt a b = record { so = λ is. yes a b is; not_so = λ is below. no a b is below }
  where
    yes : (a b : ℕ) → nat_lt a b ≡ true → a < b
    yes a b is = grind (arith, nat_tests)

    no : (a b : ℕ) → nat_lt a b ≡ false → a < b → ⊥
    no a b is below = grind (arith, nat_tests)

pub tells_same : (b : Bool) → Tells b (b ≡ true)
tells_same b = record { so = λ is. is; not_so = λ is on. false≢true (sym is ∙ on) }

pub tells_off : (b : Bool) → Tells (not b) (b ≡ false)
tells_off true = record { so = λ is. absurd (false≢true is); not_so = λ is off. false≢true (sym off) }
tells_off false = record { so = λ is. refl; not_so = λ is off. false≢true (sym is) }

pub tells_not : {Fact : Type 0} (b : Bool) → Tells b Fact → Tells (not b) (Fact → ⊥)
tells_not {Fact} true tells = record { so = λ is. absurd (false≢true is); not_so = λ is never. never (tells.so refl) }
tells_not {Fact} false tells = record { so = λ is. tells.not_so refl; not_so = λ is never. false≢true (sym is) }

-- one of two is not
pub tells_either : {One Other : Type 0} (a b : Bool) → Tells (not a) One → Tells (not b) Other → Tells (not (a && b)) (One ⊎ Other)
tells_either true b one other = record {
  so = λ is. inr (other.so is);
  not_so = λ is either. elim either as (λ _. ⊥) [ inl first ↦ one.not_so refl first | inr second ↦ other.not_so is second ];
}
tells_either false b one other = record { so = λ is. inl (one.so refl); not_so = λ is either. false≢true (sym is) }

pub tells_and : {One Other : Type 0} (a b : Bool) → Tells a One → Tells b Other → Tells (a && b) (One × Other)
tells_and true true one other = record { so = λ is. (one.so refl, other.so refl); not_so = λ is both. false≢true (sym is) }
tells_and true false one other = record { so = λ is. absurd (false≢true is); not_so = λ is both. other.not_so refl both.1 }
tells_and false b one other = record { so = λ is. absurd (false≢true is); not_so = λ is both. one.not_so refl both.0 }

pub tells_or : {One Other : Type 0} (a b : Bool) → Tells a One → Tells b Other → Tells (a || b) (One ⊎ Other)
tells_or true b one other = record { so = λ is. inl (one.so refl); not_so = λ is either. false≢true (sym is) }
tells_or false true one other = record { so = λ is. inr (other.so refl); not_so = λ is either. false≢true (sym is) }
tells_or false false one other = record {
  so = λ is. absurd (false≢true is);
  not_so = λ is either. elim either as (λ _. ⊥) [ inl first ↦ one.not_so refl first | inr second ↦ other.not_so refl second ];
}

-- the same test of another fact
pub tells_so : {One Other : Type 0} (b : Bool) → (One → Other) → (Other → One) → Tells b One → Tells b Other
tells_so b to back tells = record { so = λ is. to (tells.so is); not_so = λ is other. tells.not_so is (back other) }

pub tells_any : {X : Type 0} (p : X → Bool) (P : X → Type 0) → ((x : X) → Tells (p x) (P x)) → (xs : List X) → Tells (list_any p xs) ((x : X) × Contains xs x × P x)
tells_any {X} p P tells [] = record {
  so = λ is. absurd (false≢true is);
  not_so = λ is some. (All-contains (λ (x : X). ⊥) [] some.0 (All-nil (λ (x : X). ⊥)) some.1);
}
tells_any {X} p P tells (x ∷ xs) = step (p x) refl (list_any p xs) (tells_any p P tells xs)
  where
    step : (b : Bool) → p x ≡ b → (c : Bool) → Tells c ((y : X) × Contains xs y × P y) → Tells (b || c) ((y : X) × Contains (x ∷ xs) y × P y)
    step true is c rest = record { so = λ _. (x, Contains-get_or (x ∷ xs) 0 x (omega arith), (tells x).so is); not_so = λ off some. false≢true (sym off) }
    step false is true rest = record {
      so = λ _. (let later = rest.so refl in (later.0, Contains-append_right (x ∷ []) xs later.0 later.1, later.2));
      not_so = λ off some. false≢true (sym off);
    }
    step false is false rest = record {
      so = λ on. absurd (false≢true on);
      not_so = λ off some.
          All-contains (λ (y : X). P y → ⊥) (x ∷ xs) some.0
          (All-cons (λ (y : X). P y → ⊥) x xs ((tells x).not_so is) (none xs (λ y there holds. rest.not_so refl (y, there, holds)))) some.1 some.2;
    }
      where
        none : (ys : List X) → ((y : X) → Contains ys y → P y → ⊥) → (k : ℕ) (d : X) → k < length ys → P (slice_index_or ys k d) → ⊥
        none ys never k d within holds = never (slice_index_or ys k d) (Contains-get_or ys k d within) holds
