-- A refusal has the number of the first limit that applies.
use Rattle.mum_limits_laws.proofs.Common.{◌≡◌, ℕ, ◌<◌, ◌||◌, not, Bool, true, false, cond, List, [], ◌∷◌, map, length, Option, Some, None, refl, sym, ap, subst, ◌∙◌, arith, find, is_none, nat_lt, unwrap_or, list_any, option_map, option_map_or, false≢true, deny_code, DenyType, Reason, TooLong, is_text, Verdict, Accepted, Answer, Ignored, Lacks, Refused, Rejected, Case, case_of, first_standing, Lack, told, NamesFirst, Tells, TellsEach, chain, chain_names, tells_lt, IsRefusedFor}
use Rattle.mum_limits_laws.proofs.Wanted.{IsOutcome}

-- a table whose rows are these limits, each with its test
abbrev pub rows : {Limit : Type 0} → (Limit → DenyType) → List (Limit × Bool) → List (Case DenyType)
rows type_of tests = map (λ test. case_of (type_of test.0) test.1) tests

first_of_rows : {Limit : Type 0} (type_of : Limit → DenyType) (tests : List (Limit × Bool)) → first_standing (rows type_of tests) ≡ option_map type_of (chain tests)
first_of_rows type_of [] = refl
first_of_rows {Limit} type_of (test ∷ tests) = step test.1 (first_of_rows type_of tests)
  where
    step : (b : Bool) → first_standing (rows type_of tests) ≡ option_map type_of (chain tests)
        → option_map (λ (one : Case DenyType). one.code) (cond b (Some (case_of (type_of test.0) b)) (find (λ (one : Case DenyType). one.stands) (rows type_of tests)))
        ≡ option_map type_of (cond b (Some test.0) (chain tests))
    step true rest = refl
    step false rest = rest

refused : {Limit : Type 0} (type_of : Limit → DenyType) (number : Limit → ℕ) → ((limit : Limit) → deny_code (type_of limit) ≡ number limit) → (Applies : Limit → Type 0) (order : List Limit) (answer : Option Limit)
    → NamesFirst Applies order answer → (lack : Option Lack) (rest : Verdict) → IsOutcome rest → IsRefusedFor number Applies order (told None lack (option_map type_of answer) rest)
refused type_of number same Applies order answer names (Some lack) rest ends = tt
refused type_of number same Applies order (Some limit) names None rest ends = (limit, same limit, names)
refused type_of number same Applies order None names None (Accepted edit) ends = names
refused type_of number same Applies order None names None (Answer frame) ends = tt
refused type_of number same Applies order None names None (Ignored why) ends = tt
refused type_of number same Applies order None names None (Rejected kind) ends = tt
refused type_of number same Applies order None names None (Lacks perm id) ends = tt
refused type_of number same Applies order None names None (Refused kind) ends = absurd ends

pub limited_lem : {Limit : Type 0} (type_of : Limit → DenyType) (number : Limit → ℕ) → ((limit : Limit) → deny_code (type_of limit) ≡ number limit)
    → (Applies : Limit → Type 0) (tests : List (Limit × Bool)) (cases : List (Case DenyType)) → cases ≡ rows type_of tests
    → (reason : Option Reason) → (reason ≡ None → TellsEach Applies tests) → (lack : Option Lack) (rest : Verdict) → IsOutcome rest
    → IsRefusedFor number Applies (map (λ test. test.0) tests) (told reason lack (first_standing cases) rest)
limited_lem type_of number same Applies tests cases are (Some reason) tells lack rest ends = tt
limited_lem type_of number same Applies tests cases are None tells lack rest ends =
    subst (λ (o : Option DenyType). IsRefusedFor number Applies (map (λ test. test.0) tests) (told None lack o rest)) (sym (ap first_standing are ∙ first_of_rows type_of tests))
    (refused type_of number same Applies (map (λ test. test.0) tests) (chain tests) (chain_names Applies tests (tells refl)) lack rest ends)

-- ---- tests

pub long : (text : List ℕ) → Tells (not (is_text text)) (20000 < length text)
long text = step (nat_lt 20000 (length text)) (tells_lt 20000 (length text))
  where
    step : (b : Bool) → Tells b (20000 < length text) → Tells (not (is_none (cond b (Some TooLong) None))) (20000 < length text)
    step true tells = record { so = λ _. tells.so refl; not_so = λ off _. false≢true (sym off) }
    step false tells = record { so = λ is. absurd (false≢true is); not_so = λ _ is. tells.not_so refl is }

-- a text that is not given is not too long
pub given_long : (most : ℕ) (too_long : List ℕ → Bool) (o : Option (List ℕ)) → ((text : List ℕ) → Tells (too_long text) (most < length text)) → Tells (option_map_or too_long o false) (most < length (unwrap_or o []))
given_long most too_long None tells = record { so = λ is. absurd (false≢true is); not_so = λ _ less. absurd (omega (arith, less)) }
given_long most too_long (Some text) tells = tells text

pub any_map : {X Y : Type 0} (p : Y → Bool) (f : X → Y) (xs : List X) → list_any p (map f xs) ≡ list_any (λ x. p (f x)) xs
any_map p f [] = refl
any_map p f (x ∷ xs) = ap (λ (b : Bool). p (f x) || b) (any_map p f xs)
