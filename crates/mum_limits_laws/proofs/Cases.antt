-- Tables of reasons and limits as chains of tests.
use Rattle.mum_limits_laws.proofs.Common.{◌≡◌, suc, ◌&&◌, ◌||◌, not, Bool, true, false, cond, List, [], ◌∷◌, ◌++◌, map, Option, Some, None, refl, sym, ap, subst, ◌∙◌, arith, find, is_none, is_some, ◌≢◌, All, Contains, list_all, list_any, option_map, false≢true, none-some, Case, case_of, first_standing, IsFirstStanding, NoneStands, AllOff, IsFirst, NamesFirst, Tells, TellsEach, chain, chain_names, tells_any}

-- the rows of a table, each with its test
abbrev pub tests : {Code : Type 0} → List (Case Code) → List (Code × Bool)
tests {Code} cases = map (λ (one : Case Code). (one.code, one.stands)) cases

first_chain : {Code : Type 0} (cases : List (Case Code)) → first_standing cases ≡ chain (tests cases)
first_chain [] = refl
first_chain {Code} (one ∷ cases) = step one.stands (first_chain cases)
  where
    step : (b : Bool) → first_standing cases ≡ chain (tests cases)
        → option_map (λ (c : Case Code). c.code) (cond b (Some one) (find (λ (c : Case Code). c.stands) cases)) ≡ cond b (Some one.code) (chain (tests cases))
    step true rest = refl
    step false rest = rest

-- where each test says whether its row applies, the first row that holds is the first that applies
pub table_names : {Code : Type 0} (Applies : Code → Type 0) (cases : List (Case Code)) → TellsEach Applies (tests cases) → NamesFirst Applies (map (λ one. one.0) (tests cases)) (first_standing cases)
table_names Applies cases tells = subst (NamesFirst Applies (map (λ one. one.0) (tests cases))) (sym (first_chain cases)) (chain_names Applies (tests cases) tells)

standing : {Code : Type 0} (before after : List (Case Code)) (code : Code) → All (λ one. one.stands ≡ false) before → first_standing (before ++ case_of code true ∷ after) ≡ Some code
standing [] after code none = refl
standing {Code} (one ∷ before) after code none =
    ap (λ (b : Bool). option_map (λ (c : Case Code). c.code) (cond b (Some one) (find (λ (c : Case Code). c.stands) (before ++ case_of code true ∷ after)))) (none 0 one (omega arith))
    ∙ standing before after code (λ k d within. none (suc k) d (omega arith))

-- a row that the table's own law calls the first
pub first_is : {Code : Type 0} (Applies : Code → Type 0) (order : List Code) (cases : List (Case Code)) (code : Code) → NamesFirst Applies order (first_standing cases) → IsFirstStanding cases code → IsFirst Applies order code
first_is Applies order cases code names first =
    subst (NamesFirst Applies order) (ap first_standing first.whole ∙ standing first.before first.after code first.none) names

none_standing : {Code : Type 0} (cases : List (Case Code)) → NoneStands cases → first_standing cases ≡ None
none_standing [] none = refl
none_standing {Code} (one ∷ cases) none =
    ap (λ (b : Bool). option_map (λ (c : Case Code). c.code) (cond b (Some one) (find (λ (c : Case Code). c.stands) cases))) (none 0 one (omega arith))
    ∙ none_standing cases (λ k d within. none (suc k) d (omega arith))

pub none_applies : {Code : Type 0} (Applies : Code → Type 0) (order : List Code) (cases : List (Case Code)) → NamesFirst Applies order (first_standing cases) → NoneStands cases
    → All (λ code. Applies code → ⊥) order
none_applies Applies order cases names none = subst (NamesFirst Applies order) (none_standing cases none) names

pub each_off : {Code : Type 0} (cases : List (Case Code)) → NoneStands cases → AllOff cases
each_off [] none = tt
each_off (one ∷ cases) none = (none 0 one (omega arith), each_off cases (λ k d within. none (suc k) d (omega arith)))

-- ---- tests

pub tells_missing : {X : Type 0} (o : Option X) → Tells (is_none o) (o ≡ None)
tells_missing None = record { so = λ is. refl; not_so = λ is none. false≢true (sym is) }
tells_missing (Some x) = record { so = λ is. absurd (false≢true is); not_so = λ is none. none-some x (sym none) }

pub some_given : {X : Type 0} (o : Option X) → Tells (is_some o) (o ≢ None)
some_given None = record { so = λ on. absurd (false≢true on); not_so = λ _ other. other refl }
some_given (Some x) = record { so = λ _ none. none-some x (sym none); not_so = λ off _. false≢true (sym off) }

not_all : {X : Type 0} (p : X → Bool) (xs : List X) → not (list_all p xs) ≡ list_any (λ x. not (p x)) xs
not_all p [] = refl
not_all p (x ∷ xs) = both (p x) (list_all p xs) ∙ ap (λ (b : Bool). not (p x) || b) (not_all p xs)
  where
    both : (a b : Bool) → not (a && b) ≡ (not a || not b)
    both true b = refl
    both false b = refl

pub tells_not_all : {X : Type 0} (p : X → Bool) (P : X → Type 0) → ((x : X) → Tells (not (p x)) (P x)) → (xs : List X) → Tells (not (list_all p xs)) ((x : X) × Contains xs x × P x)
tells_not_all {X} p P tells xs = subst (λ (b : Bool). Tells b ((x : X) × Contains xs x × P x)) (sym (not_all p xs)) (tells_any (λ x. not (p x)) P tells xs)
