-- The words of a command line that ask for an exercise.
use Rattle.mum_server.proofs.Common.{◌≡◌, ℕ, ◌^◌, ◌-◌, ◌<◌, ◌≤◌, List, [], ◌∷◌, length, get_or, Some, None, codes, refl, sym, ap, ◌∙◌, arith, decimal, map, number_within-found, number_within-decimal, number_within, IsExercise, ROUNDS_LIMIT}

pub map_three : {X : Type 0} (f : X → List ℕ) (xs : List X) (x y z : X) → 3 ≤ length xs → length xs < 4 → x ≡ get_or xs 0 x → y ≡ get_or xs 1 y → z ≡ get_or xs 2 z
    → map f xs ≡ f x ∷ f y ∷ f z ∷ []
map_three f [] x y z low high is_x is_y is_z = absurd (omega arith)
map_three f (a ∷ []) x y z low high is_x is_y is_z = absurd (omega arith)
map_three f (a ∷ b ∷ []) x y z low high is_x is_y is_z = absurd (omega arith)
map_three f (a ∷ b ∷ c ∷ []) x y z low high is_x is_y is_z = cc
map_three f (a ∷ b ∷ c ∷ d ∷ more) x y z low high is_x is_y is_z = absurd (omega arith)

-- three words that ask for it
pub asks_exercise : (words : List (List ℕ)) (name first second : List ℕ) (seed rounds : ℕ) → words ≡ name ∷ first ∷ second ∷ [] → name ≡ codes "exercise"
    → number_within 0 (2 ^ 64 - 1) first ≡ Some seed → number_within 0 ROUNDS_LIMIT second ≡ Some rounds → IsExercise words seed rounds
asks_exercise words name first second seed rounds are named seeded counted =
    let low = number_within-found 0 (2 ^ 64 - 1) first seed seeded in
    let high = number_within-found 0 ROUNDS_LIMIT second rounds counted in
    record {
      words_are = rw (← named, ← low.2, ← high.2) are;
      seed_fits = omega (arith, low.1);
      within_limit = high.1;
    }

-- what such words are, one by one
pub record AreAsked (name first second : List ℕ) (seed rounds : ℕ) : Type 0 where
  pub named : name ≡ codes "exercise"
  pub seeded : number_within 0 (2 ^ 64 - 1) first ≡ Some seed
  pub counted : number_within 0 ROUNDS_LIMIT second ≡ Some rounds

pub words_asked : (words : List (List ℕ)) (name first second : List ℕ) (seed rounds : ℕ) → words ≡ name ∷ first ∷ second ∷ [] → IsExercise words seed rounds
    → AreAsked name first second seed rounds
words_asked words name first second seed rounds are asks =
    let same = sym are ∙ asks.words_are in
    let fits = asks.seed_fits in
    let limit = asks.within_limit in
    let first_is : first ≡ decimal seed = cc in
    let second_is : second ≡ decimal rounds = cc in
    record {
      named = cc;
      seeded = ap (number_within 0 (2 ^ 64 - 1)) first_is ∙ number_within-decimal 0 (2 ^ 64 - 1) seed (omega arith) (omega arith) fits;
      counted = ap (number_within 0 ROUNDS_LIMIT) second_is ∙ number_within-decimal 0 ROUNDS_LIMIT rounds (omega arith) limit (omega arith);
    }

-- the same of a list of three
pub three_asked : {X : Type 0} (f : X → List ℕ) (xs : List X) (x y z : X) → 3 ≤ length xs → length xs < 4 → x ≡ get_or xs 0 x → y ≡ get_or xs 1 y → z ≡ get_or xs 2 z
    → (seed rounds : ℕ) → IsExercise (map f xs) seed rounds → AreAsked (f x) (f y) (f z) seed rounds
three_asked f xs x y z low high is_x is_y is_z seed rounds asks =
    words_asked (map f xs) (f x) (f y) (f z) seed rounds (map_three f xs x y z low high is_x is_y is_z) asks

-- a word that is to say a number says one
pub none_said : (greatest : ℕ) (word asked : List ℕ) (n : ℕ) → word ≡ asked → number_within 0 greatest word ≡ None → number_within 0 greatest asked ≡ Some n → ⊥
none_said greatest word asked n is none some = let both : None ≡ Some n = sym none ∙ ap (number_within 0 greatest) is ∙ some in cc

-- there are three of them
pub asked_length : {X : Type 0} (f : X → List ℕ) (xs : List X) (seed rounds : ℕ) → IsExercise (map f xs) seed rounds → length xs ≡ 3
asked_length f [] seed rounds asks = cc
asked_length f (a ∷ []) seed rounds asks = cc
asked_length f (a ∷ b ∷ []) seed rounds asks = cc
asked_length f (a ∷ b ∷ c ∷ []) seed rounds asks = refl
asked_length f (a ∷ b ∷ c ∷ d ∷ more) seed rounds asks = cc
