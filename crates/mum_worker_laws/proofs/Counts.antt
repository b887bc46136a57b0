-- Counts and parts of lists.
use Rattle.mum_worker_laws.proofs.Common.{◌≡◌, ◌∙◌, ℕ, ◌+◌, Bool, true, false, cond, List, [], ◌∷◌, ◌++◌, map, length, filter, refl, ap, arith, length-append, Each, filter-append, count}

-- ---- counts

abbrev pub one : Bool → ℕ
one test = cond test 1 0

-- nothing, whatever the test says
pub nothing_either : {X : Type 0} (b : Bool) → ◌≡◌ {A = List X} [] (cond b [] [])
nothing_either true = refl
nothing_either false = refl

module _ {A : Type 0} (test : A → Bool) where
  pub count-append : (xs ys : List A) → count test (xs ++ ys) ≡ count test xs + count test ys
  count-append xs ys = ap (λ (l : List A). length l) (filter-append test xs ys) ∙ length-append (filter test xs) (filter test ys)

  length-one : (b : Bool) (x : A) (xs : List A) → length (cond b (x ∷ xs) xs) ≡ one b + length xs
  length-one true x xs = omega arith
  length-one false x xs = omega arith

  pub count-cons : (x : A) (xs : List A) → count test (x ∷ xs) ≡ one (test x) + count test xs
  count-cons x xs = length-one (test x) x (filter test xs)

  -- of those that are left
  pub count-left : (stays : A → Bool) (x : A) (xs : List A) → count test (filter stays (x ∷ xs)) ≡ cond (stays x) (one (test x)) 0 + count test (filter stays xs)
  count-left stays x xs = at (stays x)
    where
      at : (b : Bool) → count test (cond b (x ∷ filter stays xs) (filter stays xs)) ≡ cond b (one (test x)) 0 + count test (filter stays xs)
      at true = count-cons x (filter stays xs)
      at false = omega arith

  -- what is left once stays
  pub left_twice : (xs : List A) → filter test (filter test xs) ≡ filter test xs
  left_twice [] = refl
  left_twice (x ∷ xs) = at (test x) refl (left_twice xs)
    where
      at : (b : Bool) → test x ≡ b → filter test (filter test xs) ≡ filter test xs → filter test (cond b (x ∷ filter test xs) (filter test xs)) ≡ cond b (x ∷ filter test xs) (filter test xs)
      at true is rest = ap (λ (b : Bool). cond b (x ∷ filter test (filter test xs)) (filter test (filter test xs))) is ∙ ap (λ (l : List A). x ∷ l) rest
      at false is rest = rest

pub added : (now before more all old one_now one_old put : ℕ) → now ≡ one_now + all → one_now ≡ one_old + put → all ≡ old + more → before ≡ one_old + old → now ≡ before + (put + more)
added now before more all old one_now one_old put a b c d = omega (arith, a, b, c, d)

-- ---- a fact of each element

module _ {A : Type 0} (P : A → Type 0) where
  pub each-append : (xs ys : List A) → Each P xs → Each P ys → Each P (xs ++ ys)
  each-append [] ys each more = more
  each-append (x ∷ xs) ys each more = (each.0, each-append xs ys each.1 more)

  pub each_front : (xs ys : List A) → Each P (xs ++ ys) → Each P xs
  each_front [] ys each = tt
  each_front (x ∷ xs) ys each = (each.0, each_front xs ys each.1)

  pub each_back : (xs ys : List A) → Each P (xs ++ ys) → Each P ys
  each_back [] ys each = each
  each_back (x ∷ xs) ys each = each_back xs ys each.1

  pub each_left : (stays : A → Bool) (xs : List A) → Each P xs → Each P (filter stays xs)
  each_left stays [] each = tt
  each_left stays (x ∷ xs) each = at (stays x) (each_left stays xs each.1)
    where
      at : (b : Bool) → Each P (filter stays xs) → Each P (cond b (x ∷ filter stays xs) (filter stays xs))
      at true rest = (each.0, rest)
      at false rest = rest

pub each_so : {A : Type 0} (P Q : A → Type 0) → ((x : A) → P x → Q x) → (xs : List A) → Each P xs → Each Q xs
each_so P Q so [] each = tt
each_so P Q so (x ∷ xs) each = (so x each.0, each_so P Q so xs each.1)

pub each_both : {A : Type 0} (P Q R : A → Type 0) → ((x : A) → P x → Q x → R x) → (xs : List A) → Each P xs → Each Q xs → Each R xs
each_both P Q R so [] each other = tt
each_both P Q R so (x ∷ xs) each other = (so x each.0 other.0, each_both P Q R so xs each.1 other.1)

pub each_map : {A B : Type 0} (P : B → Type 0) (f : A → B) (xs : List A) → Each P (map f xs) → Each (λ (x : A). P (f x)) xs
each_map P f [] each = tt
each_map P f (x ∷ xs) each = (each.0, each_map P f xs each.1)

pub map_each : {A B : Type 0} (P : B → Type 0) (f : A → B) (xs : List A) → Each (λ (x : A). P (f x)) xs → Each P (map f xs)
map_each P f [] each = tt
map_each P f (x ∷ xs) each = (each.0, map_each P f xs each.1)
