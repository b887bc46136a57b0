-- Links of a channel with others leave all other pairs as they are.
use Rattle.mum_rights_laws.proofs.Common.{◌≡◌, ℕ, ◌==◌, ◌&&◌, ◌||◌, not, Bool, true, false, cond, List, [], ◌∷◌, refl, ap, ◌∙◌, arith, list_any, or_parts, nat_tests, ChannelId, pairs_with_all, pairs_without_all, Pair, is_above, pairs_with, pairs_without, with_pair, pair_is}
use Rattle.mum_tree.specs.State.{is_pair}
use Rattle.mum_rights_laws.proofs.Kept.{any_kept}

swapped_test : (x y i o : ℕ) → (((i == x) && (o == y)) || ((i == y) && (o == x))) ≡ false → ((o == x) && (i == y)) ≡ false
swapped_test x y i o off = grind (arith, nat_tests)

parted_test : (x y i o : ℕ) → (((i == x) && (o == y)) || ((i == y) && (o == x))) ≡ false → not (((x == i) && (y == o)) || ((x == o) && (y == i))) ≡ true
parted_test x y i o off = grind (arith, nat_tests)

and_all : (b : Bool) → (b && true) ≡ b
and_all true = refl
and_all false = refl

module _ (id x y : ChannelId) where
  -- the two are the channel and this one
  abbrev pub touches : ChannelId → Bool
  touches other = ((id.0 == x.0) && (other.0 == y.0)) || ((id.0 == y.0) && (other.0 == x.0))

  joined_to : (a b : ChannelId) → is_pair x y (a, b) ≡ false → (pairs : List Pair) → list_any (is_pair x y) (with_pair a b pairs) ≡ list_any (is_pair x y) pairs
  joined_to a b off [] = ap (λ (t : Bool). t || false) off
  joined_to a b off (pair ∷ pairs) = step (is_above a b pair) (joined_to a b off pairs)
    where
      step : (t : Bool) → list_any (is_pair x y) (with_pair a b pairs) ≡ list_any (is_pair x y) pairs
          → list_any (is_pair x y) (cond t ((a, b) ∷ pair ∷ pairs) (pair ∷ with_pair a b pairs)) ≡ list_any (is_pair x y) (pair ∷ pairs)
      step true rest = ap (λ (t : Bool). t || list_any (is_pair x y) (pair ∷ pairs)) off
      step false rest = ap (λ (t : Bool). is_pair x y pair || t) rest

  with_other : (other : ChannelId) → touches other ≡ false → (pairs : List Pair) → list_any (is_pair x y) (pairs_with id other pairs) ≡ list_any (is_pair x y) pairs
  with_other other off pairs = step ((id.0 == other.0) || list_any (is_pair id other) pairs)
    where
      step : (t : Bool) → list_any (is_pair x y) (cond t pairs (with_pair other id (with_pair id other pairs))) ≡ list_any (is_pair x y) pairs
      step true = refl
      step false =
          joined_to other id (swapped_test x.0 y.0 id.0 other.0 off) (with_pair id other pairs)
          ∙ joined_to id other (or_parts ((id.0 == x.0) && (other.0 == y.0)) ((id.0 == y.0) && (other.0 == x.0)) off).0 pairs

  without_other : (other : ChannelId) → touches other ≡ false → (pairs : List Pair) → list_any (is_pair x y) (pairs_without id other pairs) ≡ list_any (is_pair x y) pairs
  without_other other off pairs =
      any_kept (is_pair x y) (λ (pair : Pair). not (is_pair id other pair || is_pair other id pair)) true
      (λ pair is. ap (λ (one : Pair). not (is_pair id other one || is_pair other id one)) (pair_is x y pair is) ∙ parted_test x.0 y.0 id.0 other.0 off) pairs
      ∙ and_all (list_any (is_pair x y) pairs)

  pub with_all : (others : List ChannelId) → list_any touches others ≡ false → (pairs : List Pair)
      → list_any (is_pair x y) (pairs_with_all id others pairs) ≡ list_any (is_pair x y) pairs
  with_all [] none pairs = refl
  with_all (other ∷ others) none pairs =
      let (here, rest) = or_parts (touches other) (list_any touches others) none in
      with_all others rest (pairs_with id other pairs) ∙ with_other other here pairs

  pub without_all : (others : List ChannelId) → list_any touches others ≡ false → (pairs : List Pair)
      → list_any (is_pair x y) (pairs_without_all id others pairs) ≡ list_any (is_pair x y) pairs
  without_all [] none pairs = refl
  without_all (other ∷ others) none pairs =
      let (here, rest) = or_parts (touches other) (list_any touches others) none in
      without_all others rest (pairs_without id other pairs) ∙ without_other other here pairs
