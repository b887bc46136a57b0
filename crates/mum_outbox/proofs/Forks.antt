-- The making of a pass keeps the rule.
use Rattle.mum_outbox.proofs.Common.{Bool, if◌then◌else◌, ◌/◌, ◌≡◌, ◌≢◌, ℕ, ◌+◌, ◌-◌, ◌<◌, ◌≤◌, ◌⊎◌, min, inl, inr, ⊎_elim, List, [], ◌∷◌, ◌++◌, set, sym, refl, ap, arith, All, AllPairs, Contains, All-nil, All-weaker, cases_lt, lt-ltb, le-ltb, div-le_self, Forks, LAST, Tagged, Hand, StandsAt, IsBefore, EachHand, IsAsOffered, LosesNone, TakeApart, BoxRule, TaggedRule, new_hand, after_giving, given_number, after_halving, given_half, least_number, middle}
use Rattle.mum_outbox.proofs.{Hands.Follows, Hands.follows_set, Hands.follows_push, Hands.as_offered_still, Hands.somewhere_still, Hands.each_set, Hands.two_set, Hands.each_push, Hands.two_push, Numbers.IsCut, Numbers.new_numbers}

-- the number that a new pass gets
which_number : (low end : ℕ) → ((least_number low end ≡ low) × (low < end)) ⊎ (least_number low end ≡ LAST)
which_number low end = elim (cases_lt low end) [
  | inl room ↦ inl (ap (λ (b : Bool). if b then low else LAST) (lt-ltb low end room), room)
  | inr none ↦ inr (ap (λ (b : Bool). if b then low else LAST) (le-ltb low end none))
]

module _ {I : Type 0} where
  module _ (capacity : ℕ) (items : List (Tagged I)) (hands : List (Hand I)) (rule : BoxRule capacity items hands) (port : ℕ) (v : Hand I) (at : StandsAt hands port v) (low end number new_low new_end : ℕ) where
    abbrev left_hand : Hand I
    left_hand = record v { low = low; end = end }

    abbrev fresh_hand : Hand I
    fresh_hand = record { number = number; low = new_low; end = new_end; offered = []; taken = [] }

    abbrev forked : List (Hand I)
    forked = set hands port left_hand ++ fresh_hand ∷ []

    follows_fork : Follows hands forked
    follows_fork = follows_push hands (set hands port left_hand) fresh_hand (follows_set hands port v left_hand at refl (λ k i s. s) (λ y c. c))

    unmoved : (xs : List (Tagged I)) → All (IsAsOffered hands) xs → All (IsAsOffered forked) xs
    unmoved xs all = All-weaker (IsAsOffered hands) (IsAsOffered forked) (λ y is. as_offered_still hands forked y follows_fork is) xs all

    none_lost_there : (u : Hand I) → LosesNone items hands u → LosesNone items forked u
    none_lost_there u none n k h below = let f = none n k h below in (f.0, f.1, f.2, somewhere_still items items hands forked f.0 follows_fork (λ c. inl c) f.3)

    each_fork : (P : Hand I → Type 0) → P left_hand → P fresh_hand → ((j : ℕ) (u : Hand I) → j ≢ port → StandsAt hands j u → P u) → EachHand forked P
    each_fork P mine fresh others = each_push P (set hands port left_hand) fresh_hand fresh (each_set P hands port left_hand mine others)

    no_item : (x : Tagged I) → ¬ Contains [] x
    no_item x c = let h = c.1 in omega arith

    fork_keeps : IsCut v left_hand fresh_hand → BoxRule capacity items forked
    fork_keeps cut = record {
      bounded = rule.bounded;
      as_offered = unmoved items rule.as_offered;
      taken_as_offered = each_fork (λ hand. All (IsAsOffered forked) hand.taken) (unmoved v.taken (rule.taken_as_offered port v at)) (All-nil (IsAsOffered forked)) (λ j u ne e. unmoved u.taken (rule.taken_as_offered j u e));
      in_order = rule.in_order;
      taken_in_order = each_fork (λ hand. AllPairs IsBefore (hand.taken ++ items)) (rule.taken_in_order port v at) rule.in_order (λ j u ne e. rule.taken_in_order j u e);
      none_lost = each_fork (LosesNone items forked) (none_lost_there v (rule.none_lost port v at)) (λ n k h below. absurd (omega arith)) (λ j u ne e. none_lost_there u (rule.none_lost j u e));
      none_twice = two_push TakeApart (set hands port left_hand) fresh_hand
          (λ j u e. ((λ x y c d n by place. no_item x c), λ x y c d n by place. no_item y d))
          (two_set TakeApart hands port left_hand (λ j u ne e. (rule.none_twice port j v u (λ same. ne (sym same)) at e, rule.none_twice j port u v ne e at)) rule.none_twice);
      own_numbers = new_numbers hands port v left_hand fresh_hand at cut rule.own_numbers;
    }

  -- a pass is made: it gets the least number of the range, or the last number
  giving_is_cut : (v : Hand I) (number : ℕ) → v.end ≤ LAST → ((number ≡ v.low) × (v.low < v.end)) ⊎ (number ≡ LAST) → IsCut v (after_giving v) (new_hand number)
  giving_is_cut v number below which = record {
    same_number = refl;
    left_gives = λ k may. let low = may.0 in let end = may.1 in (omega arith, end);
    new_gives = λ k may. let none = may.1 in absurd (omega arith);
    not_both = λ k may theirs. let none = theirs.1 in omega arith;
    numbered = ⊎_elim (λ t. let is = t.0 in let room = t.1 in inr (omega arith, omega arith)) (λ last. inl last) which;
    given_by_left = λ may. let low = may.0 in let end = may.1 in ⊎_elim (λ t. let is = t.0 in let room = t.1 in omega arith) (λ last. omega arith) which;
    given_by_new = λ may. let none = may.1 in omega arith;
    left_within = below;
    new_within = omega arith;
  }

  pub gives_number : (capacity port : ℕ) (v : Hand I) → Forks (TaggedRule {I = I} capacity) port v (after_giving v) (given_number v)
  gives_number capacity port v items hands is at = (
    is.0,
    is.1,
    fork_keeps capacity is.0 hands is.2 port v at (min (v.low + 1) v.end) v.end (least_number v.low v.end) 0 0 (giving_is_cut v (least_number v.low v.end) (is.2.own_numbers.within port v at) (which_number v.low v.end)),
  )

  -- another owner is made: it gets the upper half of the range
  halving_is_cut : (v : Hand I) → v.low ≤ v.end → v.end ≤ LAST → IsCut v (after_halving v) (given_half v)
  halving_is_cut v ordered below = let half = (v.end - v.low) / 2 in let less : half ≤ v.end - v.low = div-le_self (v.end - v.low) 2 in record {
    same_number = refl;
    left_gives = λ k may. let low = may.0 in let end = may.1 in (low, omega arith);
    new_gives = λ k may. let low = may.0 in let end = may.1 in (omega arith, end);
    not_both = λ k may theirs. let end = may.1 in let low = theirs.0 in omega arith;
    numbered = inl refl;
    given_by_left = λ may. let end = may.1 in omega arith;
    given_by_new = λ may. let end = may.1 in omega arith;
    left_within = omega arith;
    new_within = below;
  }

  pub gives_half : (capacity port : ℕ) (v : Hand I) → v.low ≤ v.end → Forks (TaggedRule {I = I} capacity) port v (after_halving v) (given_half v)
  gives_half capacity port v ordered items hands is at =
      (is.0, is.1, fork_keeps capacity is.0 hands is.2 port v at v.low (middle v.low v.end) LAST (middle v.low v.end) v.end (halving_is_cut v ordered (is.2.own_numbers.within port v at)))
