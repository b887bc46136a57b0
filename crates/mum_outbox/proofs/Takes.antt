-- A take keeps the rule.
use Rattle.mum_outbox.proofs.Common.{◌≡◌, ◌≢◌, ℕ, inl, inr, ⊎_elim, List, [], ◌∷◌, ◌++◌, length, map, set, get_or, drop, sym, refl, ap, ◌∙◌, subst, append_assoc, arith, All, AllPairs, Contains, All-head, All-tail, All-push, All-weaker, Contains-push, Contains-push_cases, Contains-append_left, Pops, set_here, Tagged, Hand, StandsAt, IsNumbered, IsBefore, IsAsOffered, IsSomewhere, LosesNone, TakeApart, BoxRule, TaggedRule, item_of}
use Rattle.mum_outbox.proofs.{Hands.within, Hands.Contains-cons_cases, Hands.pairs_front, Hands.pairs_tail, Hands.pairs_without, Hands.pairs_across, Hands.Follows, Hands.follows_set, Hands.as_offered_still, Hands.somewhere_still, Hands.each_set, Hands.two_set, Numbers.numbers_kept}

module _ {I : Type 0} where
  module _ (capacity : ℕ) (x : Tagged I) (items : List (Tagged I)) (hands : List (Hand I)) (rule : BoxRule capacity (x ∷ items) hands) (port : ℕ) (v : Hand I) (at : StandsAt hands port v) where
    abbrev taking : Hand I
    taking = record v { taken = v.taken ++ x ∷ [] }

    abbrev taken_to : List (Hand I)
    taken_to = set hands port taking

    here : StandsAt taken_to port taking
    here = set_here hands port taking (within hands port v at)

    follows_take : Follows hands taken_to
    follows_take = follows_set hands port v taking at refl (λ k i s. s) (λ y c. Contains-append_left v.taken (x ∷ []) y c)

    kept : (xs : List (Tagged I)) → All (IsAsOffered hands) xs → All (IsAsOffered taken_to) xs
    kept xs all = All-weaker (IsAsOffered hands) (IsAsOffered taken_to) (λ y is. as_offered_still hands taken_to y follows_take is) xs all

    somewhere_taken : (y : Tagged I) → IsSomewhere (x ∷ items) hands y → IsSomewhere items taken_to y
    somewhere_taken y is = somewhere_still (x ∷ items) items hands taken_to y follows_take
        (λ c. ⊎_elim (λ (first : x ≡ y). inr (port, taking, here, subst (Contains (v.taken ++ x ∷ [])) first (Contains-push v.taken x))) (λ later. inl later) (Contains-cons_cases x y items c)) is

    none_lost_still : (u : Hand I) → LosesNone (x ∷ items) hands u → LosesNone items taken_to u
    none_lost_still u none number k h below = let f = none number k h below in (f.0, f.1, f.2, somewhere_taken f.0 f.3)

    -- what another pass has taken lies before the front of the queue
    behind : (j : ℕ) (u : Hand I) → StandsAt hands j u → (y : Tagged I) → Contains u.taken y → IsBefore y x
    behind j u e y c = pairs_across IsBefore u.taken y x (x ∷ items) (rule.taken_in_order j u e) c (0, omega arith, refl)

    apart_mine : (j : ℕ) (u : Hand I) → j ≢ port → StandsAt hands j u → TakeApart taking u
    apart_mine j u ne e a b c d numbered by place =
        ⊎_elim (λ old. rule.none_twice port j v u (λ same. ne (sym same)) at e a b old d numbered by place)
        (λ (is : x ≡ a). let num : IsNumbered x = subst IsNumbered (sym is) numbered in let eq_by : x.by ≡ b.by = ap (λ (t : Tagged I). t.by) is ∙ by in
        let eq_place : x.place ≡ b.place = ap (λ (t : Tagged I). t.place) is ∙ place in let low = num.0 in let high = num.1 in
        let h = behind j u e b d (omega arith, omega arith) num (sym eq_by) in absurd (omega arith))
        (Contains-push_cases v.taken x a c)

    apart_other : (j : ℕ) (u : Hand I) → j ≢ port → StandsAt hands j u → TakeApart u taking
    apart_other j u ne e a b c d numbered by place =
        ⊎_elim (λ old. rule.none_twice j port u v ne e at a b c old numbered by place)
        (λ (is : x ≡ b). let eq_by : a.by ≡ x.by = by ∙ ap (λ (t : Tagged I). t.by) (sym is) in
        let eq_place : a.place ≡ x.place = place ∙ ap (λ (t : Tagged I). t.place) (sym is) in let low = numbered.0 in let high = numbered.1 in
        let h = behind j u e a c numbered (omega arith, omega arith) eq_by in absurd (omega arith))
        (Contains-push_cases v.taken x b d)

    -- all that it has taken is in order
    taken_so_far : AllPairs IsBefore (v.taken ++ x ∷ [])
    taken_so_far = pairs_front IsBefore (v.taken ++ x ∷ []) items
        (subst (AllPairs IsBefore) (sym (append_assoc v.taken (x ∷ []) items)) (rule.taken_in_order port v at))

    take_keeps : BoxRule capacity items taken_to
    take_keeps = record {
      bounded = let h = rule.bounded in omega arith;
      as_offered = kept items (All-tail (IsAsOffered hands) x items rule.as_offered);
      taken_as_offered = each_set (λ hand. All (IsAsOffered taken_to) hand.taken) hands port taking
          (All-push (IsAsOffered taken_to) v.taken x (kept v.taken (rule.taken_as_offered port v at)) (as_offered_still hands taken_to x follows_take (All-head (IsAsOffered hands) x items rule.as_offered)))
          (λ j u ne e. kept u.taken (rule.taken_as_offered j u e));
      in_order = pairs_tail IsBefore x items rule.in_order;
      taken_in_order = each_set (λ hand. AllPairs IsBefore (hand.taken ++ items)) hands port taking
          (subst (AllPairs IsBefore) (sym (append_assoc v.taken (x ∷ []) items)) (rule.taken_in_order port v at))
          (λ j u ne e. pairs_without IsBefore u.taken x items (rule.taken_in_order j u e));
      none_lost = each_set (LosesNone items taken_to) hands port taking (none_lost_still v (rule.none_lost port v at)) (λ j u ne e. none_lost_still u (rule.none_lost j u e));
      none_twice = two_set TakeApart hands port taking (λ j u ne e. (apart_mine j u ne e, apart_other j u ne e)) rule.none_twice;
      own_numbers = numbers_kept hands port v taking at (refl, (λ number may. may), rule.own_numbers.within port v at) rule.own_numbers;
    }

  -- the front leaves, with its tag
  pub takes : (capacity port : ℕ) (v : Hand I) → Pops (TaggedRule {I = I} capacity) port v (λ item w. (x : Tagged I) × (x.item ≡ item) × (w ≡ record v { taken = v.taken ++ x ∷ [] }) × AllPairs IsBefore w.taken)
  takes capacity port v item items hands is at = front is.0 is.1 is.2 where
    front : (tagged : List (Tagged I)) → map item_of tagged ≡ item ∷ items → BoxRule capacity tagged hands
        → (w : Hand I) × TaggedRule capacity items (set hands port w) × ((x : Tagged I) × (x.item ≡ item) × (w ≡ record v { taken = v.taken ++ x ∷ [] }) × AllPairs IsBefore w.taken)
    front [] same rule = absurd (omega (arith, ap length same))
    front (x ∷ rest) same rule = (
      taking capacity x rest hands rule port v at,
      (rest, ap (drop 1) same, take_keeps capacity x rest hands rule port v at),
      (x, ap (λ xs. get_or xs 0 item) same, refl, taken_so_far capacity x rest hands rule port v at),
    )
