-- An offer keeps the rule.
use Rattle.mum_outbox.proofs.Common.{◌≡◌, ℕ, ◌+◌, ◌<◌, ◌≤◌, min, inl, ⊎_elim, List, [], ◌∷◌, ◌++◌, length, set, get_or, sym, refl, ap, ◌∙◌, subst, append_assoc, length-append, arith, All, AllPairs, length-map, map_push, All-push, All-append, All-weaker, Contains-push, Contains-append_left, all_pairs_push, cases_lt, dite, ℕ_discrete, Pushes, set_here, at_longer, at_last, LAST, Tagged, Hand, StandsAt, IsBefore, IsAsOffered, IsSomewhere, LosesNone, TakeApart, BoxRule, TaggedRule, item_of}
use Rattle.mum_outbox.proofs.{Hands.within, Hands.same_there, Hands.Follows, Hands.follows_set, Hands.as_offered_still, Hands.somewhere_still, Hands.each_set, Hands.two_set, Numbers.numbers_kept}

-- places below the last value are the length that they stand for
place_is : (place long : ℕ) → place ≡ min long LAST → place < LAST → long ≡ place
place_is place long e h = omega arith

module _ {I : Type 0} where
  module _ (capacity : ℕ) (items : List (Tagged I)) (hands : List (Hand I)) (rule : BoxRule capacity items hands) (port : ℕ) (v : Hand I) (at : StandsAt hands port v) where
    all_as_offered : (j : ℕ) (u : Hand I) → StandsAt hands j u → All (IsAsOffered hands) (u.taken ++ items)
    all_as_offered j u e = All-append (IsAsOffered hands) u.taken items (rule.taken_as_offered j u e) rule.as_offered

    module _ (x : Tagged I) (by : x.by ≡ v.number) (place : x.place ≡ min (length v.offered) LAST) where
      abbrev offering : Hand I
      offering = record v { offered = v.offered ++ x.item ∷ [] }

      abbrev offered_to : List (Hand I)
      offered_to = set hands port offering

      follows_offer : Follows hands offered_to
      follows_offer = follows_set hands port v offering at refl (λ k i s. at_longer v.offered (x.item ∷ []) k i s) (λ y c. c)

      still : (xs : List (Tagged I)) → All (IsAsOffered hands) xs → All (IsAsOffered offered_to) xs
      still xs all = All-weaker (IsAsOffered hands) (IsAsOffered offered_to) (λ y is. as_offered_still hands offered_to y follows_offer is) xs all

      new_as_offered : IsAsOffered offered_to x
      new_as_offered numbered = (port, offering, set_here hands port offering (within hands port v at), sym by, at_last v.offered x.item x.place (place_is x.place (length v.offered) place numbered.1))

      before_new : (y : Tagged I) → IsAsOffered hands y → IsBefore y x
      before_new y is old new same = let o = is old in
          let here : o.0 ≡ port = dite (ℕ_discrete o.0 port) (λ e. e) (λ ne. let h = rule.own_numbers.apart o.0 port o.1 v ne o.2 at (o.3 ∙ same ∙ by) in let n = o.3 in let low = old.0 in absurd (omega arith)) in
          let mine : o.1 ≡ v = same_there hands o.0 port o.1 v o.2 at here in
          let h : y.place < length v.offered = within v.offered y.place y.item (subst (λ (u : Hand I). StandsAt u.offered y.place y.item) mine o.4) in
          let long = place_is x.place (length v.offered) place new.1 in omega arith

      all_before : (xs : List (Tagged I)) → All (IsAsOffered hands) xs → (k : ℕ) (d : Tagged I) → k < length xs → IsBefore (get_or xs k d) x
      all_before xs all k d h = before_new (get_or xs k d) (all k d h)

      more_in_order : (taken : List (Tagged I)) → AllPairs IsBefore (taken ++ items) → All (IsAsOffered hands) (taken ++ items) → AllPairs IsBefore (taken ++ (items ++ x ∷ []))
      more_in_order taken p all = subst (AllPairs IsBefore) (append_assoc taken items (x ∷ [])) (all_pairs_push IsBefore (taken ++ items) x p (all_before (taken ++ items) all))

      somewhere_offered : (y : Tagged I) → IsSomewhere items hands y → IsSomewhere (items ++ x ∷ []) offered_to y
      somewhere_offered y is = somewhere_still items (items ++ x ∷ []) hands offered_to y follows_offer (λ c. inl (Contains-append_left items (x ∷ []) y c)) is

      none_lost_of : (u : Hand I) → LosesNone items hands u → LosesNone (items ++ x ∷ []) offered_to u
      none_lost_of u none number k h below = let f = none number k h below in (f.0, f.1, f.2, somewhere_offered f.0 f.3)

      none_lost_mine : LosesNone (items ++ x ∷ []) offered_to offering
      none_lost_mine number k h below =
          ⊎_elim (λ (old : k < length v.offered). none_lost_of v (rule.none_lost port v at) number k old below)
          (λ (end : length v.offered ≤ k). let long : length (v.offered ++ x.item ∷ []) ≡ length v.offered + 1 = length-append v.offered (x.item ∷ []) in (x, by, omega arith, inl (Contains-push items x)))
          (cases_lt k (length v.offered))

      offer_keeps : length items < capacity → BoxRule capacity (items ++ x ∷ []) offered_to
      offer_keeps room = record {
        bounded = let long : length (items ++ x ∷ []) ≡ length items + 1 = length-append items (x ∷ []) in omega arith;
        as_offered = All-push (IsAsOffered offered_to) items x (still items rule.as_offered) new_as_offered;
        taken_as_offered = each_set (λ hand. All (IsAsOffered offered_to) hand.taken) hands port offering (still v.taken (rule.taken_as_offered port v at)) (λ j u ne e. still u.taken (rule.taken_as_offered j u e));
        in_order = all_pairs_push IsBefore items x rule.in_order (all_before items rule.as_offered);
        taken_in_order = each_set (λ hand. AllPairs IsBefore (hand.taken ++ (items ++ x ∷ []))) hands port offering (more_in_order v.taken (rule.taken_in_order port v at) (all_as_offered port v at))
            (λ j u ne e. more_in_order u.taken (rule.taken_in_order j u e) (all_as_offered j u e));
        none_lost = each_set (LosesNone (items ++ x ∷ []) offered_to) hands port offering none_lost_mine (λ j u ne e. none_lost_of u (rule.none_lost j u e));
        none_twice = two_set TakeApart hands port offering (λ j u ne e. (rule.none_twice port j v u (λ same. ne (sym same)) at e, rule.none_twice j port u v ne e at)) rule.none_twice;
        own_numbers = numbers_kept hands port v offering at (refl, (λ number may. may), rule.own_numbers.within port v at) rule.own_numbers;
      }

  -- x joins at the back, tagged with the number of its pass and its place there
  pub offers : (capacity n port : ℕ) (v : Hand I) (x : I) → n ≡ capacity → Pushes (TaggedRule {I = I} capacity) n port v x (λ w. w ≡ record v { offered = v.offered ++ x ∷ [] })
  offers capacity n port v x full items hands room is at =
      let new : Tagged I = record { by = v.number; place = min (length v.offered) LAST; item = x } in
      let long : length is.0 ≡ length items = sym (length-map is.0 item_of) ∙ ap length is.1 in (
        offering capacity is.0 hands is.2 port v at new refl refl,
        (is.0 ++ new ∷ [], map_push item_of is.0 new ∙ ap (λ xs. xs ++ x ∷ []) is.1, offer_keeps capacity is.0 hands is.2 port v at new refl refl (omega arith)),
        refl,
      )
