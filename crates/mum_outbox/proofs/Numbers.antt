-- Each pass has a number of its own, whatever passes are made.
use Rattle.mum_outbox.proofs.Common.{◌≡◌, ◌≢◌, ℕ, ◌≤◌, ◌⊎◌, ⊎_elim, List, [], ◌∷◌, ◌++◌, set, sym, ◌∙◌, subst, arith, LAST, Hand, StandsAt, EachHand, MayGive, HaveOwnNumbers}
use Rattle.mum_outbox.proofs.Hands.{each_set, two_set, each_push, two_push}

module _ {I : Type 0} where
  -- the number of the pass stays, and it may give no more numbers than before
  abbrev pub GivesLess : Hand I → Hand I → Type 0
  GivesLess now was = (now.number ≡ was.number) × ((number : ℕ) → MayGive now number → MayGive was number) × (now.end ≤ LAST)

  pub numbers_kept : (hands : List (Hand I)) (port : ℕ) (v w : Hand I) → StandsAt hands port v → GivesLess w v → HaveOwnNumbers hands → HaveOwnNumbers (set hands port w)
  numbers_kept hands port v w at less own = record {
    apart = two_set (λ u s. u.number ≡ s.number → LAST ≤ u.number) hands port w
        (λ j u ne e. ((λ is. let h = own.apart port j v u (λ x. ne (sym x)) at e (sym less.0 ∙ is) in let n = less.0 in omega arith), λ is. own.apart j port u v ne e at (is ∙ less.0)))
        own.apart;
    given = each_set (λ owner. EachHand (set hands port w) (λ hand. ¬ MayGive owner hand.number)) hands port w
        (each_set (λ hand. ¬ MayGive w hand.number) hands port w
        (λ may. own.given port v at port v at (less.1 v.number (subst (MayGive w) less.0 may)))
        (λ j u ne e may. own.given port v at j u e (less.1 u.number may)))
        (λ j u ne e. each_set (λ hand. ¬ MayGive u hand.number) hands port w
        (λ may. own.given j u e port v at (subst (MayGive u) less.0 may))
        (λ k s other f may. own.given j u e k s f may));
    not_twice = two_set (λ owner second. (number : ℕ) → MayGive owner number → ¬ MayGive second number) hands port w
        (λ j u ne e. (
          (λ number may theirs. own.not_twice port j v u (λ x. ne (sym x)) at e number (less.1 number may) theirs),
          λ number theirs may. own.not_twice j port u v ne e at number theirs (less.1 number may),
        ))
        own.not_twice;
    within = each_set (λ owner. owner.end ≤ LAST) hands port w less.2 (λ j u ne e. own.within j u e);
  }

  -- a pass and a new one that is made of it: they give none that the old one could not, and none both
  pub record IsCut (v left new : Hand I) : Type 0 where
    pub same_number : left.number ≡ v.number
    pub left_gives : (number : ℕ) → MayGive left number → MayGive v number
    pub new_gives : (number : ℕ) → MayGive new number → MayGive v number
    pub not_both : (number : ℕ) → MayGive left number → ¬ MayGive new number
    pub numbered : (new.number ≡ LAST) ⊎ MayGive v new.number
    pub given_by_left : ¬ MayGive left new.number
    pub given_by_new : ¬ MayGive new new.number
    pub left_within : left.end ≤ LAST
    pub new_within : new.end ≤ LAST

  module _ (hands : List (Hand I)) (port : ℕ) (v left new : Hand I) (at : StandsAt hands port v) (cut : IsCut v left new) (own : HaveOwnNumbers hands) where
    abbrev pub cut_hands : List (Hand I)
    cut_hands = set hands port left

    cut_numbers : HaveOwnNumbers cut_hands
    cut_numbers = numbers_kept hands port v left at (cut.same_number, cut.left_gives, cut.left_within) own

    -- what every hand meets but the new one
    each_cut : (P : Hand I → Type 0) → P left → ((j : ℕ) (u : Hand I) → j ≢ port → StandsAt hands j u → P u) → EachHand cut_hands P
    each_cut P mine others = each_set P hands port left mine others

    new_is_last : (u : Hand I) → u.number ≡ new.number → ¬ MayGive v u.number → LAST ≤ new.number
    new_is_last u is not = ⊎_elim (λ (last : new.number ≡ LAST). omega arith) (λ may. absurd (not (subst (MayGive v) (sym is) may))) cut.numbered

    new_apart : EachHand cut_hands (λ u. (new.number ≡ u.number → LAST ≤ new.number) × (u.number ≡ new.number → LAST ≤ u.number))
    new_apart = each_cut (λ u. (new.number ≡ u.number → LAST ≤ new.number) × (u.number ≡ new.number → LAST ≤ u.number)) (
      (λ is. new_is_last v (sym cut.same_number ∙ sym is) (own.given port v at port v at)),
      λ is. let h = new_is_last v (sym cut.same_number ∙ is) (own.given port v at port v at) in omega arith,
    )
        (λ j u ne e. ((λ is. new_is_last u (sym is) (own.given port v at j u e)), λ is. let h = new_is_last u is (own.given port v at j u e) in omega arith))

    none_gives_new : EachHand cut_hands (λ u. ¬ MayGive u new.number)
    none_gives_new = each_cut (λ u. ¬ MayGive u new.number) cut.given_by_left
        (λ j u ne e may. ⊎_elim (λ (last : new.number ≡ LAST). let h = own.within j u e in let m = may.1 in omega arith) (λ mine. own.not_twice j port u v ne e at new.number may mine) cut.numbered)

    new_gives_none : EachHand cut_hands (λ u. ¬ MayGive new u.number)
    new_gives_none = each_cut (λ u. ¬ MayGive new u.number)
        (λ may. own.given port v at port v at (cut.new_gives v.number (subst (MayGive new) cut.same_number may)))
        (λ j u ne e may. own.given port v at j u e (cut.new_gives u.number may))

    new_alone : EachHand cut_hands (λ u. ((number : ℕ) → MayGive new number → ¬ MayGive u number) × ((number : ℕ) → MayGive u number → ¬ MayGive new number))
    new_alone = each_cut (λ u. ((number : ℕ) → MayGive new number → ¬ MayGive u number) × ((number : ℕ) → MayGive u number → ¬ MayGive new number))
        ((λ number may theirs. cut.not_both number theirs may), cut.not_both)
        (λ j u ne e. ((λ number may theirs. own.not_twice j port u v ne e at number theirs (cut.new_gives number may)), λ number theirs may. own.not_twice j port u v ne e at number theirs (cut.new_gives number may)))

    pub new_numbers : HaveOwnNumbers (cut_hands ++ new ∷ [])
    new_numbers = record {
      apart = two_push (λ u s. u.number ≡ s.number → LAST ≤ u.number) cut_hands new new_apart cut_numbers.apart;
      given = each_push (λ owner. EachHand (cut_hands ++ new ∷ []) (λ hand. ¬ MayGive owner hand.number)) cut_hands new
          (each_push (λ hand. ¬ MayGive new hand.number) cut_hands new cut.given_by_new new_gives_none)
          (λ j u e. each_push (λ hand. ¬ MayGive u hand.number) cut_hands new (none_gives_new j u e) (cut_numbers.given j u e));
      not_twice = two_push (λ owner second. (number : ℕ) → MayGive owner number → ¬ MayGive second number) cut_hands new new_alone cut_numbers.not_twice;
      within = each_push (λ owner. owner.end ≤ LAST) cut_hands new cut.new_within cut_numbers.within;
    }
