-- Accounts stay in order, and apart, exactly where a new one has a name and a number of its own.
use Rattle.mum_state.proofs.Common.{◌≡◌, ℕ, suc, ◌||◌, Bool, true, false, eqb, List, [], ◌∷◌, length, refl, sym, ap, subst, ◌∙◌, arith, IsTrue, is_lt, nat_cmp, Ordering, Less, Equal, Greater, slice_cmp, All, AllPairs, list_all, list_any, ordering_reverse, bytes_eq, and_from, and_parts, both_ways, eq-eqb, false≢true, ne_eqb, or_parts, nat_list_cmp_total, tied_itself, All-cons, All-head, All-nil, All-tail, AllPairs-cons, exact_bytes, bytes_eq-Decides, AllPairs-tail, IsBelowAll, Rises, IsBelowAll-through, Account, AreApart, is_short, account_below, is_named, is_numbered, with_account}

-- ---- the order of names

abbrev order : List ℕ → List ℕ → Ordering
order one other = slice_cmp nat_cmp one other

is_less : (o : Ordering) → is_lt o ≡ true → o ≡ Less
is_less Less on = refl
is_less Equal on = absurd (false≢true on)
is_less Greater on = absurd (false≢true on)

pub below_through : (a b c : Account) → IsTrue (account_below a b) → IsTrue (account_below b c) → IsTrue (account_below a c)
below_through a b c low high = ap is_lt (nat_list_cmp_total.trans a.name b.name c.name (is_less (order a.name b.name) low) (is_less (order b.name c.name) high))

-- none is below itself
never_below_itself : (name : List ℕ) → is_lt (order name name) ≡ true → ⊥
never_below_itself name on = false≢true (sym (ap is_lt (tied_itself nat_list_cmp_total name)) ∙ on)

-- two that are in order have two names
pub two_names : (a b : Account) → IsTrue (account_below a b) → bytes_eq a.name b.name ≡ false
two_names a b low = step (bytes_eq a.name b.name) refl
  where
    step : (is : Bool) → bytes_eq a.name b.name ≡ is → is ≡ false
    step true on =
        let same : a.name ≡ b.name = (bytes_eq-Decides a.name b.name).0 on in
        absurd (never_below_itself b.name (subst (λ (name : List ℕ). is_lt (order name b.name) ≡ true) same low))
    step false off = refl

pub two_names_back : (a b : Account) → IsTrue (account_below a b) → bytes_eq b.name a.name ≡ false
two_names_back a b low = step (bytes_eq b.name a.name) refl
  where
    step : (is : Bool) → bytes_eq b.name a.name ≡ is → is ≡ false
    step true on =
        let same : b.name ≡ a.name = (bytes_eq-Decides b.name a.name).0 on in
        absurd (never_below_itself b.name (subst (λ (name : List ℕ). is_lt (order name b.name) ≡ true) (sym same) low))
    step false off = refl

-- of two names one is below the other
pub other_way : (a b : Account) → bytes_eq a.name b.name ≡ false → account_below a b ≡ false → IsTrue (account_below b a)
other_way a b differ off = step (order a.name b.name) refl
  where
    step : (o : Ordering) → order a.name b.name ≡ o → is_lt (order b.name a.name) ≡ true
    step Less is = absurd (both_ways (is_lt (order a.name b.name)) off (ap is_lt is))
    step Equal is =
        let same : a.name ≡ b.name = exact_bytes a.name b.name is in
        absurd (both_ways (bytes_eq a.name b.name) differ ((bytes_eq-Decides a.name b.name).1 same))
    step Greater is = ap is_lt (nat_list_cmp_total.antisymm b.name a.name ∙ ap ordering_reverse is)

-- ---- a new account at its place

module _ (new : Account) where
  all_with : (P : Account → Type 0) (accounts : List Account) → P new → All P accounts → All P (with_account new accounts)
  all_with P [] here all = All-cons P new [] here (All-nil P)
  all_with P (account ∷ accounts) here all = step (account_below account new) refl (all_with P accounts here (All-tail P account accounts all))
    where
      step : (b : Bool) → account_below account new ≡ b → All P (with_account new accounts) → All P (with_account new (account ∷ accounts))
      step true is rest = rw is (All-cons P account (with_account new accounts) (All-head P account accounts all) rest)
      step false is rest = rw is (All-cons P new (account ∷ accounts) here all)

  -- what holds of all with the new one, holds of it and of the others
  new_of : (P : Account → Type 0) (accounts : List Account) → All P (with_account new accounts) → P new
  new_of P [] all = All-head P new [] all
  new_of P (account ∷ accounts) all = step (account_below account new) refl (new_of P accounts)
    where
      step : (b : Bool) → account_below account new ≡ b → (All P (with_account new accounts) → P new) → P new
      step true is rest = rest (All-tail P account (with_account new accounts) (rw is at all))
      step false is rest = All-head P new (account ∷ accounts) (rw is at all)

  pub length_with : (accounts : List Account) → length (with_account new accounts) ≡ suc (length accounts)
  length_with [] = refl
  length_with (account ∷ accounts) = step (account_below account new) refl (length_with accounts)
    where
      step : (b : Bool) → account_below account new ≡ b → length (with_account new accounts) ≡ suc (length accounts) → length (with_account new (account ∷ accounts)) ≡ suc (length (account ∷ accounts))
      step true is rest = rw is (ap suc rest)
      step false is rest = rw is refl

  below_all_with : (first : Account) (accounts : List Account) → IsTrue (account_below first new) → IsBelowAll account_below first accounts → IsBelowAll account_below first (with_account new accounts)
  below_all_with first [] low all = (low, tt)
  below_all_with first (account ∷ accounts) low all = step (account_below account new) refl (below_all_with first accounts low all.1)
    where
      step : (b : Bool) → account_below account new ≡ b → IsBelowAll account_below first (with_account new accounts) → IsBelowAll account_below first (with_account new (account ∷ accounts))
      step true is rest = rw is (all.0, rest)
      step false is rest = rw is (low, all)

  pub rises_with : (accounts : List Account) → list_any (is_named new.name) accounts ≡ false → Rises account_below accounts → Rises account_below (with_account new accounts)
  rises_with [] unnamed rise = (tt, tt)
  rises_with (account ∷ accounts) unnamed rise = step (account_below account new) refl (rises_with accounts others.1 rise.1)
    where
      others : (is_named new.name account ≡ false) × (list_any (is_named new.name) accounts ≡ false)
      others = or_parts (is_named new.name account) (list_any (is_named new.name) accounts) unnamed

      step : (b : Bool) → account_below account new ≡ b → Rises account_below (with_account new accounts) → Rises account_below (with_account new (account ∷ accounts))
      step true is rest = rw is (below_all_with account accounts is rise.0, rest)
      step false is rest =
          let low : IsTrue (account_below new account) = other_way account new others.0 is in
          rw is ((low, IsBelowAll-through account_below below_through new account accounts low rise.0), rise)

  none_below : (accounts : List Account) → IsBelowAll account_below new accounts → list_any (is_named new.name) accounts ≡ false
  none_below [] all = refl
  none_below (account ∷ accounts) all = ap (λ b. b || list_any (is_named new.name) accounts) (two_names_back new account all.0) ∙ none_below accounts all.1

  pub unnamed_of : (accounts : List Account) → Rises account_below (with_account new accounts) → list_any (is_named new.name) accounts ≡ false
  unnamed_of [] rise = refl
  unnamed_of (account ∷ accounts) rise = step (account_below account new) refl (unnamed_of accounts)
    where
      step : (b : Bool) → account_below account new ≡ b → (Rises account_below (with_account new accounts) → list_any (is_named new.name) accounts ≡ false) → list_any (is_named new.name) (account ∷ accounts) ≡ false
      step true is rest = ap (λ b. b || list_any (is_named new.name) accounts) (two_names account new is) ∙ rest ((rw is at rise).1)
      step false is rest = none_below (account ∷ accounts) ((rw is at rise).0)

  apart_from : (accounts : List Account) → list_any (is_numbered new.account) accounts ≡ false → All (AreApart new) accounts
  apart_from [] none = All-nil (AreApart new)
  apart_from (account ∷ accounts) none =
      let others = or_parts (is_numbered new.account account) (list_any (is_numbered new.account) accounts) none in
      All-cons (AreApart new) account accounts
      (λ (same : new.account.0 ≡ account.account.0). both_ways (eqb account.account.0 new.account.0) others.0 (eq-eqb account.account.0 new.account.0 (sym same)))
      (apart_from accounts others.1)

  pub apart_with : (accounts : List Account) → list_any (is_numbered new.account) accounts ≡ false → AllPairs AreApart accounts → AllPairs AreApart (with_account new accounts)
  apart_with [] none apart = AllPairs-cons AreApart new [] (All-nil (AreApart new)) apart
  apart_with (account ∷ accounts) none apart = step (account_below account new) refl (apart_with accounts others.1 (AllPairs-tail AreApart account accounts apart))
    where
      others : (is_numbered new.account account ≡ false) × (list_any (is_numbered new.account) accounts ≡ false)
      others = or_parts (is_numbered new.account account) (list_any (is_numbered new.account) accounts) none

      first : All (AreApart account) accounts
      first k d within = apart 0 (suc k) d (omega arith) (omega arith)

      differ : AreApart account new
      differ same = both_ways (eqb account.account.0 new.account.0) others.0 (eq-eqb account.account.0 new.account.0 same)

      step : (b : Bool) → account_below account new ≡ b → AllPairs AreApart (with_account new accounts) → AllPairs AreApart (with_account new (account ∷ accounts))
      step true is rest = rw is (AllPairs-cons AreApart account (with_account new accounts) (all_with (AreApart account) accounts differ first) rest)
      step false is rest = rw is (AllPairs-cons AreApart new (account ∷ accounts) (apart_from (account ∷ accounts) none) apart)

  none_numbered : (accounts : List Account) → All (AreApart new) accounts → list_any (is_numbered new.account) accounts ≡ false
  none_numbered [] apart = refl
  none_numbered (account ∷ accounts) apart =
      let differ : AreApart new account = All-head (AreApart new) account accounts apart in
      ap (λ b. b || list_any (is_numbered new.account) accounts) (ne_eqb account.account.0 new.account.0 (λ (same : account.account.0 ≡ new.account.0). differ (sym same)))
      ∙ none_numbered accounts (All-tail (AreApart new) account accounts apart)

  pub unnumbered_of : (accounts : List Account) → AllPairs AreApart (with_account new accounts) → list_any (is_numbered new.account) accounts ≡ false
  unnumbered_of [] apart = refl
  unnumbered_of (account ∷ accounts) apart = step (account_below account new) refl (unnumbered_of accounts)
    where
      step : (b : Bool) → account_below account new ≡ b → (AllPairs AreApart (with_account new accounts) → list_any (is_numbered new.account) accounts ≡ false) → list_any (is_numbered new.account) (account ∷ accounts) ≡ false
      step true is rest =
          let pairs : AllPairs AreApart (account ∷ with_account new accounts) = rw is at apart in
          let differ : AreApart account new = new_of (AreApart account) accounts (λ k d within. pairs 0 (suc k) d (omega arith) (omega arith)) in
          ap (λ b. b || list_any (is_numbered new.account) accounts) (ne_eqb account.account.0 new.account.0 differ)
          ∙ rest (AllPairs-tail AreApart account (with_account new accounts) pairs)
      step false is rest =
          let pairs : AllPairs AreApart (new ∷ account ∷ accounts) = rw is at apart in
          none_numbered (account ∷ accounts) (λ k d within. pairs 0 (suc k) d (omega arith) (omega arith))

  pub short_with : (accounts : List Account) → is_short new.name ≡ true → list_all (λ account. is_short account.name) accounts ≡ true → list_all (λ account. is_short account.name) (with_account new accounts) ≡ true
  short_with [] short all = and_from (is_short new.name) true short refl
  short_with (account ∷ accounts) short all = step (account_below account new) refl (short_with accounts short parts.1)
    where
      parts : (is_short account.name ≡ true) × (list_all (λ one. is_short one.name) accounts ≡ true)
      parts = and_parts (is_short account.name) (list_all (λ one. is_short one.name) accounts) all

      step : (b : Bool) → account_below account new ≡ b → list_all (λ one. is_short one.name) (with_account new accounts) ≡ true → list_all (λ one. is_short one.name) (with_account new (account ∷ accounts)) ≡ true
      step true is rest = rw is (and_from (is_short account.name) (list_all (λ one. is_short one.name) (with_account new accounts)) parts.0 rest)
      step false is rest = rw is (and_from (is_short new.name) (list_all (λ one. is_short one.name) (account ∷ accounts)) short all)

  pub short_of : (accounts : List Account) → list_all (λ account. is_short account.name) (with_account new accounts) ≡ true → is_short new.name ≡ true
  short_of [] all = (and_parts (is_short new.name) true all).0
  short_of (account ∷ accounts) all = step (account_below account new) refl (short_of accounts)
    where
      step : (b : Bool) → account_below account new ≡ b → (list_all (λ one. is_short one.name) (with_account new accounts) ≡ true → is_short new.name ≡ true) → is_short new.name ≡ true
      step true is rest = rest (and_parts (is_short account.name) (list_all (λ one. is_short one.name) (with_account new accounts)) (rw is at all)).1
      step false is rest = (and_parts (is_short new.name) (list_all (λ one. is_short one.name) (account ∷ accounts)) (rw is at all)).0
