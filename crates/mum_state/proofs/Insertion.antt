-- Accounts by their names, and their numbers, in their orders.
use Rattle.mum_state.proofs.Common.{◌≡◌, ℕ, zero, suc, ◌+◌, ◌<◌, ◌==◌, ◌||◌, not, Bool, true, false, List, [], ◌∷◌, length, get_or, insert, refl, sym, ap, ◌∙◌, arith, Some, None, find, IsTrue, list_any, position_or_len, ne_eqb, nat_tests, AccountId, IsBelowAll, Rises, IsBelowAll-through, one_more, Rises-at, Account, account_below, is_before, is_named, is_numbered, with_account, AreNumbers, number_below}
use Rattle.mum_state.proofs.{Members.any_inserted, Members.none_passes, Orderly.below_through, Orderly.other_way, Orderly.two_names, Orderly.two_names_back}

-- ---- a name is found by binary search

-- an account under the name
abbrev under : List ℕ → Account → Account
under name account = record account { name = name }

before_down : (name : List ℕ) (x y : Account) → IsTrue (account_below x y) → is_before name y ≡ true → is_before name x ≡ true
before_down name x y lower low = below_through x y (under name y) lower low

pub names_down : (name : List ℕ) (x y : Account) → IsTrue (account_below x y) → is_before name y ≡ true → is_before name x ≡ true
names_down name x y lower low = before_down name x y lower low

abbrev pub place_for : List ℕ → List Account → ℕ
place_for name accounts = position_or_len (λ account. not (is_before name account)) accounts

pub find-at_place : (name : List ℕ) (accounts : List Account) (d : Account) → place_for name accounts < length accounts → is_named name (get_or accounts (place_for name accounts) d) ≡ true
    → find (is_named name) accounts ≡ Some (get_or accounts (place_for name accounts) d)
find-at_place name [] d within there = absurd (omega arith)
find-at_place name (account ∷ accounts) d within there = split (is_before name account) refl (find-at_place name accounts d)
  where
    split : (b : Bool) → is_before name account ≡ b → (place_for name accounts < length accounts → is_named name (get_or accounts (place_for name accounts) d) ≡ true → find (is_named name) accounts ≡ Some (get_or accounts (place_for name accounts) d))
        → find (is_named name) (account ∷ accounts) ≡ Some (get_or (account ∷ accounts) (place_for name (account ∷ accounts)) d)
    split true e rest =
        let inside : 1 + place_for name accounts < length (account ∷ accounts) = rw e at within in
        let is = rw (e, one_more (place_for name accounts)) at there in
        let head : is_named name account ≡ false = two_names account (under name account) e in
        rw (e, one_more (place_for name accounts), head) (rest (omega arith) is)
    split false e rest = let is : is_named name account ≡ true = rw e at there in rw (e, is) refl

none_above : (new : Account) (accounts : List Account) → IsBelowAll account_below new accounts → find (is_named new.name) accounts ≡ None
none_above new [] all = refl
none_above new (account ∷ accounts) all =
    let head : is_named new.name account ≡ false = two_names_back new account all.0 in
    rw head (none_above new accounts all.1)

pub find-no_place : (name : List ℕ) (accounts : List Account) → Rises account_below accounts
    → ((d : Account) → place_for name accounts < length accounts → is_named name (get_or accounts (place_for name accounts) d) ≡ false)
    → find (is_named name) accounts ≡ None
find-no_place name [] rise other = refl
find-no_place name (account ∷ accounts) rise other = split (is_before name account) refl (find-no_place name accounts rise.1)
  where
    split : (b : Bool) → is_before name account ≡ b → (((d : Account) → place_for name accounts < length accounts → is_named name (get_or accounts (place_for name accounts) d) ≡ false) → find (is_named name) accounts ≡ None)
        → find (is_named name) (account ∷ accounts) ≡ None
    split true e rest =
        let head : is_named name account ≡ false = two_names account (under name account) e in
        rw head (rest (λ d lt. rw (e, one_more (place_for name accounts)) at (other d (rw e (omega arith)))))
    split false e rest =
        let head : is_named name account ≡ false = rw e at (other account (rw e (omega arith))) in
        let new : Account = under name account in
        let lower : IsTrue (account_below new account) = other_way account new head e in
        rw head (none_above new accounts (IsBelowAll-through account_below below_through new account accounts lower rise.0))

-- ---- an account more

pub inserted_is : (new : Account) (accounts : List Account) → insert accounts (place_for new.name accounts) new ≡ with_account new accounts
inserted_is new [] = refl
inserted_is new (account ∷ accounts) = split (account_below account new) refl (inserted_is new accounts)
  where
    split : (b : Bool) → account_below account new ≡ b → insert accounts (place_for new.name accounts) new ≡ with_account new accounts
        → insert (account ∷ accounts) (place_for new.name (account ∷ accounts)) new ≡ with_account new (account ∷ accounts)
    split true e rest = rw (e, one_more (place_for new.name accounts)) (ap (λ (later : List Account). account ∷ later) rest)
    split false e rest = rw e refl

-- ---- a number more

pub numbers_down : (number x y : AccountId) → IsTrue (number_below x y) → number_below y number ≡ true → number_below x number ≡ true
numbers_down number x y lower low = grind (arith, nat_tests)

number_through : (a b c : AccountId) → IsTrue (number_below a b) → IsTrue (number_below b c) → IsTrue (number_below a c)
number_through a b c low high = grind (arith, nat_tests)

abbrev pub place_of : AccountId → List AccountId → ℕ
place_of number numbers = position_or_len (λ one. not (number_below one number)) numbers

below_inserted : (first number : AccountId) (numbers : List AccountId) (i : ℕ) → IsTrue (number_below first number) → IsBelowAll number_below first numbers → IsBelowAll number_below first (insert numbers i number)
below_inserted first number numbers zero low all = (low, all)
below_inserted first number [] (suc i) low all = (low, tt)
below_inserted first number (one ∷ numbers) (suc i) low all = (all.0, below_inserted first number numbers i low all.1)

number_above : (one number : AccountId) → number_below one number ≡ false → (one.0 == number.0) ≡ false → IsTrue (number_below number one)
number_above one number off other = grind (arith, nat_tests)

pub rises_inserted : (number : AccountId) (numbers : List AccountId) → list_any (λ one. one.0 == number.0) numbers ≡ false → Rises number_below numbers → Rises number_below (insert numbers (place_of number numbers) number)
rises_inserted number [] none rise = (tt, tt)
rises_inserted number (one ∷ numbers) none rise = split (number_below one number) (one.0 == number.0) refl refl none (rises_inserted number numbers)
  where
    split : (b s : Bool) → number_below one number ≡ b → (one.0 == number.0) ≡ s → (s || list_any (λ other. other.0 == number.0) numbers) ≡ false
        → (list_any (λ other. other.0 == number.0) numbers ≡ false → Rises number_below numbers → Rises number_below (insert numbers (place_of number numbers) number))
        → Rises number_below (insert (one ∷ numbers) (place_of number (one ∷ numbers)) number)
    split b true e f none-2 rest = absurd (cc)
    split true false e f none-2 rest =
        rw (e, one_more (place_of number numbers)) (below_inserted one number numbers (place_of number numbers) e rise.0, rest none-2 rise.1)
    split false false e f none-2 rest =
        let lower : IsTrue (number_below number one) = number_above one number e f in
        rw e ((lower, IsBelowAll-through number_below number_through number one numbers lower rise.0), rise)

pub numbers_with : (new : Account) (accounts : List Account) (numbers : List AccountId) → list_any (is_numbered new.account) accounts ≡ false → AreNumbers numbers accounts
    → AreNumbers (insert numbers (place_of new.account numbers) new.account) (with_account new accounts)
numbers_with new accounts numbers none are = record {
  rise = rises_inserted new.account numbers (are.same new.account ∙ none) are.rise;
  same = λ number.
      any_inserted (λ (one : AccountId). one.0 == number.0) numbers (place_of new.account numbers) new.account
      ∙ ap (λ b. (new.account.0 == number.0) || b) (are.same number)
      ∙ sym (any_inserted (is_numbered number) accounts (place_for new.name accounts) new)
      ∙ ap (list_any (is_numbered number)) (inserted_is new accounts);
}

-- ---- a number is found by binary search

pub numbers_rise : (numbers : List AccountId) → Rises number_below numbers → (i j : ℕ) (d : AccountId) → i < j → j < length numbers → (get_or numbers i d).0 < (get_or numbers j d).0
numbers_rise numbers rise i j d lt within =
    let lower : IsTrue (number_below (get_or numbers i d) (get_or numbers j d)) = Rises-at number_below numbers i j d rise lt within in
    grind (arith, nat_tests)

pub none_of_number : (number : AccountId) (numbers : List AccountId) → ((j : ℕ) (d : AccountId) → j < length numbers → (get_or numbers j d).0 ≡ number.0 → ⊥) → list_any (λ one. one.0 == number.0) numbers ≡ false
none_of_number number numbers apart = none_passes (λ one. one.0 == number.0) numbers (λ k d within. ne_eqb (get_or numbers k d).0 number.0 (apart k d within))
