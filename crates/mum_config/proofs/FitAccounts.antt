-- The edits that add accounts fit one after the other.
use Rattle.mum_config.proofs.Common.{◌≡◌, ℕ, suc, ◌+◌, ◌≤◌, ◌<◌, ◌==◌, ◌&&◌, ◌||◌, not, Bool, true, false, cond, List, [], ◌∷◌, ◌++◌, length, map, None, refl, sym, ap, subst, ◌∙◌, arith, codes, nat_lt, list_any, bytes_eq, and_from, lt-ltb, not_from_false, nat_tests, list_any-append, Data, get, ACCOUNT_LIMIT, Edit, AddAccount, all_fit, applied, is_short, StateValue, account_below, has_account, is_named, is_numbered, with_account, Each, length_with, AccountsMet, account_edit, account_fault, account_name, account_names, account_number, account_rows, no_accounts, with_account_met, elements_fault, opening_fault, first_none, later_none, none_within}
use Rattle.mum_state.specs.declared.account.Account.{Account}
use Rattle.mum_config.proofs.{Bare.IsBare, Bare.Leads, Bare.leads, Bare.less_left, Bare.one_more, Said.name_good, Said.not_against, Said.object_rows, Said.short_name}

or_move : (a b c : Bool) → (a || (b || c)) ≡ (b || (a || c))
or_move true true c = refl
or_move true false c = refl
or_move false b c = refl

any_account : (p : Account → Bool) (new : Account) (accounts : List Account) → list_any p (with_account new accounts) ≡ (p new || list_any p accounts)
any_account p new [] = refl
any_account p new (account ∷ accounts) = step (account_below account new) (any_account p new accounts)
  where
    step : (b : Bool) → list_any p (with_account new accounts) ≡ (p new || list_any p accounts)
        → list_any p (cond b (account ∷ with_account new accounts) (new ∷ account ∷ accounts)) ≡ (p new || (p account || list_any p accounts))
    step true rest = ap (λ (b : Bool). p account || b) rest ∙ or_move (p account) (p new) (list_any p accounts)
    step false rest = refl

or_swap : (a b : Bool) → (a || b) ≡ (b || (a || false))
or_swap true true = refl
or_swap true false = refl
or_swap false true = refl
or_swap false false = refl

pub eq_swap : (a b : ℕ) → (a == b) ≡ (b == a)
eq_swap a b = grind (arith, nat_tests)

pub bytes_swap : (xs ys : List ℕ) → bytes_eq xs ys ≡ bytes_eq ys xs
bytes_swap [] [] = refl
bytes_swap [] (y ∷ ys) = refl
bytes_swap (x ∷ xs) [] = refl
bytes_swap (x ∷ xs) (y ∷ ys) = rw (eq_swap x y, bytes_swap xs ys) refl

-- the accounts that were met are those of the state
pub record AreAdded (met : AccountsMet) (accounts : List Account) : Type 0 where
  pub numbers : (number : ℕ) → list_any (is_numbered (record { 0 = number })) accounts ≡ list_any (λ n. number == n) met.numbers
  pub names : (name : List ℕ) → list_any (is_named name) accounts ≡ list_any (bytes_eq name) met.names

none_added : AreAdded no_accounts []
none_added = record { numbers = λ number. refl; names = λ name. refl }

record Added (left : ℕ) (met : AccountsMet) (state : StateValue) (edit : Edit) : Type 0 where
  led : Leads left state edit
  added : AreAdded met (applied state edit).accounts
  tree : (applied state edit).tree ≡ state.tree
  one_more_account : length (applied state edit).accounts ≡ suc (length state.accounts)

module _ (left number : ℕ) (name digest : List ℕ) (met : AccountsMet) (state : StateValue) (added : AreAdded met state.accounts) where
  abbrev new : Account
  new = record { account = record { 0 = number }; name = name; digest = digest }

  numbers_too : (one : ℕ) → list_any (is_numbered (record { 0 = one })) (with_account new state.accounts) ≡ list_any (λ n. one == n) (met.numbers ++ number ∷ [])
  numbers_too one =
      any_account (is_numbered (record { 0 = one })) new state.accounts
      ∙ ap (λ (b : Bool). (number == one) || b) (added.numbers one)
      ∙ or_swap (number == one) (list_any (λ n. one == n) met.numbers)
      ∙ ap (λ (b : Bool). list_any (λ n. one == n) met.numbers || (b || false)) (eq_swap number one)
      ∙ sym (list_any-append (λ n. one == n) met.numbers (number ∷ []))

  names_too : (one : List ℕ) → list_any (is_named one) (with_account new state.accounts) ≡ list_any (bytes_eq one) (met.names ++ name ∷ [])
  names_too one =
      any_account (is_named one) new state.accounts
      ∙ ap (λ (b : Bool). bytes_eq name one || b) (added.names one)
      ∙ or_swap (bytes_eq name one) (list_any (bytes_eq one) met.names)
      ∙ ap (λ (b : Bool). list_any (bytes_eq one) met.names || (b || false)) (bytes_swap name one)
      ∙ sym (list_any-append (bytes_eq one) met.names (name ∷ []))

  account_added : IsBare (suc left) state → length state.accounts < ACCOUNT_LIMIT → list_any (λ n. number == n) met.numbers ≡ false → list_any (bytes_eq name) met.names ≡ false → is_short name ≡ true
      → Added left (record { numbers = met.numbers ++ number ∷ []; names = met.names ++ name ∷ [] }) state (AddAccount (record { 0 = number }) name digest)
  account_added bare room unnumbered unnamed short =
      let edit : Edit = AddAccount (record { 0 = number }) name digest in
      let led : Leads left state edit = leads left state edit refl bare refl refl
      (and_from (not (has_account state (record { 0 = number })) && not (list_any (is_named name) state.accounts) && is_short name) (nat_lt (length state.accounts) ACCOUNT_LIMIT)
      (and_from (not (has_account state (record { 0 = number })) && not (list_any (is_named name) state.accounts)) (is_short name)
      (and_from (not (has_account state (record { 0 = number }))) (not (list_any (is_named name) state.accounts))
      (not_from_false (has_account state (record { 0 = number })) (added.numbers number ∙ unnumbered))
      (not_from_false (list_any (is_named name) state.accounts) (added.names name ∙ unnamed)))
      short)
      (lt-ltb (length state.accounts) ACCOUNT_LIMIT room)) in
      let accounts : (applied state edit).accounts ≡ with_account new state.accounts = ap (λ (s : StateValue). s.accounts) led.is in
      record {
        led = led;
        added = record {
          numbers = λ one. ap (list_any (is_numbered (record { 0 = one }))) accounts ∙ numbers_too one;
          names = λ one. ap (list_any (is_named one)) accounts ∙ names_too one;
        };
        tree = ap (λ (s : StateValue). s.tree) led.is;
        one_more_account = ap (λ (xs : List Account). length xs) accounts ∙ length_with new state.accounts;
      }

account_step : (left : ℕ) (met : AccountsMet) (state : StateValue) (value : Data) → IsBare (suc left) state → AreAdded met state.accounts → length state.accounts < ACCOUNT_LIMIT → account_fault met value ≡ None
    → Added left (with_account_met met value) state (account_edit value)
unfolding account_edit account_fault
account_step left met state value bare added room none =
    let rows : Each (λ row. row.1 ≡ None) (account_rows met value) = object_rows (codes ".") (opening_fault (codes ".") account_names value) (account_rows met value) none in
    account_added left (account_number value) (account_name value) _ met state added bare room
    (not_against _ _ rows.1.0)
    (not_against _ _ rows.1.1.1.0)
    (short_name (account_name value) (name_good (get (codes "name") value) rows.1.1.0))

accounts_fit : (values : List Data) (place : ℕ) (met : AccountsMet) (state : StateValue) (left : ℕ) (rest : List Edit)
    → IsBare (length values + left) state → AreAdded met state.accounts → length state.accounts + length values ≤ ACCOUNT_LIMIT
    → elements_fault account_fault with_account_met met place values ≡ None
    → ((later : StateValue) → IsBare left later → later.tree ≡ state.tree → all_fit later rest ≡ true)
    → all_fit state (map account_edit values ++ rest) ≡ true
accounts_fit [] place met state left rest bare added few none on = on state (less_left (0 + left) left state (omega arith) bare) refl
accounts_fit (value ∷ values) place met state left rest bare added few none on =
    let one : Added (length values + left) (with_account_met met value) state (account_edit value) =
    account_step (length values + left) met state value (less_left (suc (length values) + left) (suc (length values + left)) state (omega arith) bare) added (omega arith) (none_within _ _ (first_none _ _ none)) in
    one_more state (account_edit value) (map account_edit values ++ rest) one.led.fit
    (accounts_fit values (place + 1) (with_account_met met value) (applied state (account_edit value)) left rest one.led.bare one.added (omega (arith, one.one_more_account)) (later_none _ _ none)
    (λ later still same. on later still (same ∙ one.tree)))

pub first_accounts_fit : (values : List Data) (state : StateValue) (left : ℕ) (rest : List Edit) → IsBare (length values + left) state → state.accounts ≡ [] → length values ≤ ACCOUNT_LIMIT
    → elements_fault account_fault with_account_met no_accounts 0 values ≡ None
    → ((later : StateValue) → IsBare left later → later.tree ≡ state.tree → all_fit later rest ≡ true)
    → all_fit state (map account_edit values ++ rest) ≡ true
first_accounts_fit values state left rest bare nobody few none on =
    accounts_fit values 0 no_accounts state left rest bare
    (subst (AreAdded no_accounts) (sym nobody) none_added)
    (omega (arith, ap (λ (xs : List Account). length xs) nobody))
    none on
