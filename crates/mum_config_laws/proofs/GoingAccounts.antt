-- The accounts of a configuration are there, and no others.
use Rattle.mum_config_laws.proofs.Common.{◌≡◌, ℕ, suc, ◌+◌, ◌⊎◌, Bool, true, false, cond, List, [], ◌∷◌, ◌++◌, length, map, None, inl, inr, refl, sym, ap, subst, ◌∙◌, arith, Data, Account, Edit, applied, StateValue, account_below, with_account, Each, elements_fault, first_none, later_none, none_within, AccountsMet, account_edit, account_fault, with_account_met, IsBare, less_left, SaysAccount}
use Rattle.mum_config_laws.proofs.{Going.Goes, Going.one_goes, Lists.In, SaidEntries.account_row, SaidEntries.account_said}

-- ---- one account more

new_in : (new : Account) (accounts : List Account) → In new (with_account new accounts)
new_in new [] = inl refl
new_in new (account ∷ accounts) = step (account_below account new) (new_in new accounts)
  where
    step : (b : Bool) → In new (with_account new accounts) → In new (cond b (account ∷ with_account new accounts) (new ∷ account ∷ accounts))
    step true rest = inr rest
    step false rest = inl refl

old_in : (new one : Account) (accounts : List Account) → In one accounts → In one (with_account new accounts)
old_in new one [] inside = absurd inside
old_in new one (account ∷ accounts) inside = step (account_below account new) (old_in new one accounts) inside
  where
    step : (b : Bool) → (In one accounts → In one (with_account new accounts)) → In one (account ∷ accounts) → In one (cond b (account ∷ with_account new accounts) (new ∷ account ∷ accounts))
    step true rest inside = elim inside as (λ _. In one (account ∷ with_account new accounts)) [ inl is ↦ inl is | inr later ↦ inr (rest later) ]
    step false rest inside = inr inside

each_with : (P : Account → Type 0) (new : Account) (accounts : List Account) → P new → Each P accounts → Each P (with_account new accounts)
each_with P new [] one all = (one, tt)
each_with P new (account ∷ accounts) one all = step (account_below account new) (each_with P new accounts one all.1)
  where
    step : (b : Bool) → Each P (with_account new accounts) → Each P (cond b (account ∷ with_account new accounts) (new ∷ account ∷ accounts))
    step true rest = (all.0, rest)
    step false rest = (one, all)

-- ---- all accounts

abbrev pub AccountThere : List Account → Data → Type 0
AccountThere accounts value = (account : Account) × In account accounts × SaysAccount value account

-- of all entries each is still to come or its account is there, and each account has its entry
pub record AccountsSo (all left : List Data) (accounts : List Account) : Type 0 where
  pub there : (value : Data) → In value all → In value left ⊎ AccountThere accounts value
  pub given : Each (λ account. (value : Data) × In value all × SaysAccount value account) accounts

-- what accounts do not change
pub record IsBesideAccounts (was now : StateValue) : Type 0 where
  pub server : now.server ≡ was.server
  pub tree : now.tree ≡ was.tree
  pub policies : now.policies ≡ was.policies
  pub roster : now.roster ≡ was.roster

account_so : (all left : List Data) (accounts : List Account) (value : Data) (new : Account) → SaysAccount value new → In value all → AccountsSo all (value ∷ left) accounts → AccountsSo all left (with_account new accounts)
account_so all left accounts value new says inside so = record {
  there = λ one listed. elim (so.there one listed) as (λ _. In one left ⊎ AccountThere (with_account new accounts) one) [
    | inl first ↦ (elim first as (λ _. In one left ⊎ AccountThere (with_account new accounts) one) [
      | inl is ↦ inr (new, new_in new accounts, subst (λ (v : Data). SaysAccount v new) is says)
      | inr later ↦ inl later
    ])
    | inr there ↦ inr (there.0, old_in new there.0 accounts there.1, there.2)
  ];
  given = each_with (λ account. (v : Data) × In v all × SaysAccount v account) new accounts (value, inside, says) so.given;
}

pub accounts_go : (Q : StateValue → Type 0) (all values : List Data) (place : ℕ) (met : AccountsMet) (state : StateValue) (left : ℕ) (rest : List Edit)
    → IsBare (length values + left) state → Each (λ value. In value all) values → elements_fault account_fault with_account_met met place values ≡ None
    → AccountsSo all values state.accounts
    → ((later : StateValue) → IsBare left later → AccountsSo all [] later.accounts → IsBesideAccounts state later → Goes Q later rest)
    → Goes Q state (map account_edit values ++ rest)
unfolding account_edit
accounts_go Q all [] place met state left rest bare inside none so on =
    on state (less_left (0 + left) left state (omega arith) bare) so (record { server = refl; tree = refl; policies = refl; roster = refl })
accounts_go Q all (value ∷ values) place met state left rest bare inside none so on =
    one_goes Q (length values + left) state (account_edit value) (map account_edit values ++ rest) refl
    (less_left (suc (length values) + left) (suc (length values + left)) state (omega arith) bare)
    (λ led.
    let accounts : (applied state (account_edit value)).accounts ≡ with_account (account_row value) state.accounts = ap (λ (s : StateValue). s.accounts) led.is in
    accounts_go Q all values (place + 1) (with_account_met met value) (applied state (account_edit value)) left rest led.bare inside.1 (later_none _ _ none)
    (subst (AccountsSo all values) (sym accounts)
    (account_so all values state.accounts value (account_row value) (account_said met value (none_within _ _ (first_none _ _ none))) inside.0 so))
    (λ later still so_then beside. on later still so_then (record {
      server = beside.server ∙ ap (λ (s : StateValue). s.server) led.is;
      tree = beside.tree ∙ ap (λ (s : StateValue). s.tree) led.is;
      policies = beside.policies ∙ ap (λ (s : StateValue). s.policies) led.is;
      roster = beside.roster ∙ ap (λ (s : StateValue). s.roster) led.is;
    })))
