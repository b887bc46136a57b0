-- An account more.
use Rattle.mum_state.proofs.Common.{◌≡◌, ℕ, suc, ◌<◌, ◌≤◌, ◌↔◌, ◌&&◌, not, nat_lt, Bool, true, length, arith, list_any, and_from, and_parts, lt-ltb, ltb-true, not-true, not_from_false, Account, ACCOUNT_LIMIT, IsProper, is_short, StateValue, has_account, is_named, with_account}
use Rattle.mum_state.proofs.Orderly.{apart_with, length_with, rises_with, short_of, short_with, unnamed_of, unnumbered_of}

-- nobody has its number or its name, the name is short, and there is room
abbrev is_new : StateValue → Account → Bool
is_new state new =
    not (has_account state new.account) && not (list_any (is_named new.name) state.accounts)
    && is_short new.name && nat_lt (length state.accounts) ACCOUNT_LIMIT

room : (n m limit : ℕ) → m ≡ suc n → n < limit → m ≤ limit
room n m limit is below = omega arith

room_back : (n m limit : ℕ) → m ≡ suc n → m ≤ limit → n < limit
room_back n m limit is most = omega arith

account_to : (state : StateValue) (new : Account) → IsProper state → is_new state new ≡ true → IsProper (record state { accounts = with_account new state.accounts })
account_to state new proper is =
    let a : Bool = not (has_account state new.account) in
    let b : Bool = not (list_any (is_named new.name) state.accounts) in
    let c : Bool = is_short new.name in
    let abc = and_parts (a && b && c) (nat_lt (length state.accounts) ACCOUNT_LIMIT) is in
    let ab = and_parts (a && b) c abc.0 in
    let parts = and_parts a b ab.0 in
    record {
      welcome = proper.welcome;
      names = rises_with new state.accounts (not-true (list_any (is_named new.name) state.accounts) parts.1) proper.names;
      accounts = apart_with new state.accounts (not-true (has_account state new.account) parts.0) proper.accounts;
      few_accounts = room (length state.accounts) (length (with_account new state.accounts)) ACCOUNT_LIMIT (length_with new state.accounts) (ltb-true (length state.accounts) ACCOUNT_LIMIT abc.1);
      short_names = short_with new state.accounts ab.1 proper.short_names;
      tree = proper.tree;
      channels = proper.channels;
      policies = proper.policies;
      sound_policies = proper.sound_policies;
      roster = proper.roster;
      users = proper.users;
      inside = proper.inside;
      listening = proper.listening;
      counts = proper.counts;
    }

account_from : (state : StateValue) (new : Account) → IsProper (record state { accounts = with_account new state.accounts }) → is_new state new ≡ true
account_from state new after =
    let a : Bool = not (has_account state new.account) in
    let b : Bool = not (list_any (is_named new.name) state.accounts) in
    let c : Bool = is_short new.name in
    and_from (a && b && c) (nat_lt (length state.accounts) ACCOUNT_LIMIT)
    (and_from (a && b) c
    (and_from a b
    (not_from_false (has_account state new.account) (unnumbered_of new state.accounts after.accounts))
    (not_from_false (list_any (is_named new.name) state.accounts) (unnamed_of new state.accounts after.names)))
    (short_of new state.accounts after.short_names))
    (lt-ltb (length state.accounts) ACCOUNT_LIMIT (room_back (length state.accounts) (length (with_account new state.accounts)) ACCOUNT_LIMIT (length_with new state.accounts) after.few_accounts))

-- an account is new exactly where the state stays proper with it
pub accounts_both_ways : (state : StateValue) (new : Account) → IsProper state → (is_new state new ≡ true) ↔ IsProper (record state { accounts = with_account new state.accounts })
accounts_both_ways state new proper = (account_to state new proper, account_from state new)
