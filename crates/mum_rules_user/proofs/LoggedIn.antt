-- A login that is accepted is one that the state takes.
use Rattle.mum_rules_user.proofs.Common.{◌≡◌, ℕ, ◌≤◌, ◌&&◌, ◌||◌, Bool, true, false, not, cond, eqb, leb, ltb, List, [], ◌∷◌, length, length-take, take, Option, Some, None, refl, sym, ap, ◌∙◌, subst, arith, ⊎_elim, filter, find, list_any, is_none, option_map, option_map_or, and_from, cases_Bool, eq-eqb, not-false, not_from_false, or_left, or_right, or_parts, nat_tests, name_fault, NAME_LIMIT, Authenticate, UserFault, NameInUse, Full, SessionsUsedUp, TOKENS, is_full, is_used_up, join_fault, next_number, next_slot, RosterState, are_tokens, has_name, is_long_token, Account, EDIT_LIMIT, fits, is_name, is_short, StateValue, account_named, has_account, is_named, is_numbered, case_of, first_standing, fits_from, named_from, all_off, ServerFull, UsernameInUse, reject_type_of, edit_to_join, limits_of_login, limits_of_seat, name_given, tokens_kept}

-- ---- the tokens that are kept

kept_length : {X : Type 0} (p : X → Bool) (xs : List X) → length (filter p xs) ≤ length xs
kept_length p [] = omega arith
kept_length {X} p (x ∷ xs) = one (p x) (kept_length p xs)
  where
    one : (b : Bool) → length (filter p xs) ≤ length xs → length (cond b (x ∷ filter p xs) (filter p xs)) ≤ length (x ∷ xs)
    one true le = omega arith
    one false le = omega arith

none_long : (tokens : List (List ℕ)) → list_any is_long_token (filter (λ token. not (is_long_token token)) tokens) ≡ false
none_long [] = refl
none_long (token ∷ tokens) = one (is_long_token token) refl (none_long tokens)
  where
    kept : List (List ℕ)
    kept = filter (λ t. not (is_long_token t)) tokens

    one : (b : Bool) → is_long_token token ≡ b → list_any is_long_token kept ≡ false → list_any is_long_token (cond (not (is_long_token token)) (token ∷ kept) kept) ≡ false
    one true e rest = rw e rest
    one false e rest = rw (e, e) rest

taken_length : {X : Type 0} (n : ℕ) (xs : List X) → length (take n xs) ≤ n
taken_length n xs = omega (arith, length-take n xs)

-- those that are kept are as many as a session may have, and none is too long
pub kept_are_tokens : (given : List (List ℕ)) → are_tokens (tokens_kept given) ≡ true
kept_are_tokens given =
    let counted = take TOKENS given in
    let few : length (tokens_kept given) ≤ TOKENS = omega (arith, kept_length (λ t. not (is_long_token t)) counted, taken_length TOKENS given) in
    let le : leb (length (tokens_kept given)) TOKENS ≡ true = grind (arith, nat_tests) in
    and_from (leb (length (tokens_kept given)) TOKENS) (not (list_any is_long_token (tokens_kept given))) le (not_from_false (list_any is_long_token (tokens_kept given)) (none_long counted))

-- ---- the account

found_listed : {X : Type 0} (p q : X → Bool) (xs : List X) (x : X) → find p xs ≡ Some x → q x ≡ true → list_any q xs ≡ true
found_listed p q [] x found here = cc
found_listed {X} p q (y ∷ ys) x found here =
    ⊎_elim
    (λ (on : p y ≡ true).
    let first : Some y ≡ Some x = subst (λ (b : Bool). cond b (Some y) (find p ys) ≡ Some x) on found in
    let same : y ≡ x = cc in
    or_left (q y) (list_any q ys) (ap q same ∙ here))
    (λ (off : p y ≡ false). or_right (q y) (list_any q ys) (found_listed p q ys x (subst (λ (b : Bool). cond b (Some y) (find p ys) ≡ Some x) off found) here))
    (cases_Bool (p y))

-- the account of a name, if it has one, is there
account_there : (state : StateValue) (name : List ℕ) (found : Option Account) → account_named state name ≡ found → option_map_or (has_account state) (option_map (λ (account : Account). account.account) found) true ≡ true
account_there state name None is = refl
account_there state name (Some account) is =
    found_listed (is_named name) (is_numbered account.account) state.accounts account is (eq-eqb account.account.0 account.account.0 refl)

-- ---- the name

-- a good name is not too long
short : (name : List ℕ) → is_name name ≡ true → is_short name ≡ true
short name good = empty (eqb (length name) 0) refl
  where
    long : (b : Bool) → ltb NAME_LIMIT (length name) ≡ b → eqb (length name) 0 ≡ false → is_short name ≡ true
    long true e some =
        let fault : is_none (name_fault name) ≡ false = rw (some, e) refl in
        let no : true ≡ false = sym good ∙ fault in
        cc
    long false e some = grind (arith, nat_tests)

    empty : (b : Bool) → eqb (length name) 0 ≡ b → is_short name ≡ true
    empty true e = grind (arith, nat_tests)
    empty false e = long (ltb NAME_LIMIT (length name)) refl e

join_allowed : (roster : RosterState) (name : List ℕ) → list_any (has_name name) roster.sessions ≡ false → is_full roster ≡ false → is_used_up roster ≡ false → join_fault roster name ≡ None
join_allowed roster name free room left =
    let used : Option UserFault = cond (is_used_up roster) (Some SessionsUsedUp) None in
    let full : Option UserFault = cond (is_full roster) (Some Full) used in
    ap (λ (b : Bool). cond b (Some NameInUse) full) free
    ∙ ap (λ (b : Bool). cond b (Some Full) used) room
    ∙ ap (λ (b : Bool). cond b (Some SessionsUsedUp) None) left

-- ---- the login

pub login_fits : (state : StateValue) (version : Option ℕ) (message : Authenticate) → ltb state.counts.revision EDIT_LIMIT ≡ true → first_standing (limits_of_login state version message) ≡ None → fits state (edit_to_join state message) ≡ true
login_fits state version message room free =
    let roster = state.roster in
    let name = name_given message in
    let off = all_off (limits_of_login state version message) free in
    let bad = off.1.0 in
    let in_use = off.1.1.1.1.0 in
    let (full, used_up) = or_parts (is_full roster) (is_used_up roster) off.1.1.1.1.1.0 in
    let good = not-false (is_name name) bad in
    let joins : is_none (join_fault roster name) ≡ true = ap is_none (join_allowed roster name in_use full used_up) in
    let session = (next_number roster).0 in
    let slot = (next_slot roster).0 in
    let a = is_none (join_fault roster name) in
    let b = is_short name in
    let c = are_tokens (tokens_kept message.tokens) in
    fits_from state (edit_to_join state message)
    (named_from state (edit_to_join state message) refl refl (account_there state name (account_named state name) refl))
    (and_from (eqb session session) (eqb slot slot) (eq-eqb session session refl) (eq-eqb slot slot refl))
    (and_from (a && b) c (and_from a b joins (short name good)) (kept_are_tokens message.tokens))
    room

-- ---- the limits of a seat, by what the roster says

seat_at : (in_use full used_up : Bool) → option_map reject_type_of (cond in_use (Some NameInUse) (cond full (Some Full) (cond used_up (Some SessionsUsedUp) None))) ≡ first_standing (case_of UsernameInUse in_use ∷ case_of ServerFull (full || used_up) ∷ [])
seat_at true full used_up = refl
seat_at false true used_up = refl
seat_at false false true = refl
seat_at false false false = refl

pub seat_by_cause : (roster : RosterState) (name : List ℕ) → option_map reject_type_of (join_fault roster name) ≡ first_standing (limits_of_seat roster name)
seat_by_cause roster name = seat_at (list_any (has_name name) roster.sessions) (is_full roster) (is_used_up roster)
