-- The users of an exercise come, one after the other, and each of them is accepted.
use Rattle.mum_laws.proofs.Common.{◌≡◌, ℕ, zero, suc, ◌+◌, ◌≤◌, ◌<◌, ◌&&◌, Bool, true, false, cond, List, [], ◌∷◌, length, Option, Some, None, refl, ap, ◌∙◌, arith, inl, inr, find, insert, nat_lt, not, ◌||◌, if◌then◌else◌, digits, list_any, option_map, option_map_or, IsUtf8, bytes_eq, chars, is_utf8, encode, and_parts, cases_eq, le-ltb, lt-leb, ltb-true, length-map, IsUtf8-from_is_utf8, reason_code, reject_code, Reason, RejectType, User, DEFAULT_SESSIONS_LIMIT, free_slot, is_full, is_used_up, next_number, next_slot, has_name, joining, Account, EDIT_LIMIT, Edit, Join, Accepted, Ignored, Rejected, applied, is_name, set_by, StateValue, account_named, heard_anew, is_set_anew, applied_descends, Each, each_insert, each_so, Case, first_standing, COMMAND_LIMIT, edit_to_join, is_no_guest, is_not_the_owner, limits_of_login, reasons, heard_verdict, layout, parts, spelled, authenticate, bound, items-few, verdict, OfUser, login, user_name}
use Rattle.mum_rules_user.specs.Asked.{payload_of}
use Rattle.mum_rules_user.specs.declared.message.UserMessage.TheVariants as users

-- ---- what holds of each number below another

abbrev pub checks : (ℕ → Bool) → ℕ → Bool
checks p zero = true
checks p (suc n) = p n && checks p n

pub checked : (p : ℕ → Bool) (n i : ℕ) → checks p n ≡ true → i < n → p i ≡ true
checked p zero i all low = absurd (omega (arith, low))
checked p (suc n) i all low = elim (cases_eq i n) [
  | inl same ↦ ap p same ∙ (and_parts (p n) (checks p n) all).0
  | inr other ↦ checked p n i (and_parts (p n) (checks p n) all).1 (omega (arith, low, other))
]

-- ---- names

names_are_texts : checks (λ i. is_utf8 (user_name (i + 1))) 16 ≡ true
unfolding is_utf8 chars encode digits
names_are_texts = refl

names_are_names : checks (λ i. is_name (user_name (i + 1))) 16 ≡ true
unfolding digits
names_are_names = refl

names_are_short : checks (λ i. nat_lt (length (user_name (i + 1))) 20) 16 ≡ true
unfolding digits
names_are_short = refl

names_are_apart : checks (λ i. checks (λ k. not (bytes_eq (user_name (k + 1)) (user_name (i + 1)))) i) 16 ≡ true
unfolding digits
names_are_apart = refl

pub name_text : (i : ℕ) → i < 16 → IsUtf8 (user_name (i + 1))
name_text i low = IsUtf8-from_is_utf8 (user_name (i + 1)) (checked (λ i. is_utf8 (user_name (i + 1))) 16 i names_are_texts low)

pub name_short : (i : ℕ) → i < 16 → length (user_name (i + 1)) ≤ 20
name_short i low = let few = ltb-true (length (user_name (i + 1))) 20 (checked (λ i. nat_lt (length (user_name (i + 1))) 20) 16 i names_are_short low) in omega (arith, few)

-- ---- the state when n came

abbrev IsNamed : ℕ → User → Type 0
IsNamed i user = (k : ℕ) × (k < i) × (user.name ≡ user_name (k + 1))

pub record Ready (i : ℕ) (state : StateValue) : Type 0 where
  pub last : state.roster.last ≡ i
  pub limit : state.roster.limit ≡ DEFAULT_SESSIONS_LIMIT
  pub many : length state.roster.sessions ≤ i
  pub names : Each (IsNamed i) state.roster.sessions
  pub password : state.server.password ≡ None
  pub accounts : state.accounts ≡ []
  pub few : state.counts.revision ≤ i

not_true : (b : Bool) → not b ≡ true → b ≡ false
not_true true on = cc
not_true false on = refl

none_named : (name : List ℕ) (sessions : List User) → Each (λ user. has_name name user ≡ false) sessions → list_any (has_name name) sessions ≡ false
none_named name [] all = refl
none_named name (user ∷ sessions) all = ap (λ (b : Bool). b || list_any (has_name name) sessions) all.0 ∙ none_named name sessions all.1

new_name : (i : ℕ) (state : StateValue) → i < 16 → Ready i state → list_any (has_name (user_name (i + 1))) state.roster.sessions ≡ false
new_name i state low ready =
    none_named (user_name (i + 1)) state.roster.sessions
    (each_so (IsNamed i) (λ user. has_name (user_name (i + 1)) user ≡ false)
    (λ user named.
    ap (λ (name : List ℕ). bytes_eq name (user_name (i + 1))) named.2
    ∙ not_true (bytes_eq (user_name (named.0 + 1)) (user_name (i + 1)))
    (checked (λ k. not (bytes_eq (user_name (k + 1)) (user_name (i + 1)))) i named.0
    (checked (λ i. checks (λ k. not (bytes_eq (user_name (k + 1)) (user_name (i + 1)))) i) 16 i names_are_apart low) named.1))
    state.roster.sessions ready.names)

-- ---- a login is accepted

-- where none of the cases applies, none is found
none_stands : {C : Type 0} (cases : List (Case C)) → Each (λ one. one.stands ≡ false) cases → first_standing cases ≡ None
none_stands [] all = refl
none_stands {C} (x ∷ cases) all =
    ap (λ (b : Bool). option_map (λ (one : Case C). one.code) (cond b (Some x) (find (λ (one : Case C). one.stands) cases))) all.0 ∙ none_stands cases all.1

or_false : (a b : Bool) → a ≡ false → b ≡ false → (a || b) ≡ false
or_false true b hx hy = cc
or_false false b hx hy = hy

login_short : (name : List ℕ) → length name ≤ 20 → nat_lt COMMAND_LIMIT (length (payload_of (users.Join (login name) None))) ≡ false
unfolding payload_of
login_short name short =
    let few : length (spelled authenticate (login name)) ≤ bound (layout authenticate) (parts authenticate (login name)) = items-few (layout authenticate) (parts authenticate (login name)) in
    le-ltb COMMAND_LIMIT (length (spelled authenticate (login name))) (omega (arith, few, short))

no_reason : (i : ℕ) (state : StateValue) → i < 16 → Ready i state → first_standing (reasons state None (users.Join (login (user_name (i + 1))) None)) ≡ None
no_reason i state low ready =
    let few = ready.few in
    none_stands (reasons state None (users.Join (login (user_name (i + 1))) None))
    (or_false false _ refl (lt-leb EDIT_LIMIT state.counts.revision (omega (arith, few, low))), (refl, (login_short (user_name (i + 1)) (name_short i low), (refl, (refl, (refl, tt))))))

no_limit : (i : ℕ) (state : StateValue) → i < 16 → Ready i state → first_standing (limits_of_login state None (login (user_name (i + 1)))) ≡ None
no_limit i state low ready =
    let name : List ℕ = user_name (i + 1) in
    let nobody : account_named state name ≡ None = ap (λ (accounts : List Account). find (λ account. bytes_eq account.name name) accounts) ready.accounts in
    let good : is_name name ≡ true = checked (λ i. is_name (user_name (i + 1))) 16 i names_are_names low in
    let owner : is_not_the_owner (account_named state name) [] ≡ false = ap (λ (account : Option Account). is_not_the_owner account []) nobody in
    let guest : is_no_guest (account_named state name) state.server.password [] ≡ false =
    ap (λ (account : Option Account). is_no_guest account state.server.password []) nobody ∙ ap (λ (digest : Option (List ℕ)). is_no_guest None digest []) ready.password in
    let many = ready.many in
    let limit = ready.limit in
    let last = ready.last in
    let full : is_full state.roster ≡ false = lt-leb state.roster.limit (length state.roster.sessions) (omega (arith, many, limit, low)) in
    let used : is_used_up state.roster ≡ false = lt-leb _ state.roster.last (omega (arith, last, low)) in
    none_stands (limits_of_login state None (login name))
    (refl, (ap not good, (owner, (guest, (new_name i state low ready, (or_false (is_full state.roster) (is_used_up state.roster) full used, tt))))))

-- the edit by which user i + 1 comes
abbrev pub comes : ℕ → StateValue → Edit
comes i state = Join (next_number state.roster) (next_slot state.roster) (user_name (i + 1)) None []

pub login_accepted : (i : ℕ) (state : StateValue) → i < 16 → Ready i state → verdict state None (OfUser (users.Join (login (user_name (i + 1))) None)) ≡ Accepted (comes i state)
unfolding verdict
login_accepted i state low ready =
    let name : List ℕ = user_name (i + 1) in
    let message = users.Join (login name) None in
    let nobody : account_named state name ≡ None = ap (λ (accounts : List Account). find (λ account. bytes_eq account.name name) accounts) ready.accounts in
    ap (λ (reason : Option Reason). option_map_or (λ reason. Ignored (reason_code reason)) reason (heard_verdict state None message)) (no_reason i state low ready)
    ∙ ap (λ (kind : Option RejectType). option_map_or (λ kind. Rejected (reject_code kind)) kind (Accepted (edit_to_join state (login name)))) (no_limit i state low ready)
    ∙ ap (λ (account : Option Account). Accepted (Join (next_number state.roster) (next_slot state.roster) name (option_map (λ (account : Account). account.account) account) [])) nobody

-- ---- and the next may come

inserted : (xs : List User) (place : ℕ) (user : User) → length (insert xs place user) ≤ length xs + 1
inserted [] zero user = omega arith
inserted [] (suc place) user = omega arith
inserted (x ∷ xs) zero user = omega arith
inserted (x ∷ xs) (suc place) user = let rest = inserted xs place user in omega (arith, rest)

pub ready_next : (i : ℕ) (state : StateValue) → Ready i state → Ready (i + 1) (applied state (comes i state))
ready_next i state ready =
    let new : User = joining (next_number state.roster) (next_slot state.roster) (user_name (i + 1)) None [] in
    let sessions : List User = insert state.roster.sessions (free_slot state.roster) new in
    let last = ready.last in
    let few = ready.few in
    let many = ready.many in
    let longer = inserted state.roster.sessions (free_slot state.roster) new in
    let more : Each (IsNamed (i + 1)) state.roster.sessions = each_so (IsNamed i) (IsNamed (i + 1)) (λ user named. let low = named.1 in (named.0, omega (arith, low), named.2)) state.roster.sessions ready.names in
    record {
      last = omega (arith, last);
      limit = ready.limit;
      many = let same = length-map sessions (λ (user : User). if is_set_anew state.roster.sessions (comes i state) user then heard_anew (set_by state (comes i state)) user else user) in omega (arith, many, longer, same);
      names = applied_descends (IsNamed (i + 1)) (λ user on named. named) state (comes i state) (each_insert (IsNamed (i + 1)) state.roster.sessions (free_slot state.roster) new more (i, omega arith, refl));
      password = ready.password;
      accounts = ready.accounts;
      few = omega (arith, few);
    }
