-- What an accepted login shows of whoever logs in.
use Rattle.mum_command_laws.proofs.Common.{◌≡◌, ◌≢◌, ℕ, Bool, true, false, true≢false, cond, List, [], ◌∷◌, Option, Some, None, refl, ap, sym, ◌∙◌, subst, arith, ⊎_elim, All, Contains, find, option_map, option_map_or, cases_Bool, not-false, All-cons, All-nil, Contains-append_right, Contains-get_or, bytes_eq-Decides, sha256, reason_code, reject_code, AccountId, SessionId, Slot, Reason, RejectType, Authenticate, StateValue, account_named, Account, Edit, Joins, Accepted, Ignored, Rejected, first_standing, all_off, first_found, something_mapped, edit_to_join, is_digest_of, is_no_guest, is_not_the_owner, limits_of_login, name_given, password_given, reasons, Join, GuestsAreAsked, JoinsAsItself, LogsInAs, OwnersKnowThePassword}
use Rattle.mum_state.specs.State.{is_named}

joined_at : (reason : Option Reason) (limit : Option RejectType) (rest edit : Edit)
    → option_map_or (λ r. Ignored (reason_code r)) reason (option_map_or (λ l. Rejected (reject_code l)) limit (Accepted rest)) ≡ Accepted edit
    → (limit ≡ None) × (rest ≡ edit)
joined_at (Some reason) limit rest edit is = cc
joined_at None (Some limit) rest edit is = cc
joined_at None None rest edit is = (refl, cc)

-- the name and the account of a login
abbrev name_in : Edit → List ℕ
name_in (Joins session slot name account tokens) = name
name_in edit = []

abbrev account_in : Edit → Option AccountId
account_in (Joins session slot name account tokens) = account
account_in edit = None

abbrev number_of : Account → AccountId
number_of one = one.account

-- no limit is against the login; and the name and the account are these
record HasJoined (state : StateValue) (login : Authenticate) (version : Option ℕ) (name : List ℕ) (account : Option AccountId) : Type 0 where
  free : first_standing (limits_of_login state version login) ≡ None
  name_is : name_given login ≡ name
  account_is : option_map number_of (account_named state name) ≡ account

has_joined : (state : StateValue) (login : Authenticate) (version : Option ℕ) (session : SessionId) (slot : Slot) (name : List ℕ)
    (account : Option AccountId) (tokens : List (List ℕ)) → LogsInAs state login version session slot name account tokens
    → HasJoined state login version name account
has_joined state login version session slot name account tokens is =
    let (free, same) = joined_at (first_standing (reasons state None (Join login version))) (first_standing (limits_of_login state version login))
    (edit_to_join state login) (Joins session slot name account tokens) is in
    let name_is : name_given login ≡ name = ap name_in same in record {
      free = free;
      name_is = name_is;
      account_is = ap (λ (given : List ℕ). option_map number_of (account_named state given)) (sym name_is) ∙ ap account_in same;
    }

pub joins_as_itself_lem : JoinsAsItself
joins_as_itself_lem state login version session slot name account tokens is =
    let joined = has_joined state login version session slot name account tokens is in (sym joined.name_is, sym joined.account_is)

-- ---- accounts

found_is_there : {X : Type 0} (p : X → Bool) (xs : List X) (x : X) → find p xs ≡ Some x → Contains xs x × (p x ≡ true)
found_is_there {X} p xs x found =
    let place = first_found p xs x found in (
      subst (λ (l : List X). Contains l x) (sym place.whole)
          (Contains-append_right place.before (x ∷ place.after) x (Contains-get_or (x ∷ place.after) 0 x (omega arith))),
      place.passes,
    )

digest_is : (password digest : List ℕ) → is_digest_of password digest ≡ true → digest ≡ sha256 password
digest_is password digest same = sym ((bytes_eq-Decides (sha256 password) digest).0 same)

pub owners_know_the_password_lem : OwnersKnowThePassword
owners_know_the_password_lem state login version session slot name account tokens is =
    let joined = has_joined state login version session slot name (Some account) tokens is in
    let password = password_given login in
    let (one, found, number) = something_mapped number_of (account_named state name) account joined.account_is in
    let (there, named) = found_is_there (is_named name) state.accounts one found in
    let owns = (all_off (limits_of_login state version login) joined.free).1.1.0 in
    let known : is_digest_of password one.digest ≡ true =
    not-false (is_digest_of password one.digest)
    (sym (ap (λ (o : Option Account). is_not_the_owner o password) (ap (account_named state) joined.name_is ∙ found)) ∙ owns) in
    (one, there, number, (bytes_eq-Decides one.name name).0 named, digest_is password one.digest known)

-- ---- guests

nothing_found : (found : Option Account) → option_map number_of found ≡ None → found ≡ None
nothing_found None none = refl
nothing_found (Some one) none = cc

none_named : (name : List ℕ) (accounts : List Account) → find (is_named name) accounts ≡ None → All (λ one. one.name ≢ name) accounts
none_named name [] none = All-nil (λ one. one.name ≢ name)
none_named name (one ∷ accounts) none =
    ⊎_elim
    (λ (on : is_named name one ≡ true).
    let gone : Some one ≡ None = subst (λ (b : Bool). cond b (Some one) (find (is_named name) accounts) ≡ None) on none in cc)
    (λ (off : is_named name one ≡ false). All-cons (λ a. a.name ≢ name) one accounts
    (λ same. true≢false (sym ((bytes_eq-Decides one.name name).1 same) ∙ off))
    (none_named name accounts (subst (λ (b : Bool). cond b (Some one) (find (is_named name) accounts) ≡ None) off none)))
    (cases_Bool (is_named name one))

guest_known : (found : Option Account) (password digest : List ℕ) (set : Option (List ℕ)) → found ≡ None → set ≡ Some digest
    → is_no_guest found set password ≡ false → is_digest_of password digest ≡ true
guest_known found password digest set none some off =
    not-false (is_digest_of password digest)
    (sym (ap (λ (o : Option (List ℕ)). is_no_guest None o password) some) ∙ (sym (ap (λ (o : Option Account). is_no_guest o set password) none) ∙ off))

pub guests_are_asked_lem : GuestsAreAsked
guests_are_asked_lem state login version session slot name tokens is =
    let joined = has_joined state login version session slot name None tokens is in
    let password = password_given login in
    let none = nothing_found (account_named state name) joined.account_is in
    let asked = (all_off (limits_of_login state version login) joined.free).1.1.1.0 in (
      none_named name state.accounts none,
      λ digest set. digest_is password digest
          (guest_known (account_named state (name_given login)) password digest state.server.password
          (ap (account_named state) joined.name_is ∙ none) set asked),
    )
