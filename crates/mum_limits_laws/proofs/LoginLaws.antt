-- A login is rejected for the first cause that applies.
use Rattle.mum_limits_laws.proofs.Common.{◌≡◌, ◌≢◌, ◌<◌, ℕ, not, List, length, Option, Some, None, refl, sym, ◌∙◌, subst, nat_lt, ◌-◌, ◌^◌, bytes_eq, false≢true, none-some, same_Some, bytes_eq-Decides, sha256, reject_code, RejectType, InvalidUsername, ServerFull, UsernameInUse, WrongServerPW, WrongUserPW, WrongVersion, Authenticate, is_used_up, has_name, User, is_name, StateValue, account_named, first_standing, NoneStands, is_digest_of, is_no_guest, is_not_the_owner, is_old, limits_of_login, Join, logs_in_where_nothing_stands_lem, rejects_for_first_limit_lem, NamesFirst, Tells, tells_any, tells_le, tells_lt, tells_not, tells_off, tells_or, tells_so, AgainstLogin, NobodyComesAgainstOne, RejectionsNameTheFirst, name_in, order, password_in}
use Rattle.mum_users.specs.Sessions.{is_full}
use Rattle.mum_state.specs.declared.account.Account.{Account}
use Rattle.mum_limits_laws.specs.Logins.{number}
use Rattle.mum_limits_laws.proofs.Cases.{first_is, none_applies, table_names}

same_bytes : (xs ys : List ℕ) → Tells (bytes_eq xs ys) (xs ≡ ys)
same_bytes xs ys = record { so = λ is. (bytes_eq-Decides xs ys).0 is; not_so = λ is same. false≢true (sym is ∙ (bytes_eq-Decides xs ys).1 same) }

old : (version : Option ℕ) → Tells (is_old version) ((n : ℕ) × (version ≡ Some n) × (n < 66048))
old None = record { so = λ is. absurd (false≢true is); not_so = λ is some. none-some some.0 some.1 }
old (Some n) =
    tells_so (nat_lt n 66048) (λ (few : n < 66048). (n, refl, few))
    (λ (some : (m : ℕ) × (Some n ≡ Some m) × (m < 66048)). subst (λ (m : ℕ). m < 66048) (sym (same_Some n some.0 some.1)) some.2) (tells_lt n 66048)

not_owner : (account : Option Account) (password : List ℕ) → Tells (is_not_the_owner account password) ((one : Account) × (account ≡ Some one) × (sha256 password ≢ one.digest))
not_owner None password = record { so = λ is. absurd (false≢true is); not_so = λ is some. none-some some.0 some.1 }
not_owner (Some one) password =
    tells_so (not (is_digest_of password one.digest)) (λ (other : sha256 password ≢ one.digest). (one, refl, other))
    (λ (some : (it : Account) × (Some one ≡ Some it) × (sha256 password ≢ it.digest)). subst (λ (it : Account). sha256 password ≢ it.digest) (sym (same_Some one some.0 some.1)) some.2)
    (tells_not (bytes_eq (sha256 password) one.digest) (same_bytes (sha256 password) one.digest))

-- nobody has the name, and the password that is set is another
abbrev Stranger : Option Account → Option (List ℕ) → List ℕ → Type 0
Stranger account set password = (account ≡ None) × ((digest : List ℕ) × (set ≡ Some digest) × (sha256 password ≢ digest))

no_guest : (account : Option Account) (set : Option (List ℕ)) (password : List ℕ) → Tells (is_no_guest account set password) (Stranger account set password)
no_guest (Some one) set password = record { so = λ is. absurd (false≢true is); not_so = λ is both. none-some one (sym both.0) }
no_guest None None password = record { so = λ is. absurd (false≢true is); not_so = λ is both. none-some both.1.0 both.1.1 }
no_guest None (Some digest) password =
    tells_so (not (is_digest_of password digest)) (λ (other : sha256 password ≢ digest). (refl, (digest, refl, other)))
    (λ (both : Stranger None (Some digest) password). subst (λ (it : List ℕ). sha256 password ≢ it) (sym (same_Some digest both.1.0 both.1.1)) both.1.2)
    (tells_not (bytes_eq (sha256 password) digest) (same_bytes (sha256 password) digest))

names : (state : StateValue) (version : Option ℕ) (login : Authenticate) → NamesFirst (AgainstLogin state version login) order (first_standing (limits_of_login state version login))
names state version login =
    let name : List ℕ = name_in login in
    let password : List ℕ = password_in login in
    table_names (AgainstLogin state version login) (limits_of_login state version login) (
      old version,
      (λ _. (
        tells_off (is_name name),
        (λ _. (
          not_owner (account_named state name) password,
          (λ _. (
            no_guest (account_named state name) state.server.password password,
            (λ _. (
              tells_any (has_name name) (λ (user : User). user.name ≡ name) (λ user. same_bytes user.name name) state.roster.sessions,
              (λ _. (
                tells_or (is_full state.roster) (is_used_up state.roster) (tells_le state.roster.limit (length state.roster.sessions)) (tells_le (2 ^ 32 - 1) state.roster.last),
                (λ _. tt),
              )),
            )),
          )),
        )),
      )),
    )

same_number : (cause : RejectType) → reject_code cause ≡ number cause
same_number WrongVersion = refl
same_number InvalidUsername = refl
same_number WrongUserPW = refl
same_number WrongServerPW = refl
same_number UsernameInUse = refl
same_number ServerFull = refl

pub rejections_lem : RejectionsNameTheFirst
rejections_lem state login version kind is =
    let first = (rejects_for_first_limit_lem state login version kind is).1 in
    (first.0, first.1 ∙ same_number first.0, first_is (AgainstLogin state version login) order (limits_of_login state version login) first.0 (names state version login) first.2)

pub nobody_comes_lem : NobodyComesAgainstOne
nobody_comes_lem state login version edit is =
    let all = logs_in_where_nothing_stands_lem state (Join login version) edit is in
    let same : all.0 ≡ login = joins all.0 login all.1 version (sym all.2) in
    let also : all.1 ≡ version = versions all.0 login all.1 version (sym all.2) in
    none_applies (AgainstLogin state version login) order (limits_of_login state version login) (names state version login)
    (subst (λ (one : Authenticate). NoneStands (limits_of_login state version one)) same (subst (λ (one : Option ℕ). NoneStands (limits_of_login state one all.0)) also all.4))
  where
    joins : (one other : Authenticate) (v w : Option ℕ) → Join one v ≡ Join other w → one ≡ other
    joins one other v w is = cc

    versions : (one other : Authenticate) (v w : Option ℕ) → Join one v ≡ Join other w → v ≡ w
    versions one other v w is = cc
