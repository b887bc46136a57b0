-- Who may log in, and with which tokens.
use Rattle.std.specs.Prelude.{ℕ, ◌||◌, not, nat_lt, Bool, false, List, [], ◌∷◌, filter, take, Option}
use Rattle.std.specs.{List.list_any, Option.option_map, Option.option_map_or, Str.bytes_eq}
use Rattle.sha2.specs.Sha256.{sha256}
use Rattle.mum_base.specs.declared.outcome.RejectType.{RejectType}
use Rattle.mum_base.specs.declared.outcome.RejectType.TheVariants.{WrongVersion, InvalidUsername, WrongUserPW, WrongServerPW, UsernameInUse, ServerFull}
use Rattle.mum_users.specs.declared.user.TheConstants.{TOKENS}
use Rattle.mum_users.specs.Sessions.{is_full, is_used_up, next_number, next_slot}
use Rattle.mum_users.specs.State.{RosterState, has_name, is_long_token}
use Rattle.mum_msg_state.specs.declared.authenticate.Authenticate.{Authenticate}
use Rattle.mum_state.specs.declared.{account.Account.Account, edit.Edit.Edit, edit.Edit.TheVariants.Join}
use Rattle.mum_state.specs.{Proper.is_name, State.StateValue, State.account_named}
use Rattle.mum_rules_tree.specs.{Asked.text_or_empty, Decision.Case, Decision.case_of}
use Rattle.mum_rules_user.specs.declared.reject.TheConstants.{OLDEST_VERSION}

-- the tokens at the first places count, and then those that are too long fall out
abbrev pub tokens_kept : List (List ℕ) → List (List ℕ)
tokens_kept given = filter (λ token. not (is_long_token token)) (take TOKENS given)

-- a name and a password that are not given are empty
abbrev pub name_given : Authenticate → List ℕ
name_given message = text_or_empty message.username

abbrev pub password_given : Authenticate → List ℕ
password_given message = text_or_empty message.password

-- a version was sent, and it is older than this server speaks
abbrev pub is_old : Option ℕ → Bool
is_old version = option_map_or (λ number. nat_lt number OLDEST_VERSION) version false

-- the digest is that of the password
abbrev pub is_digest_of : List ℕ → List ℕ → Bool
is_digest_of password digest = bytes_eq (sha256 password) digest

-- the name is an account's, and this is not its password
abbrev pub is_not_the_owner : Option Account → List ℕ → Bool
is_not_the_owner account password = option_map_or (λ one. not (is_digest_of password one.digest)) account false

-- the name is no account's, the server has a password, and this is not it
abbrev pub is_no_guest : Option Account → Option (List ℕ) → List ℕ → Bool
is_no_guest account digest password = option_map_or (λ one. false) account (option_map_or (λ set. not (is_digest_of password set)) digest false)

-- somebody is here under the name; as many are here as may be, or no number is left
abbrev pub limits_of_seat : RosterState → List ℕ → List (Case RejectType)
limits_of_seat roster name =
    case_of UsernameInUse (list_any (has_name name) roster.sessions)
    ∷ case_of ServerFull (is_full roster || is_used_up roster)
    ∷ []

abbrev pub limits_of_login : StateValue → Option ℕ → Authenticate → List (Case RejectType)
limits_of_login state version message =
    let name : List ℕ = name_given message in
    let password : List ℕ = password_given message in
    let account : Option Account = account_named state name in
    case_of WrongVersion (is_old version)
    ∷ case_of InvalidUsername (not (is_name name))
    ∷ case_of WrongUserPW (is_not_the_owner account password)
    ∷ case_of WrongServerPW (is_no_guest account state.server.password password)
    ∷ limits_of_seat state.roster name

-- the next session, in the least free slot, under the name's account if it has one
abbrev pub edit_to_join : StateValue → Authenticate → Edit
edit_to_join state message =
    Join (next_number state.roster) (next_slot state.roster) (name_given message)
    (option_map (λ account. account.account) (account_named state (name_given message))) (tokens_kept message.tokens)
