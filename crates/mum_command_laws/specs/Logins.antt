-- Who one is after a login.
use Rattle.std.specs.Prelude.{◌≡◌, ◌≢◌, ℕ, List, [], Option, Some, None, unwrap_or}
use Rattle.std.specs.{List.All, List.Contains, Option.option_map}
use Rattle.sha2.specs.Sha256.{sha256}
use Rattle.mum_base.specs.declared.number.{AccountId.AccountId, SessionId.SessionId, Slot.Slot}
use Rattle.mum_msg_state.specs.declared.authenticate.Authenticate.{Authenticate}
use Rattle.mum_state.specs.declared.{account.Account.Account, edit.Edit.TheVariants.Join as Joins}
use Rattle.mum_state.specs.declared.verdict.Verdict.TheVariants.{Accepted}
use Rattle.mum_state.specs.State.{StateValue, account_named}
use Rattle.mum_rules_user.specs.Verdict.{user_verdict}
use Rattle.mum_rules_user.specs.declared.message.UserMessage.TheVariants.{Join}

-- a login is accepted as this session: its number, slot, name, account and tokens
abbrev pub LogsInAs : StateValue → Authenticate → Option ℕ → SessionId → Slot → List ℕ → Option AccountId
    → List (List ℕ) → Type 0
LogsInAs state login version session slot name account tokens =
    user_verdict state None (Join login version) ≡ Accepted (Joins session slot name account tokens)

-- the session has the name that was given, which is empty where none was, and the account of that name, or none where no
-- account has it
abbrev pub JoinsAsItself : Type 0
JoinsAsItself =
    (state : StateValue) (login : Authenticate) (version : Option ℕ) (session : SessionId) (slot : Slot) (name : List ℕ)
    (account : Option AccountId) (tokens : List (List ℕ))
    → LogsInAs state login version session slot name account tokens
    → (name ≡ unwrap_or login.username []) × (account ≡ option_map (λ one. one.account) (account_named state name))

-- a session with an account: one account with its number and its name has the digest of the password that was given
abbrev pub OwnersKnowThePassword : Type 0
OwnersKnowThePassword =
    (state : StateValue) (login : Authenticate) (version : Option ℕ) (session : SessionId) (slot : Slot) (name : List ℕ)
    (account : AccountId) (tokens : List (List ℕ))
    → LogsInAs state login version session slot name (Some account) tokens
    → (one : Account) × Contains state.accounts one × (one.account ≡ account) × (one.name ≡ name)
    × (one.digest ≡ sha256 (unwrap_or login.password []))

-- a session without an account: no account has its name, and the password that was given is that of the server, if it has
-- one
abbrev pub GuestsAreAsked : Type 0
GuestsAreAsked =
    (state : StateValue) (login : Authenticate) (version : Option ℕ) (session : SessionId) (slot : Slot) (name : List ℕ)
    (tokens : List (List ℕ)) → LogsInAs state login version session slot name None tokens
    → All (λ one. one.name ≢ name) state.accounts
    × ((digest : List ℕ) → state.server.password ≡ Some digest → digest ≡ sha256 (unwrap_or login.password []))
