-- Why a login is rejected: the first of these causes that applies.
use Rattle.std.specs.Prelude.{◌≡◌, ◌≢◌, ◌⊎◌, ◌≤◌, ◌<◌, ℕ, ◌-◌, ◌^◌, false, List, [], ◌∷◌, length, Option, Some, None, unwrap_or}
use Rattle.std.specs.List.{All, Contains}
use Rattle.sha2.specs.Sha256.{sha256}
use Rattle.mum_base.specs.declared.outcome.RejectType.{RejectType}
use Rattle.mum_base.specs.declared.outcome.RejectType.TheVariants.{InvalidUsername, ServerFull, UsernameInUse, WrongServerPW, WrongUserPW, WrongVersion}
use Rattle.mum_users.specs.declared.user.User.{User}
use Rattle.mum_part_laws.specs.Firsts.{IsFirst}
use Rattle.mum_msg_state.specs.declared.authenticate.Authenticate.{Authenticate}
use Rattle.mum_state.specs.{Proper.is_name, State.StateValue, State.account_named}
use Rattle.mum_state.specs.declared.{account.Account.Account, edit.Edit.Edit}
use Rattle.mum_state.specs.declared.verdict.Verdict.TheVariants.{Accepted, Rejected}
use Rattle.mum_rules_user.specs.Verdict.{user_verdict}
use Rattle.mum_rules_user.specs.declared.message.UserMessage.TheVariants.{Join}

-- the numbers of Reject.RejectType in Mumble.proto
abbrev pub number : RejectType → ℕ
number WrongVersion = 1
number InvalidUsername = 2
number WrongUserPW = 3
number WrongServerPW = 4
number UsernameInUse = 5
number ServerFull = 6

-- what a name and a password are that are not given
abbrev pub name_in : Authenticate → List ℕ
name_in login = unwrap_or login.username []

abbrev pub password_in : Authenticate → List ℕ
password_in login = unwrap_or login.password []

-- version 1.2.0 is 66,048
abbrev pub AgainstLogin : StateValue → Option ℕ → Authenticate → RejectType → Type 0
AgainstLogin state version login WrongVersion = (n : ℕ) × (version ≡ Some n) × (n < 66048)
AgainstLogin state version login InvalidUsername = is_name (name_in login) ≡ false
AgainstLogin state version login WrongUserPW =
    (account : Account) × (account_named state (name_in login) ≡ Some account)
    × (sha256 (password_in login) ≢ account.digest)
AgainstLogin state version login WrongServerPW =
    (account_named state (name_in login) ≡ None)
    × ((digest : List ℕ) × (state.server.password ≡ Some digest) × (sha256 (password_in login) ≢ digest))
AgainstLogin state version login UsernameInUse =
    (user : User) × Contains state.roster.sessions user × (user.name ≡ name_in login)
AgainstLogin state version login ServerFull =
    (state.roster.limit ≤ length state.roster.sessions) ⊎ (2 ^ 32 - 1 ≤ state.roster.last)

abbrev pub order : List RejectType
order = WrongVersion ∷ InvalidUsername ∷ WrongUserPW ∷ WrongServerPW ∷ UsernameInUse ∷ ServerFull ∷ []

-- a rejection names the first
abbrev pub RejectionsNameTheFirst : Type 0
RejectionsNameTheFirst =
    (state : StateValue) (login : Authenticate) (version : Option ℕ) (kind : ℕ)
    → user_verdict state None (Join login version) ≡ Rejected kind
    → (cause : RejectType) × (kind ≡ number cause) × IsFirst (AgainstLogin state version login) order cause

-- and where one applies, nobody comes in
abbrev pub NobodyComesAgainstOne : Type 0
NobodyComesAgainstOne =
    (state : StateValue) (login : Authenticate) (version : Option ℕ) (edit : Edit)
    → user_verdict state None (Join login version) ≡ Accepted edit
    → All (λ cause. ¬ AgainstLogin state version login cause) order
