-- A server password that is given is asked for.
use Rattle.std.specs.Prelude.{◌≡◌, ◌≢◌, ◌⊎◌, ℕ, List, [], Option, Some, None, codes, unwrap_or}
use Rattle.serde_json.specs.{Data.Data, Data.string, Find.get}
use Rattle.sha2.specs.Sha256.{sha256}
use Rattle.mum_msg_state.specs.declared.authenticate.Authenticate.{Authenticate}
use Rattle.mum_state.specs.State.{StateValue}
use Rattle.mum_state.specs.declared.verdict.Verdict.{Verdict, TheVariants.Ignored, TheVariants.Rejected}
use Rattle.mum_rules_user.specs.Verdict.{user_verdict}
use Rattle.mum_rules_user.specs.declared.message.UserMessage.TheVariants.{Join}
use Rattle.mum_config_laws.specs.{Opened.OfConfigurations, Values.IsDigest, Values.IsListed}

-- no account of the document has the name
abbrev pub IsOfNoAccount : Data → List ℕ → Type 0
IsOfNoAccount document name =
    (value : Data) → IsListed (codes "accounts") document value → get (codes "name") value ≢ Some (string name)

-- Rejected with 4, a wrong password of the server; or already because of the version or the name, or ignored.
abbrev pub IsTurnedAway : Verdict → Type 0
IsTurnedAway verdict =
    (verdict ≡ Rejected 4) ⊎ ((verdict ≡ Rejected 1) ⊎ (verdict ≡ Rejected 2)) ⊎ ((why : ℕ) × (verdict ≡ Ignored why))

-- whoever logs in under a name of no account, and does not know the password that is given, is turned away, as long as the
-- settings and the accounts are those of the configuration
abbrev pub ThePasswordIsAskedFor : Type 0
ThePasswordIsAskedFor = OfConfigurations (λ document config first opened.
    (value : Data) (digest : List ℕ) → get (codes "server_password_sha256") document ≡ Some value → IsDigest value digest
    → (state : StateValue) → state.server ≡ opened.server → state.accounts ≡ opened.accounts
    → (login : Authenticate) (version : Option ℕ) → IsOfNoAccount document (unwrap_or login.username [])
    → sha256 (unwrap_or login.password []) ≢ digest
    → IsTurnedAway (user_verdict state None (Join login version)))
