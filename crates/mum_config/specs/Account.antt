-- Accounts.
use Rattle.std.specs.Prelude.{ℕ, ◌==◌, List, [], ◌∷◌, ◌++◌, Option, codes, unwrap_or}
use Rattle.std.specs.{List.list_any, Option.option_map}
use Rattle.serde_json.specs.{Data.Data, Find.get}
use Rattle.mum_state.specs.declared.edit.Edit.{Edit, TheVariants.AddAccount}
use Rattle.mum_document.specs.declared.fault.ConfigFault.TheVariants.{Twice}
use Rattle.mum_document.specs.Fault.{Fault, against}
use Rattle.mum_document.specs.Object.{Row, new_name_rows, number_at, object_fault, text_at}
use Rattle.mum_document.specs.Value.{digest_fault, digest_of, greatest, needed, number_fault}

-- the numbers and the names of the accounts so far
pub record AccountsMet : Type 0 where
  pub numbers : List ℕ
  pub names : List (List ℕ)

abbrev pub no_accounts : AccountsMet
no_accounts = record { numbers = []; names = [] }

abbrev pub account_number : Data → ℕ
account_number value = number_at (codes "id") 0 value

abbrev pub account_name : Data → List ℕ
account_name value = text_at (codes "name") value

abbrev pub account_names : List (List ℕ)
account_names = codes "id" ∷ codes "name" ∷ codes "password_sha256" ∷ []

abbrev pub account_rows : AccountsMet → Data → List Row
account_rows met value =
    (codes "id", needed (number_fault 0 greatest) (get (codes "id") value))
    ∷ (codes "id", against Twice (list_any (λ number. account_number value == number) met.numbers))
    ∷ new_name_rows met.names value
    ++ (codes "password_sha256", needed digest_fault (get (codes "password_sha256") value))
    ∷ []

unfoldable pub account_fault : AccountsMet → Data → Option Fault
account_fault met value = object_fault account_names (account_rows met value) value

-- the account is met
abbrev pub with_account_met : AccountsMet → Data → AccountsMet
with_account_met met value = record {
  numbers = met.numbers ++ account_number value ∷ [];
  names = met.names ++ account_name value ∷ [];
}

-- what an account's `password_sha256` encodes
abbrev pub digest_at : List ℕ → Data → Option (List ℕ)
digest_at name value = option_map digest_of (get name value)

unfoldable pub account_edit : Data → Edit
account_edit value = AddAccount (record { 0 = account_number value }) (account_name value) (unwrap_or (digest_at (codes "password_sha256") value) [])
