-- Configurations beside other limits than those of an empty server.
use Rattle.std.specs.Prelude.{ℕ, Bool, true, false, List, IsTrue}
use Rattle.std.specs.List.{filter}
use Rattle.mum_state.specs.declared.edit.Edit.{Edit}
use Rattle.mum_state.specs.declared.edit.Edit.TheVariants.{AddAccount, SetLimits, SetServer}
use Rattle.mum_state.specs.{After.all_fit, Applied.applied, Fits.fits, State.empty_state}

-- whatever limits are set in the empty server, the edits fit after that, one after the other
abbrev pub FitAfterLimits : List Edit → Type 0
FitAfterLimits edits =
    (sessions channels : ℕ) → IsTrue (fits empty_state (SetLimits sessions channels))
    → IsTrue (all_fit (applied empty_state (SetLimits sessions channels)) edits)

-- it sets the server's settings or adds an account, and is about no channel
abbrev pub is_beside_channels : Edit → Bool
is_beside_channels (SetServer welcome bandwidth password) = true
is_beside_channels (AddAccount account name digest) = true
is_beside_channels edit = false

-- the settings and the accounts alone, without the channels and their links
abbrev pub settings_and_accounts : List Edit → List Edit
settings_and_accounts edits = filter is_beside_channels edits
