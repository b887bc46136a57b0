-- How long a link waits whose client has hung up.
use Rattle.std.specs.Prelude.{ℕ, ◌-◌, ◌&&◌, nat_le, Bool, true, false, Option, Some, unwrap_or}
use Rattle.mum_pace.specs.declared.hang_up.TheConstants.{LEFT_BEHIND_LIMIT}

-- since when it waits, if it has to wait at this time
abbrev pub waits_since : Option ℕ → Bool → ℕ → Option ℕ
waits_since since false now = since
waits_since since true now = Some (unwrap_or since now)

-- its client has hung up, and it has waited for as long as it may
abbrev pub has_waited : Option ℕ → Bool → ℕ → Bool
has_waited since has_hung_up now = has_hung_up && nat_le LEFT_BEHIND_LIMIT (now - unwrap_or since now)
