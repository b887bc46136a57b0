-- The longest front of a text that a ban may have as its reason.
use Rattle.std.specs.Prelude.{◌≡◌, ℕ, ◌≤◌, List, ◌++◌, length, IsUtf8}
use Rattle.mum_bans.specs.declared.limits.TheConstants.{BAN_TEXT_LIMIT}

-- a front of whole characters that is short enough
pub record IsFront (text front : List ℕ) : Type 0 where
  pub rest : List ℕ
  pub begins : text ≡ front ++ rest
  pub whole : IsUtf8 front
  pub short : length front ≤ BAN_TEXT_LIMIT

-- it is one, and none is longer
pub record IsCut (text front : List ℕ) : Type 0 where
  pub is_front : IsFront text front
  pub longest : (other : List ℕ) → IsFront text other → length other ≤ length front
