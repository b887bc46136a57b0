-- How what was read is gone through: run by run, each of one payload or one header.
use Rattle.std.specs.Prelude.{◌≡◌, ℕ, ◌<◌, ◌≤◌, ◌&&◌, List, length, drop}
use Rattle.mum_pace.specs.declared.frames.Front.{Front}
use Rattle.mum_pace.specs.Places.{Place, after_bytes, are_of_pings, cost_in, is_in_a_ping, plus}

-- the place after the front of what was read, and what that counts for: as each of its bytes in turn
pub record IsFront (old : Place) (read : List ℕ) (front : Front) (new : Place) : Type 0 where
  pub within : front.length ≤ length read
  pub some : 0 < length read → 0 < front.length
  pub place : after_bytes old read ≡ after_bytes new (drop front.length read)
  pub cost : cost_in old read ≡ plus front.cost (cost_in new (drop front.length read))
  pub pings : 0 < length read → are_of_pings old read ≡ (is_in_a_ping new && are_of_pings new (drop front.length read))
