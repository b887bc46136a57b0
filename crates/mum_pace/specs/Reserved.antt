-- What a frame reserves of the allowance for long ones.
use Rattle.std.specs.Prelude.{ℕ, ◌==◌, min, nat_le, if◌then◌else◌}
use Rattle.mum_pace.specs.declared.long.TheConstants.{LONG_FRAMES_LIMIT, SHORT_LIMIT}

-- a short frame reserves nothing, a long one all of its payload, and one above the whole allowance all of that
abbrev pub bytes_for : ℕ → ℕ
bytes_for payload = if nat_le payload SHORT_LIMIT then 0 else min payload LONG_FRAMES_LIMIT

-- what is left of a reservation where the frame under way has this payload: all of it or nothing
abbrev pub bytes_kept : ℕ → ℕ → ℕ
bytes_kept bytes payload = if bytes == bytes_for payload then bytes else 0
