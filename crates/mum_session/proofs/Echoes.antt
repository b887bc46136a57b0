-- What a Ping is written as is short.
use Rattle.mum_session.proofs.Common.{ℕ, ◌≤◌, length, length-append, Option, Some, None, arith, length-shortest, PAYLOAD_LIMIT, ping, spelled}

pub ping_within_limit : (timestamp : Option ℕ) → length (spelled ping (record { timestamp = timestamp })) ≤ PAYLOAD_LIMIT
ping_within_limit None = omega arith
ping_within_limit (Some n) =
    simp (length-append) (omega (arith, length-shortest n, length-shortest 8))
