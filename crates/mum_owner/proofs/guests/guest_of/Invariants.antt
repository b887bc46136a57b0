use Rattle.mum_owner.proofs.Common.{◌≡◌, drop, find, is_of}
use Rattle.mum_owner.proofs.guests.guest_of.Given as goal

abbrev pub invariant-loop-guest : goal.invariant-loop-guest
invariant-loop-guest l = find (is_of l.connection) l.rows ≡ find (is_of l.connection) (drop l.guest-index l.rows)
