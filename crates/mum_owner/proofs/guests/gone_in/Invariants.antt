use Rattle.mum_owner.proofs.Common.{◌≡◌, drop, find, current, is_gone_from}
use Rattle.mum_owner.proofs.guests.gone_in.Given as goal

abbrev pub invariant-loop-guest : goal.invariant-loop-guest
invariant-loop-guest g l = find (is_gone_from (current l.control) l.slot) l.rows ≡ find (is_gone_from (current l.control) l.slot) (drop l.guest-index l.rows)
