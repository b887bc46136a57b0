use Rattle.mum_owner.proofs.Common.{◌≡◌, drop, find, may_lag}
use Rattle.mum_owner.proofs.guests.lagging_in.Given as goal

abbrev pub invariant-loop-guest : goal.invariant-loop-guest
invariant-loop-guest l = find (may_lag l.session) l.rows ≡ find (may_lag l.session) (drop l.guest-index l.rows)
