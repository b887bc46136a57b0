use Rattle.mum_owner.proofs.Common.{◌≡◌, drop, guest_with}
use Rattle.mum_owner.proofs.guests.guest_with.Given as goal

abbrev pub invariant-loop-guest : goal.invariant-loop-guest
invariant-loop-guest l = guest_with l.session l.rows ≡ guest_with l.session (drop l.guest-index l.rows)
