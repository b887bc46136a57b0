use Rattle.mum_owner.proofs.Common.{◌≡◌, ◌++◌, drop, map, take, seated}
use Rattle.mum_owner.proofs.guests.seat_in.Given as goal

abbrev pub invariant-loop-guest : goal.invariant-loop-guest
invariant-loop-guest l =
    l.guest-items ≡ map (seated l.connection l.session l.slot) (take l.guest-index l.initial.guest-items) ++ drop l.guest-index l.initial.guest-items
