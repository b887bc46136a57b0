use Rattle.mum_owner.proofs.Common.{◌≡◌, ◌++◌, drop, map, take, lag_noted}
use Rattle.mum_owner.proofs.guests.note_lag_in.Given as goal

abbrev pub invariant-loop-guest : goal.invariant-loop-guest
invariant-loop-guest l =
    l.guest-items ≡ map (lag_noted l.connection) (take l.guest-index l.initial.guest-items) ++ drop l.guest-index l.initial.guest-items
