use Rattle.mum_route.proofs.Common.{◌≡◌, ◌≤◌, length, take, heard_of}
use Rattle.mum_route.proofs.routes.gather.Given as goal

abbrev pub invariant-loop-i : goal.invariant-loop-i
invariant-loop-i l = record {
  gathered : l.audience ≡ heard_of l.speaker (take l.i l.users) l.reached;
  few : length l.audience ≤ l.i;
}
