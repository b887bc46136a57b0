use Rattle.mum_users.proofs.Common.{◌≡◌, ◌++◌, drop, map, take, list_any, is_moved, with_placement}
use Rattle.mum_users.proofs.placing.place_each.Given as goal

abbrev pub invariant-loop-user : goal.invariant-loop-user
invariant-loop-user g l = record {
  users : l.user-items ≡ map (with_placement (g.S.Placements.placement_of l.placements)) (take l.user-index l.initial.user-items) ++ drop l.user-index l.initial.user-items;
  moved : l.moved ≡ list_any (is_moved (g.S.Placements.placement_of l.placements)) (take l.user-index l.initial.user-items);
}
