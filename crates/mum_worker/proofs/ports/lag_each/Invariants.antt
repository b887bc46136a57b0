use Rattle.mum_worker.proofs.CommonNames.{◌≡◌, ◌≤◌, ◌-◌, length, deque_capacity, SomeAlong, stays, LagsWhereIts, without_room}
use Rattle.mum_worker.proofs.ports.lag_each.Given as goal

abbrev pub invariant-loop-done : goal.invariant-loop-done
invariant-loop-done g l = record {
  within : l.done ≤ l.count;
  all : l.count ≡ length l.fn.list.items;
  some : SomeAlong (LagsWhereIts g.L.Link.facts l.session) stays
      l.fn.list.items (without_room l.fn.kept) l.done l.list.items (without_room l.kept);
  capacity : deque_capacity l.list ≡ deque_capacity l.fn.list;
}

abbrev pub decreases-loop-done : goal.decreases-loop-done
decreases-loop-done g l = l.count - l.done
