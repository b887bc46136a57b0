use Rattle.mum_viewer.proofs.Common.{◌≡◌, ◌≤◌, ◌-◌, length, take, drop, deque_capacity, Along, ViewMoves}
use Rattle.mum_viewer.proofs.list.step_all.Given as goal

abbrev pub invariant-loop-done : goal.invariant-loop-done
invariant-loop-done g l = record {
  within : l.done ≤ l.count;
  all : l.count ≡ length l.fn.list.items;
  same : l.count ≡ length l.list.items;
  along : Along (ViewMoves g.L.Link.facts)
      (take l.done l.fn.list.items) l.fn.before (take l.done l.list.items) l.counted;
  rest : drop l.done l.list.items ≡ drop l.done l.fn.list.items;
  capacity : deque_capacity l.list ≡ deque_capacity l.fn.list;
}

abbrev pub decreases-loop-done : goal.decreases-loop-done
decreases-loop-done g l = l.count - l.done
