use Rattle.mum_worker.proofs.CommonNames.{◌≡◌, ◌≤◌, ◌-◌, false, length, take, drop, filter, All, deque_capacity, Along, stays, bare, OwnsPasses, PortSteps}
use Rattle.mum_worker.proofs.ports.step_all.Given as goal

abbrev pub invariant-loop-done : goal.invariant-loop-done
invariant-loop-done g l = record {
  within : l.done ≤ l.count;
  all : l.count ≡ length l.fn.list.items;
  same : l.count ≡ length l.list.items;
  along : Along (PortSteps g.L.Link.facts g.N.Naming.opening l.boxes)
      (take l.done l.fn.list.items) (record { common = bare l.fn.common; desk = l.fn.desk; worked = l.heard })
      (take l.done l.list.items) (record { common = bare l.common; desk = l.desk; worked = l.worked });
  rest : drop l.done l.list.items ≡ drop l.done l.fn.list.items;
  staying : l.gone ≡ false → filter stays (take l.done l.list.items) ≡ take l.done l.list.items;
  owned : All (OwnsPasses l.boxes) l.list.items;
  capacity : deque_capacity l.list ≡ deque_capacity l.fn.list;
}

abbrev pub decreases-loop-done : goal.decreases-loop-done
decreases-loop-done g l = l.count - l.done
