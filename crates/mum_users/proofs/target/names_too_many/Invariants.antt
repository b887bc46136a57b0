use Rattle.mum_users.proofs.Common.{◌≡◌, ◌≤◌, length, take, sum_by, TARGET_SESSIONS}
use Rattle.mum_users.proofs.target.names_too_many.Given as goal

abbrev pub invariant-loop-item : goal.invariant-loop-item
invariant-loop-item l = record {
  counted : l.named ≡ sum_by (λ item. length item.sessions) (take l.item-index l.items);
  within : l.named ≤ TARGET_SESSIONS;
}
