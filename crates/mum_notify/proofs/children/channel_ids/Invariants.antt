use Rattle.mum_notify.proofs.Common.{◌≡◌, ◌-◌, ◌≤◌, length, take, channel_ids}
use Rattle.mum_notify.proofs.children.channel_ids.Given as goal

abbrev pub invariant-loop-id : goal.invariant-loop-id
invariant-loop-id l = record {
  front : l.ids.items ≡ take (length l.ids.items) (channel_ids l.tree);
  within : length l.ids.items ≤ length (channel_ids l.tree);
}

abbrev pub decreases-loop-id : goal.decreases-loop-id
decreases-loop-id l = length (channel_ids l.tree) - length l.ids.items
