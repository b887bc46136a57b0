use Rattle.mum_viewer.proofs.Common.{◌≡◌, ◌-◌, ◌≤◌, length, take, shown_channels}
use Rattle.mum_viewer.proofs.picture.shown_channels.Given as goal

abbrev pub invariant-loop-channel : goal.invariant-loop-channel
invariant-loop-channel l = record {
  front : l.shown.items ≡ take (length l.shown.items) (shown_channels l.tree);
  within : length l.shown.items ≤ length (shown_channels l.tree);
}

abbrev pub decreases-loop-channel : goal.decreases-loop-channel
decreases-loop-channel l = length (shown_channels l.tree) - length l.shown.items
