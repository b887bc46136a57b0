use Rattle.mum_notify.proofs.Common.{◌≡◌, map, take, flat_map, channel_difference, channel_frame}
use Rattle.mum_notify.proofs.channels.differences.Given as goal

abbrev pub invariant-loop-id : goal.invariant-loop-id
invariant-loop-id l = l.frames.items ≡ map channel_frame (flat_map (channel_difference l.before.tree l.after.tree) (take l.id-index l.ids))
