use Rattle.mum_notify.proofs.Common.{refl, channel_told}
use Rattle.mum_notify.proofs.Within.{new_channel_fits}
use Rattle.mum_notify.proofs.channels.new_channel_frames.Goals as goal

pub frame_of_channel-requires : goal.frame_of_channel-requires
frame_of_channel-requires c = new_channel_fits c.args.after.now c.args.edit.now c.tree-tree.result.now c.in-Some.channel.now (channel_told c.in-Some.channel.now) c.tree-tree.ensures.proper c.tree-tree.ensures.tree c.in-Some.ensures refl
