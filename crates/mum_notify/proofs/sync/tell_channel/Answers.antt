use Rattle.mum_notify.proofs.Common.{refl, channel_told}
use Rattle.mum_notify.proofs.Within.{channel_fits}
use Rattle.mum_notify.proofs.sync.tell_channel.Goals as goal

pub frame_of_channel-requires : goal.frame_of_channel-requires
frame_of_channel-requires c = channel_fits c.args.state.now c.tree-tree.result.now c.args.id c.in-Some.channel.now (channel_told c.in-Some.channel.now) c.tree-tree.ensures.proper c.tree-tree.ensures.tree c.in-Some.ensures refl
