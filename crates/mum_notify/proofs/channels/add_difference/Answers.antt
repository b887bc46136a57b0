use Rattle.mum_notify.proofs.Within.{change_fits}
use Rattle.mum_notify.proofs.channels.add_difference.Goals as goal

pub push_difference-requires : goal.push_difference-requires
push_difference-requires c = change_fits c.args.before.now c.args.after.now c.tree-old.result.now c.tree-new.result.now c.args.id c.in-Some.was.now c.in-Some-channel.now.now c.in_ok-told.told c.tree-old.ensures.proper c.tree-new.ensures.proper c.tree-old.ensures.tree c.tree-new.ensures.tree c.in-Some-channel.ensures c.in_ok-told.ensures
