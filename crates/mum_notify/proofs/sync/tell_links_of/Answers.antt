use Rattle.mum_notify.proofs.Within.{links_fits}
use Rattle.mum_notify.proofs.sync.tell_links_of.Goals as goal

pub push_links-requires : goal.push_links-requires
push_links-requires c = links_fits c.args.state.now c.tree-tree.result.now c.args.id c.in_ok-told.told c.tree-tree.ensures.proper c.tree-tree.ensures.tree c.in_ok-told.ensures
