use Rattle.mum_kept.proofs.Common.{ROOT, PATH_LIMIT, tree_of}
use Rattle.mum_kept.proofs.ByParents.{order_told}
use Rattle.mum_kept.proofs.order.tree_order.Goals as goal

pub returns : goal.returns
returns c = order_told (tree_of c.args.channels.now) c.deref.result.now _ c.in_ok-ordered.ordered.items _ PATH_LIMIT ROOT c.in_ok-ordered.ensures.items c.deref.ensures.value c.in_ok-listed.ensures.children c.in_ok-add_family.ensures
