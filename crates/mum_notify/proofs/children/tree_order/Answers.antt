use Rattle.mum_notify.proofs.Common.{ROOT, PATH_LIMIT}
use Rattle.mum_notify.proofs.ByParent.{order_told}
use Rattle.mum_notify.proofs.children.tree_order.Goals as goal

pub returns : goal.returns
returns c = order_told c.args.tree.now c.deref.result.now _ c.in_ok-ordered.ordered.items _ PATH_LIMIT ROOT c.in_ok-ordered.ensures.items c.deref.ensures.value c.in_ok-listed.ensures.children c.in_ok-add_family.ensures
