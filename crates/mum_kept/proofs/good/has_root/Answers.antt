use Rattle.mum_kept.proofs.Common.{sym, tree_rows}
use Rattle.mum_kept.proofs.Goodness.{no_root, root_is}
use Rattle.mum_kept.proofs.good.has_root.Goals as goal

pub returns-in-Some : goal.returns-in-Some
returns-in-Some c = root_is (tree_rows c.args.channels.now) c.in-Some.root.now c.is_named_root.result (sym (c.in-Some.ensures {u = tt})) c.is_named_root.ensures

pub returns-in-None : goal.returns-in-None
returns-in-None c = no_root (tree_rows c.args.channels.now) (sym (c.in-None.ensures {u = tt}))
