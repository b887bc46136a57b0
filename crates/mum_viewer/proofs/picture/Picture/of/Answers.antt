use Rattle.mum_viewer.proofs.Common.{sym, subst, Rise, TreeState}
use Rattle.mum_viewer.proofs.picture.Picture.of.Goals as goal

pub shown_channels-requires : goal.shown_channels-requires
shown_channels-requires c = subst (λ (tree : TreeState). Rise tree.channels) (sym c.tree.ensures.tree) c.tree.ensures.proper.tree.rise
