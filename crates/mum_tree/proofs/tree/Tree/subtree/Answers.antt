use Rattle.mum_tree.proofs.Common.{◌∙◌, List, ap, Row, TreeState, below}
use Rattle.mum_tree.proofs.tree.Tree.subtree.Goals as goal

pub returns : goal.returns
returns c =
    c.mark_below.ensures
    ∙ ap (λ (seen : List Row). below (record { channels = seen; links = c.self.inside.links.items; greatest = c.self.inside.greatest; limit = c.self.inside.limit }) c.args.id) c.deref.ensures.value
    ∙ ap (λ (tree : TreeState). below tree c.args.id) c.self.view_is
