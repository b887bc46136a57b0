use Rattle.mum_tree.proofs.Common.{◌∙◌, List, ap, sym, subst, list_any, Pair, Ordered, is_pair, AreBothWays}
use Rattle.mum_tree.proofs.Joined.{both_made, ordered_made}
use Rattle.mum_tree.proofs.links.join.Goals as goal

pub returns-clause-ordered : goal.returns-clause-ordered
returns-clause-ordered c =
    let links = c.args.links.now.items in
    let unlinked = ap (λ (ps : List Pair). list_any (is_pair c.args.a c.args.b) ps) (sym c.deref.ensures.value) ∙ sym c.has_link.ensures ∙ c.if-has_link.false in
    subst Ordered (sym c.put_link.ensures.made) (ordered_made links c.args.a c.args.b c.requires.both c.if-a-b.false unlinked c.requires.ordered)

pub returns-clause-both : goal.returns-clause-both
returns-clause-both c = subst AreBothWays (sym c.put_link.ensures.made) (both_made c.args.links.now.items c.args.a c.args.b c.requires.both)
