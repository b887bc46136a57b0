use Rattle.mum_tree.proofs.Common.{◌≡◌, ◌∙◌, ap, sym, length, [], eqb-true, nil_from_length, change_of, overlinks, TreeState}
use Rattle.mum_tree.proofs.Partners.{no_link_more}
use Rattle.mum_tree.proofs.tree.Tree.overlinks.Goals as goal

pub returns-then-is_empty : goal.returns-then-is_empty
returns-then-is_empty c =
    let tree : TreeState = record { channels = c.self.inside.rows.items; links = c.self.inside.links.items; greatest = c.self.inside.greatest; limit = c.self.inside.limit } in
    let id = c.args.id in
    let change = change_of c.args.change.now in
    let none : change.links_add ≡ [] = nil_from_length change.links_add (eqb-true (length change.links_add) 0 (sym c.if-is_empty.ensures)) in
    sym (no_link_more tree id change c.self.invariant.proper.rise c.self.invariant.proper.joined none) ∙ ap (λ (t : TreeState). overlinks t id change) c.self.view_is
