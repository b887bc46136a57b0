use Rattle.mum_rules_tree.proofs.Common.{ap, sym, ◌∙◌, actor_of, all_met}
use Rattle.mum_rules_tree.proofs.Linked.{linking, not_linking}
use Rattle.mum_rules_tree.proofs.edit.need_to_link.Goals as goal

pub returns-then-links_other : goal.returns-then-links_other
returns-then-links_other c =
    let message = c.args.message.now in
    c.need_on_linked.ensures
    ∙ ap (all_met c.args.state.now) (sym (linking (actor_of c.args.who.now) c.args.id message.links_add message.links_remove (sym c.links_other.ensures ∙ c.if-links_other.true)))

pub returns-else-links_other : goal.returns-else-links_other
returns-else-links_other c =
    let message = c.args.message.now in
    ap (all_met c.args.state.now) (sym (not_linking (actor_of c.args.who.now) c.args.id message.links_add message.links_remove (sym c.links_other.ensures ∙ c.if-links_other.false)))
