use Rattle.mum_rules_tree.proofs.Common.{List, ap, ◌∙◌, ChannelId, Change, change_asked, others, first_standing, limits_of_change, without_parting}
use Rattle.mum_rules_tree.proofs.edit.limit_of_edit.Goals as goal

pub returns : goal.returns
returns c =
    let tree = c.args.tree.now in
    let id = c.args.id in
    let message = c.args.message.now in
    let asked = change_asked tree id message in
    let links = c.as_slice-2.ensures ∙ c.in_ok-links_add.ensures ∙ ap (others id) c.as_slice.ensures in
    c.limit_of_change.ensures
    ∙ ap (λ (change : Change). first_standing (limits_of_change tree id change))
    (c.change_asked-change.ensures.change ∙ ap (λ (ls : List ChannelId). record (without_parting asked) { links_add = ls }) links)
