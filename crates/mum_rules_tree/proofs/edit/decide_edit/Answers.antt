use Rattle.mum_rules_tree.proofs.Common.{◌≡◌, None, Ok, Some, ap, sym, ◌∙◌, subst, IsTrue, actor_of, TreeState, Edit, Accepted, Command, change_asked, all_met, first_standing, limits, limits_of_change, needs, edit_to_change, outcome}
use Rattle.mum_tree.specs.Change.{names_there}
use Rattle.mum_rules_tree.proofs.{Named.are_there, Named.change_there, OneByOne.passed, OneByOne.refused}
use Rattle.mum_rules_tree.proofs.edit.decide_edit.Goals as goal

pub limit_of_edit-requires : goal.limit_of_edit-requires
limit_of_edit-requires c =
    let state = c.args.state.now in
    let id = c.args.id in
    let message = c.args.message.now in
    subst (λ (tree : TreeState). IsTrue (names_there tree id (change_asked tree id message))) (sym c.tree-tree.ensures.tree)
    (change_there state.tree id message c.tree-tree.ensures.proper.tree (are_there state.tree id.0 message c.requires.asked c.requires.named))

pub returns-in-Some : goal.returns-in-Some
returns-in-Some c =
    let state = c.args.state.now in
    let who = actor_of c.args.who.now in
    let id = c.args.id in
    let message = c.args.message.now in
    let command = Command.edit id message in
    let ok : all_met state (needs state.tree who command) ≡ Ok tt = sym c.need_for_edit.ensures ∙ c.in_default.is in
    let same = ap (λ (tree : TreeState). first_standing (limits_of_change tree id (change_asked tree id message))) c.tree-tree.ensures.tree in
    let stands : first_standing (limits state command) ≡ Some c.in-Some.kind = sym (c.in_ok-kind.ensures ∙ same) ∙ c.in-Some.is in
    c.refused.ensures
    ∙ sym (refused state (needs state.tree who command) (limits state command) (outcome state c.args.who.now.session command) c.in-Some.kind ok stands)

pub returns : goal.returns
returns c =
    let state = c.args.state.now in
    let who = actor_of c.args.who.now in
    let actor = c.args.who.now.session in
    let id = c.args.id in
    let message = c.args.message.now in
    let command = Command.edit id message in
    let ok : all_met state (needs state.tree who command) ≡ Ok tt = sym c.need_for_edit.ensures ∙ c.in_default.is in
    let same = ap (λ (tree : TreeState). first_standing (limits_of_change tree id (change_asked tree id message))) c.tree-tree.ensures.tree in
    let none : first_standing (limits state command) ≡ None = sym (c.in_ok-kind.ensures ∙ same) ∙ c.in_default-2.is in
    let edit : c.in_ok-edit.edit ≡ edit_to_change state.tree actor id message = c.in_ok-edit.ensures ∙ ap (λ (tree : TreeState). edit_to_change tree actor id message) c.tree-tree.ensures.tree in
    ap (λ (e : Edit). Accepted e) edit
    ∙ sym (passed state (needs state.tree who command) (limits state command) (outcome state actor command) ok none)
