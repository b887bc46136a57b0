use Rattle.mum_rules_tree.proofs.Common.{Bool, Option, ap, ◌∙◌, TreeFault, change_of, fault_of_edit, holds_of_given, is_name, limit_by_cause}
use Rattle.mum_rules_tree.proofs.ByCause.{by_cause}
use Rattle.mum_rules_tree.proofs.edit.limit_of_change.Goals as goal

pub returns : goal.returns
returns c =
    let change = change_of c.args.change.now in
    let fault = fault_of_edit c.args.tree.now c.args.id change in
    let named = c.is_name_given-named.result in
    let short = c.is_text_given-short.result in
    c.limit_by_cause.ensures
    ∙ ap (λ (f : Option TreeFault). limit_by_cause f named short) c.cause_against_editing-cause.ensures
    ∙ ap (λ (b : Bool). limit_by_cause fault b short) c.is_name_given-named.ensures
    ∙ ap (λ (b : Bool). limit_by_cause fault (holds_of_given is_name change.name) b) c.is_text_given-short.ensures
    ∙ by_cause c.args.tree.now c.args.id change c.requires.there c.requires.none_goes
