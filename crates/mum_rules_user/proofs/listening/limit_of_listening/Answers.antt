use Rattle.mum_rules_user.proofs.Common.{◌≡◌, Some, None, ap, sym, ◌∙◌, option_map, edit_fault, user_edit_of, DenyType, listening_type_of}
use Rattle.mum_rules_user.proofs.Listened.{listening_by_cause}
use Rattle.mum_rules_user.proofs.listening.limit_of_listening.Goals as goal

pub returns-in-Some : goal.returns-in-Some
returns-in-Some c =
    let roster = c.args.roster.now in
    let change = user_edit_of c.listening_too-change.result in
    let found : edit_fault roster c.args.session change ≡ Some c.in-Some.fault = sym c.cause_against_editing.ensures ∙ c.in-Some.is in
    ap (λ (kind : DenyType). Some kind) c.listening_type_of.ensures
    ∙ sym (ap (option_map listening_type_of) found)
    ∙ listening_by_cause roster c.args.session change c.args.listen.now c.listening_too-change.ensures.listen (c.listening_too-change.ensures.unlisten ∙ c.new-none.ensures) c.requires

pub returns : goal.returns
returns c =
    let roster = c.args.roster.now in
    let change = user_edit_of c.listening_too-change.result in
    let none : edit_fault roster c.args.session change ≡ None = sym c.cause_against_editing.ensures ∙ c.in-None.is in
    sym (ap (option_map listening_type_of) none)
    ∙ listening_by_cause roster c.args.session change c.args.listen.now c.listening_too-change.ensures.listen (c.listening_too-change.ensures.unlisten ∙ c.new-none.ensures) c.requires
