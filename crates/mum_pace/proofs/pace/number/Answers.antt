use Rattle.mum_pace.proofs.Common.{sym, ◌∙◌}
use Rattle.mum_pace.proofs.Sayings.{no_number, number_unless_0, some_number}
use Rattle.mum_pace.proofs.pace.number.Goals as goal

pub returns-in_err-number : goal.returns-in_err-number
returns-in_err-number c =
    c.from_residual.ensures ∙ sym (number_unless_0 c.args.text.now c.parse.result _ c.parse.ensures.value.0 c.in_err-number.ensures.value)

pub returns-then-number-eq0 : goal.returns-then-number-eq0
returns-then-number-eq0 c =
    sym (number_unless_0 c.args.text.now c.parse.result _ c.parse.ensures.value.0 c.in_ok-number.ensures.value ∙ no_number c.in_ok-number.number c.if-number-eq0.true)

pub returns-else-number-eq0 : goal.returns-else-number-eq0
returns-else-number-eq0 c =
    sym (number_unless_0 c.args.text.now c.parse.result _ c.parse.ensures.value.0 c.in_ok-number.ensures.value ∙ some_number c.in_ok-number.number c.if-number-eq0.false)
