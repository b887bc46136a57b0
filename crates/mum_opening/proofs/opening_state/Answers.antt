-- The edits fit after the limits, and lead to where both lead in one list.
use Rattle.std.proofs.lemmas.Result.{IfOk-weaker}
use Rattle.mum_opening.proofs.Limited.{fit_after, led_after}
use Rattle.mum_opening.proofs.opening_state.Goals as goal

pub state_from-requires : goal.state_from-requires
state_from-requires c =
    fit_after c.in-Some.limits c.limits_edit.result c.args.edits.now c.in_ok-limited.limited c.requires.limited c.limits_edit.ensures.fits c.limits_edit.ensures.edit c.in_ok-limited.ensures

pub returns : goal.returns
returns c =
    rw c.in-Some.is (
    IfOk-weaker c.state_from.result _ _
    (λ led is. led_after c.in-Some.limits c.limits_edit.result c.args.edits.now c.in_ok-limited.limited led c.limits_edit.ensures.edit c.in_ok-limited.ensures is)
    c.state_from.ensures
    )
