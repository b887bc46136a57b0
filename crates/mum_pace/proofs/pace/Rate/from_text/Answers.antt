use Rattle.mum_pace.proofs.Common.{refl, sym, ◌∙◌, number_of}
use Rattle.mum_pace.proofs.Sayings.{no_once, no_rate, rate_is}
use Rattle.mum_pace.proofs.pace.Rate.from_text.Goals as goal

pub returns-in_err-each_second : goal.returns-in_err-each_second
returns-in_err-each_second c = c.from_residual.ensures ∙ sym (no_rate c.args.text.now c.in_err-each_second.ensures)

pub returns-in_err-number : goal.returns-in_err-number
returns-in_err-number c =
    let parts = c.in_ok-each_second in
    c.from_residual-in_err-number.ensures
    ∙ sym (rate_is c.args.text.now parts.each_second.now parts.at_once.now _ _ parts.ensures (sym c.in_err-number.ensures) refl)

pub returns-in_err-number-2 : goal.returns-in_err-number-2
returns-in_err-number-2 c =
    let parts = c.in_ok-each_second in
    c.from_residual-in_err-number-2.ensures
    ∙ sym (rate_is c.args.text.now parts.each_second.now parts.at_once.now _ _ parts.ensures refl (sym c.in_err-number-2.ensures)
    ∙ no_once (number_of parts.each_second.now))

pub returns : goal.returns
returns c =
    let parts = c.in_ok-each_second in
    sym (rate_is c.args.text.now parts.each_second.now parts.at_once.now _ _ parts.ensures (sym c.in_ok-number.ensures) (sym c.in_ok-number-2.ensures))
