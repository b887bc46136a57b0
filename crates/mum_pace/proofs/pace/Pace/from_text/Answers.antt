use Rattle.mum_pace.proofs.Common.{refl, sym, ◌∙◌, rate_of}
use Rattle.mum_pace.proofs.Sayings.{no_limits, no_pace, no_voice, pace_is}
use Rattle.mum_pace.proofs.pace.Pace.from_text.Goals as goal

pub returns-then-eq : goal.returns-then-eq
returns-then-eq c = sym (no_limits c.args.text.now (sym c.if-eq.ensures))

pub returns-in_err-messages : goal.returns-in_err-messages
returns-in_err-messages c = c.from_residual.ensures ∙ sym (no_pace c.args.text.now (sym c.if-eq.ensures) c.in_err-messages.ensures)

pub returns-in_err-from_text : goal.returns-in_err-from_text
returns-in_err-from_text c =
    let parts = c.in_ok-messages in
    c.from_residual-in_err-from_text.ensures
    ∙ sym (pace_is c.args.text.now parts.messages.now parts.voice.now _ _ (sym c.if-eq.ensures) parts.ensures (sym c.in_err-from_text.ensures) refl)

pub returns-in_err-from_text-2 : goal.returns-in_err-from_text-2
returns-in_err-from_text-2 c =
    let parts = c.in_ok-messages in
    c.from_residual-in_err-from_text-2.ensures
    ∙ sym (pace_is c.args.text.now parts.messages.now parts.voice.now _ _ (sym c.if-eq.ensures) parts.ensures refl (sym c.in_err-from_text-2.ensures)
    ∙ no_voice (rate_of parts.messages.now))

pub returns : goal.returns
returns c =
    let parts = c.in_ok-messages in
    sym (pace_is c.args.text.now parts.messages.now parts.voice.now _ _ (sym c.if-eq.ensures) parts.ensures (sym c.in_ok-from_text.ensures) (sym c.in_ok-from_text-2.ensures))
