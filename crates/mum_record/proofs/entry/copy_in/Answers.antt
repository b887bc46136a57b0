use Rattle.mum_record.proofs.Common.{◌∙◌, sym, ap, ◌∷◌, List, ℕ}
use Rattle.mum_record.proofs.Slashes.{copy_of-one, copy_of-two, copy_of-parts}
use Rattle.mum_record.proofs.entry.copy_in.Goals as goal

pub returns-in_err-session : goal.returns-in_err-session
returns-in_err-session c = c.from_residual.ensures ∙ sym (copy_of-one c.args.word.now c.in_err-session.ensures)

pub returns-in_err-context : goal.returns-in_err-context
returns-in_err-context c =
    c.from_residual-in_err-context.ensures ∙ sym (copy_of-two c.args.word.now c.in_ok-session.session.now c.in_ok-session.rest.now c.in_ok-session.ensures c.in_err-context.ensures)

pub returns : goal.returns
returns c =
    c.copy_with.ensures ∙ sym (copy_of-parts c.args.word.now c.in_ok-session.session.now c.in_ok-context.context.now c.in_ok-context.mark.now
    (c.in_ok-session.ensures ∙ ap (λ (ws : List (List ℕ)). c.in_ok-session.session.now ∷ ws) c.in_ok-context.ensures))
