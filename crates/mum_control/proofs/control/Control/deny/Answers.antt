use Rattle.mum_control.proofs.Common.{◌∙◌, Some, ap, inl, inr, refl, subst, sym, IsTrue, Mark, ReplyEnd, is_admitted, next_revision, ControlFacts}
use Rattle.mum_control.proofs.Settling.{denied_admits_none, mark_of_denied, reply_so}
use Rattle.mum_control.proofs.control.Control.deny.Goals as goal

-- its end reports no login
pub new-requires-clause-admitted : goal.new-requires-clause-admitted
new-requires-clause-admitted g c =
    subst (λ (e : ReplyEnd). IsTrue (is_admitted e c.args.connection c.roll-roll.result.log)) (sym c.end_of-end.ensures)
    (denied_admits_none c.args.denied c.args.connection c.roll-roll.result.log c.requires)

pub returns-in-Ok : goal.returns-in-Ok
returns-in-Ok g c =
    let old = c.args.self.now in
    let told = c.mark_of-mark.result in
    inr (
      ap (λ (k : ControlFacts). record k { mark = Some told }) c.self.view_is
          ∙ ap (λ (m : Mark). record old { mark = Some m }) (c.mark_of-mark.ensures ∙ mark_of_denied 0 (next_revision old) c.args.denied c.requires),
      c.new.ensures ∙ reply_so _ _ _ _ _ _ _ _ _ _ _ _ refl c.end_of-end.ensures refl c.in-Ok.ensures refl c.roll-roll.ensures.log,
    )

pub returns-in-Err : goal.returns-in-Err
returns-in-Err g c = inl c.refuse.ensures
