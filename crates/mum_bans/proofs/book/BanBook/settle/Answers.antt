use Rattle.mum_bans.proofs.Common.{◌≤◌, ℕ, List, length, sym, ap, subst, ◌∙◌, PAYLOAD_LIMIT, answer}
use Rattle.mum_bans.proofs.{Sizes.answer_fits, Soundness.set_sound}
use Rattle.mum_bans.proofs.book.BanBook.settle.Goals as goal

pub returns-then-unwrap_or-clause-fits : goal.returns-then-unwrap_or-clause-fits
returns-then-unwrap_or-clause-fits c =
    let is = c.in_ok-answer.ensures ∙ ap answer c.bans.ensures.bans in
    subst (λ (payload : List ℕ). length payload ≤ PAYLOAD_LIMIT) (sym is) (answer_fits c.args.self.now.bans c.bans.ensures.sound)

pub invariant_of-self : goal.invariant_of-self
invariant_of-self c =
    let after = c.replace.ensures.after in (
      rw (after, c.in_ok-bans.ensures.bans, c.as_slice.ensures) (set_sound c.bans-2.result.now c.args.moment c.args.list.now (sym c.is_sound.ensures ∙ c.if-not-is_sound.false)),
      λ x some. rw after c.in_ok-bans.ensures.room,
      c.self.invariant.2,
    )
