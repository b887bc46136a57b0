use Rattle.mum_record.proofs.Common.{◌≡◌, ◌<◌, ◌^◌, ◌∙◌, sym, arith, inl, inr, None, Some, ◌⊎◌, revision_of}
use Rattle.mum_record.proofs.{Numbers.number_within-none, Numbers.number_within-outside, Numbers.number_within-narrow, words.number_within.Goals.then-number-least-via-then-number-least, words.number_within.Goals.then-number-least-via-else-number-least+then-number-greatest}
use Rattle.mum_record.proofs.words.number_within.Goals as goal

pub returns-in_err-number : goal.returns-in_err-number
returns-in_err-number c =
    let none : revision_of c.args.word.now ≡ None = sym c.number_in.ensures ∙ c.in_err-number.was in
    let fits : c.args.greatest < 2 ^ 64 = omega arith in
    c.from_residual.ensures ∙ sym (number_within-none c.args.least c.args.greatest c.args.word.now fits none)

pub returns-then-number-least : goal.returns-then-number-least
returns-then-number-least c =
    let some : revision_of c.args.word.now ≡ Some c.in_ok-number.number = sym c.number_in.ensures ∙ c.in_ok-number.was in
    let fits : c.args.greatest < 2 ^ 64 = omega arith in
    let out : (c.in_ok-number.number < c.args.least) ⊎ (c.args.greatest < c.in_ok-number.number) =
    elim c.then-number-least.branch [
      | then-number-least-via-then-number-least w ↦ inl (omega (arith, w.if-number-least.true))
      | then-number-least-via-else-number-least+then-number-greatest w ↦ inr (omega (arith, w.if-number-greatest.true))
    ] in
    sym (number_within-outside c.args.least c.args.greatest c.args.word.now c.in_ok-number.number some fits out)

pub returns : goal.returns
returns c =
    let some : revision_of c.args.word.now ≡ Some c.in_ok-number.number = sym c.number_in.ensures ∙ c.in_ok-number.was in
    sym (number_within-narrow c.args.least c.args.greatest c.args.word.now c.in_ok-number.number some (omega arith) (omega arith))
