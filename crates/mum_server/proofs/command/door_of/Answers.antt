-- Three words name a door where each of them is as it is to be.
use Rattle.mum_server.proofs.Common.{◌∙◌, sym, refl, arith, number_within-found}
use Rattle.mum_server.proofs.ServeWords.{door_is, named_of, not_counted}
use Rattle.mum_server.proofs.command.door_of.Goals as goal

pub returns-in_err-number : goal.returns-in_err-number
returns-in_err-number c =
    rw c.from_residual.ensures (λ count asks.
    not_counted c.args.name.now c.args.limit c.args.word.now c.args.address.now c.args.number.now count c.requires (sym c.number_within.ensures ∙ c.in_err-number.was) asks)

pub overflow_cast-result : goal.overflow_cast-result
overflow_cast-result c =
    let found = number_within-found 1 c.args.limit c.args.number.now c.in_ok-number.number (sym c.number_within.ensures ∙ c.in_ok-number.was) in
    let most = found.1 in
    let fits = c.requires in
    omega (arith, most, fits)

pub returns : goal.returns
returns c = (
  refl,
  door_is c.args.name.now c.args.limit c.args.word.now c.args.address.now c.args.number.now c.in_ok-number.number (c.is_word.ensures.0 c.if-not-is_word.false)
      (named_of c.args.address.now c.is_empty.result c.is_empty.ensures c.if-is_empty.false) (sym c.number_within.ensures ∙ c.in_ok-number.was),
)
