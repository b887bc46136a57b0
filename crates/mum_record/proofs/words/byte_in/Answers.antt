use Rattle.mum_record.proofs.Common.{◌∙◌, sym, arith}
use Rattle.mum_record.proofs.Numbers.{number_within-found}
use Rattle.mum_record.proofs.words.byte_in.Goals as goal

pub overflow_cast-result : goal.overflow_cast-result
overflow_cast-result c =
    let found = number_within-found 0 _ c.args.word.now c.in_ok-number.number (sym c.number_within.ensures ∙ c.in_ok-number.was) in
    omega (arith, found.1)
