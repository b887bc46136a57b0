use Rattle.std.proofs.Common.{◌∙◌, sym, arith}
use Rattle.mum_record.proofs.Public.{number_within-found}
use Rattle.murmur_why.proofs.words.place_in.Goals as goal

pub overflow_cast-result : goal.overflow_cast-result
overflow_cast-result c =
    let found = number_within-found 0 _ c.args.word.now c.in_ok-number.number (sym c.number_within.ensures ∙ c.in_ok-number.was) in
    omega (arith, found.1)
