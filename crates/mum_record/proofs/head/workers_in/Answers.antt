use Rattle.mum_record.proofs.Common.{◌∙◌, sym, arith}
use Rattle.mum_record.proofs.Numbers.{number_within-found}
use Rattle.mum_record.proofs.head.workers_in.Goals as goal

pub overflow_cast-result : goal.overflow_cast-result
overflow_cast-result c =
    let found = number_within-found 1 _ _ c.in_ok-workers.workers (sym c.number_within.ensures ∙ c.in_ok-workers.was) in
    omega (arith, found.1)
