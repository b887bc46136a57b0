use Rattle.mum_document.proofs.Common.{err_from_is_err_and}
use Rattle.mum_document.proofs.First.{out_of_memory}
use Rattle.mum_document.proofs.group.read_groups.Goals as goal

pub returns-in_err-groups : goal.returns-in_err-groups
returns-in_err-groups c =
    let p = err_from_is_err_and c.from_residual.result c.from_residual.ensures.1 in
    rw p.1 (out_of_memory _ _ p.2)
