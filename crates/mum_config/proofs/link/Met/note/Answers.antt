use Rattle.mum_config.proofs.Common.{err_from_is_err_and, out_of_memory}
use Rattle.mum_config.proofs.link.Met.note.Goals as goal

pub returns-in_err-add-clause-reads : goal.returns-in_err-add-clause-reads
returns-in_err-add-clause-reads c =
    let p = err_from_is_err_and c.from_residual.result c.from_residual.ensures.1 in
    rw p.1 (out_of_memory _ _ p.2)
