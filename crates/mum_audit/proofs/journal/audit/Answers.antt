use Rattle.mum_audit.proofs.Law.{answer_is, counts_where_legal}
use Rattle.mum_audit.proofs.journal.audit.Goals as goal

pub returns-clause-legal : goal.returns-clause-legal
returns-clause-legal c =
    let journal = c.args.journal.now in
    counts_where_legal journal c.answer.result (answer_is journal c.answer.result c.in_ok-found.field-0 c.answer.ensures c.in_ok-found.ensures)
