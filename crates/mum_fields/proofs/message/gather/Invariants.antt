use Rattle.mum_fields.proofs.Common.{◌≡◌, length, fields, outcome, layout, parts, values_after, rules, gathered}
use Rattle.mum_fields.proofs.message.gather.Given as goal

abbrev pub invariant-loop-message : goal.invariant-loop-message
invariant-loop-message g l =
    let form = layout g.M.Message.rows in
    outcome (rules form) (values_after form (parts g.M.Message.rows l.message)) (fields l.reader) ≡ gathered form (fields l.fn.reader)

abbrev pub decreases-loop-message : goal.decreases-loop-message
decreases-loop-message g l = length l.reader.rest
