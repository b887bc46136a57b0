use Rattle.mum_fields.proofs.Common.{◌≡◌, length, map, fields, outcome, Values, values_after, rules, gathered, AreParts, form_of}
use Rattle.mum_fields.proofs.pass.outline_in.Given as goal

abbrev pub invariant-loop-placed : goal.invariant-loop-placed
invariant-loop-placed g l =
    let slots = map g.S.Row.slot l.rows in
    let form = form_of slots in
    (values : Values form) × AreParts slots values l.parts × (outcome (rules form) (values_after form values) (fields l.reader) ≡ gathered form (fields l.fn.reader))

abbrev pub decreases-loop-placed : goal.decreases-loop-placed
decreases-loop-placed g l = length l.reader.rest
