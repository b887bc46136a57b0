use Rattle.mum_fields.proofs.Common.{◌≡◌, false, sym, ap, ◌∙◌, form_of, label_of, number_of, is_set, map}
use Rattle.mum_fields.proofs.{Kept.set-missing, Passes.missing-required, Passes.missing-other, Passes.missing-unset}
use Rattle.mum_fields.proofs.pass.missing_of.Goals as goal

pub returns-then-part-gt0 : goal.returns-then-part-gt0
returns-then-part-gt0 g c = λ held is values are. set-missing (g.S.Row.slot c.args.row.now) held c.args.part.now (is_set (form_of (map g.S.Row.slot c.args.others.now)) values) is c.if-part-gt0.true

pub returns-in-Required : goal.returns-in-Required
returns-in-Required g c = λ held is values are.
    missing-required (g.S.Row.slot c.args.row.now) held c.args.part.now (is_set (form_of (map g.S.Row.slot c.args.others.now)) values) c.number.result is c.if-part-gt0.false c.in-Required.ensures c.number.ensures

pub returns-else-is_set : goal.returns-else-is_set
returns-else-is_set g c = λ held is values are.
    missing-other (g.S.Row.slot c.args.row.now) held c.args.part.now (is_set (form_of (map g.S.Row.slot c.args.others.now)) values) c.number-else-is_set.result c.in-RequiredOr.other is c.if-part-gt0.false c.in-RequiredOr.ensures c.number-else-is_set.ensures (sym (c.if-is_set.ensures values are))

pub returns-in_default : goal.returns-in_default
returns-in_default g c = λ held is values are.
    missing-unset (g.S.Row.slot c.args.row.now) held c.args.part.now (is_set (form_of (map g.S.Row.slot c.args.others.now)) values) c.label.result is c.if-part-gt0.false c.label.ensures c.in_default.not-Required c.in_default.not-RequiredOr
