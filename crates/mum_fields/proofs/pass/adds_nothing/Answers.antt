use Rattle.mum_fields.proofs.Common.{◌∙◌}
use Rattle.mum_fields.proofs.{Passes.missing-unset, Sums.none-tested}
use Rattle.mum_fields.proofs.pass.adds_nothing.Goals as goal

pub returns-in_default-clause-missing : goal.returns-in_default-clause-missing
returns-in_default-clause-missing g c = λ yes held is f.
    none-tested c.args.part.now.missing c.if-is_some.ensures
    ∙ missing-unset (g.S.Row.slot c.args.row.now) held c.args.part.now f c.label.result is c.if-part-gt0.false c.label.ensures c.in_default.not-Required c.in_default.not-RequiredOr
