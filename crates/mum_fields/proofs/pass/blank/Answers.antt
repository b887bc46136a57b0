use Rattle.mum_fields.proofs.Blanks.{blank-start, blank-next, blank-here, blank-here_or, blank-end}
use Rattle.mum_fields.proofs.pass.blank.Goals as goal

pub loop-row-init : goal.loop-row-init
loop-row-init c = blank-start c.args.rows.now c.requires

pub returns-in-Required : goal.returns-in-Required
returns-in-Required c = blank-here c.args.rows.now c.loop-row.row-index _ c.loop-row-test.true c.in-Required.is c.loop-row.invariant

pub returns-in-RequiredOr : goal.returns-in-RequiredOr
returns-in-RequiredOr c = blank-here_or c.args.rows.now c.loop-row.row-index _ _ c.loop-row-test.true c.in-RequiredOr.is c.loop-row.invariant

pub loop-row-preserved : goal.loop-row-preserved
loop-row-preserved c = blank-next c.args.rows.now c.loop-row.row-index _ c.loop-row-test.true c.in_default.not-Required c.in_default.not-RequiredOr c.loop-row.invariant

pub returns : goal.returns
returns c = blank-end c.args.rows.now c.loop-row.row-index c.loop-row-test.false c.loop-row.invariant
