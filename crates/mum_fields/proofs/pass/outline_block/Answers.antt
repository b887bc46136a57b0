use Rattle.mum_fields.proofs.Common.{flat}
use Rattle.mum_fields.proofs.{Blanks.outlined-nothing, Blanks.outlined-within, Taking.tested_empty}
use Rattle.mum_fields.proofs.pass.outline_block.Goals as goal

pub returns-then-is_empty : goal.returns-then-is_empty
returns-then-is_empty c =
    outlined-nothing (flat c.args.rows.now) c.args.place c.args.block.now c.blank.result (tested_empty c.args.block.now c.if-is_empty.ensures) c.blank.ensures

pub returns : goal.returns
returns c =
    outlined-within c.args.rows.now c.within.result (record { place = c.args.place; rest = c.args.block.now }) c.outline.result c.within.ensures c.outline.ensures
