use Rattle.mum_fields.proofs.Common.{map, arith, length-map}
use Rattle.mum_fields.proofs.{Kept.nothing-kept, Passes.room-few}
use Rattle.mum_fields.proofs.pass.outline.Goals as goal

pub outline_in-requires-clause-empty : goal.outline_in-requires-clause-empty
outline_in-requires-clause-empty g c =
    let few = c.if-rows-le-FEW_FIELDS.true in
    nothing-kept (map g.S.Row.slot c.args.rows.now) 8 (omega (arith, few, length-map c.args.rows.now g.S.Row.slot))

pub outline_in-requires-2-clause-empty : goal.outline_in-requires-2-clause-empty
outline_in-requires-2-clause-empty g c =
    let slots = map g.S.Row.slot c.args.rows.now in
    nothing-kept slots 24 (room-few slots c.requires)
