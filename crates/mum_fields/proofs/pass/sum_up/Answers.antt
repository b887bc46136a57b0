use Rattle.mum_fields.proofs.Common.{arith, refl}
use Rattle.mum_fields.proofs.{Passes.sums-in, Sums.adds-none, Sums.adds-next, Sums.adds-same, Sums.adds-to, Sums.adds-all}
use Rattle.mum_fields.proofs.pass.sum_up.Goals as goal

pub loop-i-init : goal.loop-i-init
loop-i-init g c = (adds-none g.S.Row.slot c.args.rows.now c.args.parts.now, omega arith)

pub loop-i-preserved-then-adds_nothing : goal.loop-i-preserved-then-adds_nothing
loop-i-preserved-then-adds_nothing g c =
    let within = c.loop-i-test.true in (
      adds-same g.S.Row.slot c.args.rows.now c.args.parts.now c.loop-i.i c.index-rows-i.result _ c.loop-i.sum within (omega (arith, within, c.requires)) c.index-rows-i.is (c.if-adds_nothing.ensures.length refl) (c.if-adds_nothing.ensures.missing refl) c.loop-i.invariant.0,
      c.loop-i.invariant.1,
    )

pub loop-i-preserved : goal.loop-i-preserved
loop-i-preserved g c =
    let within = c.loop-i-test.true in
    adds-to g.S.Row.slot c.args.rows.now c.args.parts.now _ c.loop-i.sum c.joined-sum.result _ c.missing_of-missing.result c.joined-sum.ensures.length c.joined-sum.ensures.missing
    (adds-next g.S.Row.slot c.args.rows.now c.args.parts.now c.loop-i.i c.index-rows-i.result _ c.loop-i.sum c.missing_of-missing.result within (omega (arith, within, c.requires)) c.index-rows-i.is c.missing_of-missing.ensures c.loop-i.invariant.0)

pub returns : goal.returns
returns g c =
    sums-in g.S.Row.slot c.args.rows.now c.args.parts.now c.loop-i.sum (adds-all g.S.Row.slot c.args.rows.now c.args.parts.now c.loop-i.i c.loop-i.sum c.loop-i-test.false c.loop-i.invariant.1 c.loop-i.invariant.0)
