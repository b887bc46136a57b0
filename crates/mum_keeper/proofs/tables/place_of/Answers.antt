use Rattle.mum_keeper.proofs.Common.{◌<◌, length, arith, sym, ◌∙◌}
use Rattle.mum_keeper.proofs.Walking.{place_here, place_more, place_past}
use Rattle.mum_keeper.proofs.tables.place_of.Goals as goal

pub loop-at-preserved : goal.loop-at-preserved
loop-at-preserved g c =
    let within : c.loop-at.at < length c.args.rows.now = omega (arith, c.loop-at-test.true) in
    record {
      rest = place_more g.T.Row.before c.args.new.now c.args.rows.now c.loop-at.at c.index-rows-at.result within c.index-rows-at.is
          (sym c.is_before.ensures ∙ c.if-not-is_before.false) c.loop-at.invariant.rest;
      within = omega (arith, within);
    }

pub returns-then-not-is_before-clause-place : goal.returns-then-not-is_before-clause-place
returns-then-not-is_before-clause-place g c =
    let within : c.loop-at.at < length c.args.rows.now = omega (arith, c.loop-at-test.true) in
    place_here g.T.Row.before c.args.new.now c.args.rows.now c.loop-at.at c.index-rows-at.result within c.index-rows-at.is
    (sym c.is_before.ensures ∙ c.if-not-is_before.true) c.loop-at.invariant.rest

pub returns-clause-place : goal.returns-clause-place
returns-clause-place g c =
    place_past g.T.Row.before c.args.new.now c.args.rows.now c.loop-at.at (omega (arith, c.loop-at-test.false)) c.loop-at.invariant.rest
