use Rattle.mum_keeper.proofs.Common.{◌<◌, [], length, arith, option_copied, given_at}
use Rattle.mum_keeper.proofs.Walking.{come_next, next_within, walked_all}
use Rattle.mum_keeper.proofs.merge.add_additions.Goals as goal

pub loop-at-preserved : goal.loop-at-preserved
loop-at-preserved g c =
    let within : c.loop-at.at < length c.args.rows.now = omega (arith, c.loop-at-test.true) in
    let stays = next_within g.T.Row.before g.T.Row.same g.T.Row.come c.args.rows.now c.args.others.now c.loop-at.at c.loop-at.at_other c.rows-at.result c.others-at_other.result
    c.index-rows-at.result (option_copied c.get.result) c.step_of-step.result c.loop-at.changes.items c.add_addition.new.changes.items []
    within c.index-rows-at.is (given_at c.args.others.now c.loop-at.at_other c.get.result c.get.ensures.lookup) c.step_of-step.ensures c.rows-at.ensures c.others-at_other.ensures c.loop-at.invariant.within_other in
    record {
      rest = come_next g.T.Row.before g.T.Row.same g.T.Row.come c.args.rows.now c.args.others.now c.loop-at.at c.loop-at.at_other c.rows-at.result c.others-at_other.result
          c.index-rows-at.result (option_copied c.get.result) c.step_of-step.result c.loop-at.changes.items c.add_addition.new.changes.items _
          within c.index-rows-at.is (given_at c.args.others.now c.loop-at.at_other c.get.result c.get.ensures.lookup) c.step_of-step.ensures c.rows-at.ensures c.others-at_other.ensures c.in_ok-add_addition.ensures c.loop-at.invariant.rest;
      within = stays.0;
      within_other = stays.1;
    }

pub returns : goal.returns
returns g c =
    walked_all g.T.Row.before g.T.Row.same g.T.Row.come c.args.rows.now c.args.others.now c.loop-at.at c.loop-at.at_other c.loop-at.changes.items _
    (omega (arith, c.loop-at-test.false)) c.loop-at.invariant.rest
