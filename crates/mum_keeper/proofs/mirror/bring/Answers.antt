use Rattle.mum_keeper.proofs.Common.{◌∙◌}
use Rattle.mum_keeper.proofs.Comparing.{brought, is_listed, is_unlisted, rested}
use Rattle.mum_keeper.proofs.mirror.bring.Goals as goal

pub returns-then-is_empty : goal.returns-then-is_empty
returns-then-is_empty g c =
    rested g.P.Keeper.facts c.args.keeper.now c.args.rows.now c.args.now.now c.as_slice-list.result.now (c.as_slice-list.ensures.value ∙ c.in-Ok.ensures)
    (is_unlisted c.as_slice-list.result.now c.is_empty.result c.is_empty.ensures c.if-is_empty.true) c.requires.rows c.requires.order

pub returns : goal.returns
returns g c =
    brought g.P.Keeper.facts c.args.keeper.now c.keep.new.self c.args.rows.now c.args.now.now c.as_slice-list.result.now c.keep.result
    (c.as_slice-list.ensures.value ∙ c.in-Ok.ensures) (is_listed c.as_slice-list.result.now c.is_empty.result c.is_empty.ensures c.if-is_empty.false)
    c.requires.rows c.requires.order c.keep.ensures.counts c.keep.ensures.makes c.keep.ensures.path c.keep.ensures.calls
