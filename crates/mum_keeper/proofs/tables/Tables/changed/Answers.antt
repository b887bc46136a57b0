use Rattle.mum_keeper.proofs.Common.{◌∙◌, ap, sym, KeptRows, made}
use Rattle.mum_keeper.proofs.Ordering.{all_more}
use Rattle.mum_keeper.proofs.tables.Tables.changed.Goals as goal

pub loop-change-preserved : goal.loop-change-preserved
loop-change-preserved c =
    c.in_ok-make.ensures
    ∙ ap (λ (rows : KeptRows). made c.change-item.result rows) c.loop-change.invariant
    ∙ sym (all_more c.args.changes.now c.args.self.now c.loop-change.change-index c.change-item.result c.loop-change-test.true c.change-item.is)
