use Rattle.mum_kept.proofs.Common.{ltb, rules, answers_always, KeptChannel}
use Rattle.mum_kept.proofs.Goodness.{risen}
use Rattle.mum_kept.proofs.good.rise.Goals as goal

pub returns : goal.returns
returns c =
    risen c.args.channels.now c.is_sorted_by.result
    (c.is_sorted_by.ensures.cases (λ (one other : KeptChannel). ltb one.id.0 other.id.0) (answers_always _ _ _ (λ f a r g called. search rules)))
