use Rattle.mum_kept.proofs.Common.{rules, answers_always, Pair, is_above}
use Rattle.mum_kept.proofs.Degrees.{ordered}
use Rattle.mum_kept.proofs.joined.rise.Goals as goal

pub returns : goal.returns
returns c =
    ordered c.args.links.now c.is_sorted_by.result
    (c.is_sorted_by.ensures.cases (λ (one other : Pair). is_above one.0 one.1 other) (answers_always _ _ _ (λ f a r g called. search rules)))
