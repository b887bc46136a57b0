use Rattle.mum_kept.proofs.Common.{◌≡◌, ◌+◌, ◌<◌, ℕ, cond, IsTrue, ◌↔◌, IfOk-weaker, count_at, is_end}
use Rattle.mum_kept.proofs.Degrees.{count_apart, counted_both, few_first, few_two}
use Rattle.mum_kept.proofs.joined.count_link.Goals as goal

pub returns-then-not-few-clause-few : goal.returns-then-not-few-clause-few
returns-then-not-few-clause-few c = few_first _ _ _ c.in_ok-few.ensures.few c.if-not-few.true

pub returns-clause-few : goal.returns-clause-few
returns-clause-few c =
    IfOk-weaker c.count_one-2.result _ (λ few. IsTrue few ↔ ((count_at c.args.counts.now.entries c.args.from.0 < 64) × (count_at c.args.counts.now.entries c.args.to.0 < 64)))
    (λ few one. few_two few _ _ _ (c.in_ok-few.ensures.few.0 c.if-not-few.false) (count_apart c.args.from.0 c.args.to.0 _ _ c.requires (c.in_ok-few.ensures.counted c.if-not-few.false c.args.to.0)) one)
    c.count_one-2.ensures.few

pub returns-clause-counted : goal.returns-clause-counted
returns-clause-counted c =
    IfOk-weaker c.count_one-2.result _ (λ few. IsTrue few → (channel : ℕ) → count_at c.count_one-2.new.counts.entries channel ≡ count_at c.args.counts.now.entries channel + cond (is_end channel (c.args.from, c.args.to)) 1 0)
    (λ few more on channel. counted_both c.args.from.0 c.args.to.0 channel _ _ _ c.requires (c.in_ok-few.ensures.counted c.if-not-few.false channel) (more on channel))
    c.count_one-2.ensures.counted
