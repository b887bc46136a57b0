use Rattle.mum_kept.proofs.Degrees.{counted_one, few_true, few_false}
use Rattle.mum_kept.proofs.joined.count_one.Goals as goal

pub returns-then-count-ge-CHANNEL_LINK_LIMIT-clause-few : goal.returns-then-count-ge-CHANNEL_LINK_LIMIT-clause-few
returns-then-count-ge-CHANNEL_LINK_LIMIT-clause-few c = few_false _ _ c.count_at-count.ensures c.if-count-ge-CHANNEL_LINK_LIMIT.true

pub returns-clause-few : goal.returns-clause-few
returns-clause-few c = few_true _ _ c.count_at-count.ensures c.if-count-ge-CHANNEL_LINK_LIMIT.false

pub returns-clause-counted : goal.returns-clause-counted
returns-clause-counted c = λ few channel. counted_one c.args.counts.now.entries c.insert.new.self.entries c.args.id.0 c.count_at-count.result c.count_at-count.ensures c.in_ok-insert.ensures.updates.0 channel
