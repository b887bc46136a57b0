use Rattle.mum_config.proofs.Counts.{apart, counted_more, new_ends}
use Rattle.mum_config.proofs.link.Met.add.Goals as goal

pub returns-clause-ends : goal.returns-clause-ends
returns-clause-ends c = new_ends _ _ _ c.args.a c.args.b c.in_ok-insert.ensures.keys c.ends_of.ensures c.requires.new

pub returns-clause-counted : goal.returns-clause-counted
returns-clause-counted c =
    rw (new_ends _ _ _ c.args.a c.args.b c.in_ok-insert.ensures.keys c.ends_of.ensures c.requires.new)
    (counted_more _ _ _ c.args.self.now.ends.keys c.args.a c.args.b c.count-of_a.result c.count-of_b.result c.requires.counted c.in_ok-insert-2.ensures.updates.0 c.in_ok-insert-3.ensures.updates.0
    c.count-of_a.ensures c.count-of_b.ensures (apart _ c.args.a c.args.b c.requires.new))
