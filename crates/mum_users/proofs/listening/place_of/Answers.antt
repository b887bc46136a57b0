use Rattle.mum_users.proofs.Common.{rules, IsPartitionPoint-from_clause, below_in}
use Rattle.mum_users.proofs.{Pairs.pair_through, Search.parted, Search.place_between}
use Rattle.mum_users.proofs.listening.place_of.Goals as goal

pub returns-clause-place : goal.returns-clause-place
returns-clause-place c =
    let o = c.args.order in
    place_between (λ pair. below_in o pair c.args.new) c.args.pairs.now c.partition_point.result c.args.new c.partition_point.ensures.bound
    (IsPartitionPoint-from_clause (λ pair. below_in o pair c.args.new) c.args.pairs.now c.partition_point.result
    c.partition_point.ensures.partitioned
    (parted (below_in o) (λ pair. below_in o pair c.args.new) (λ x y lower low. pair_through o x y c.args.new lower low) c.args.pairs.now c.requires)
    (λ a r f' called. search rules))
