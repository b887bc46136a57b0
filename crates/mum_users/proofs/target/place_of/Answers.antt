use Rattle.mum_users.proofs.Common.{[], rules, IsPartitionPoint-from_clause, TargetRow, row_below, target_below}
use Rattle.mum_users.proofs.Search.{below_down, parted, place_between}
use Rattle.mum_users.proofs.target.place_of.Goals as goal

pub returns-clause-place : goal.returns-clause-place
returns-clause-place c =
    let d : TargetRow = record { session = c.args.session; id = c.args.id; target = record { items = [] } } in
    place_between (target_below c.args.session c.args.id) c.args.rows.now c.partition_point.result d c.partition_point.ensures.bound
    (IsPartitionPoint-from_clause (target_below c.args.session c.args.id) c.args.rows.now c.partition_point.result
    c.partition_point.ensures.partitioned (parted row_below (target_below c.args.session c.args.id) (below_down c.args.session c.args.id) c.args.rows.now c.requires)
    (λ a r f' called. search rules))
