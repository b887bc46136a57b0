use Rattle.mum_notify.proofs.Common.{rules, IsPartitionPoint-from_clause, parted, place_between, is_lower}
use Rattle.mum_notify.proofs.Placed.{lower_down}
use Rattle.mum_notify.proofs.channels.place_for.Goals as goal

pub returns-clause-place : goal.returns-clause-place
returns-clause-place c =
    place_between (λ one. is_lower one c.args.id) c.args.ids.now c.partition_point.result c.args.id c.partition_point.ensures.bound
    (IsPartitionPoint-from_clause (λ one. is_lower one c.args.id) c.args.ids.now c.partition_point.result
    c.partition_point.ensures.partitioned
    (parted is_lower (λ one. is_lower one c.args.id) (lower_down c.args.id) c.args.ids.now c.requires)
    (λ a r f' called. search rules))
