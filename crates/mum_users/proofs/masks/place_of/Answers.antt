use Rattle.mum_users.proofs.Common.{rules, IsPartitionPoint-from_clause, MaskRow, is_mask_below, mask_below}
use Rattle.mum_users.proofs.{MaskRows.below_down, Search.parted, Search.place_between}
use Rattle.mum_users.proofs.masks.place_of.Goals as goal

pub returns-clause-place : goal.returns-clause-place
returns-clause-place c =
    let d : MaskRow = record { channel = c.args.channel; word = 0; mask = 0 } in
    place_between (is_mask_below c.args.channel c.args.word) c.args.rows.now c.partition_point.result d c.partition_point.ensures.bound
    (IsPartitionPoint-from_clause (is_mask_below c.args.channel c.args.word) c.args.rows.now c.partition_point.result
    c.partition_point.ensures.partitioned (parted mask_below (is_mask_below c.args.channel c.args.word) (below_down c.args.channel c.args.word) c.args.rows.now c.requires)
    (λ a r f' called. search rules))
