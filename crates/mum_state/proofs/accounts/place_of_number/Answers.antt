use Rattle.mum_state.proofs.Common.{rules, IsPartitionPoint-from_clause, parted, place_between, number_below}
use Rattle.mum_state.proofs.Insertion.{numbers_down}
use Rattle.mum_state.proofs.accounts.place_of_number.Goals as goal

pub returns-clause-place : goal.returns-clause-place
returns-clause-place c =
    place_between (λ one. number_below one c.args.number) c.args.numbers.now c.partition_point.result c.args.number c.partition_point.ensures.bound
    (IsPartitionPoint-from_clause (λ one. number_below one c.args.number) c.args.numbers.now c.partition_point.result
    c.partition_point.ensures.partitioned
    (parted number_below (λ one. number_below one c.args.number) (numbers_down c.args.number) c.args.numbers.now c.requires)
    (λ a r f' called. search rules))
