use Rattle.mum_state.proofs.Common.{[], rules, IsPartitionPoint-from_clause, parted, place_between, Account, account_below, is_before}
use Rattle.mum_state.proofs.Insertion.{names_down}
use Rattle.mum_state.proofs.accounts.place_of.Goals as goal

pub returns-clause-place : goal.returns-clause-place
returns-clause-place c =
    let d : Account = record { account = record { 0 = 0 }; name = []; digest = [] } in
    place_between (λ account. is_before c.args.name.now account) c.args.accounts.now c.partition_point.result d c.partition_point.ensures.bound
    (IsPartitionPoint-from_clause (λ account. is_before c.args.name.now account) c.args.accounts.now c.partition_point.result
    c.partition_point.ensures.partitioned
    (parted account_below (λ account. is_before c.args.name.now account) (names_down c.args.name.now) c.args.accounts.now c.requires)
    (λ a r f' called. search rules))
