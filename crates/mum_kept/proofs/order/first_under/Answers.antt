use Rattle.mum_kept.proofs.Common.{ltb, arith, rules, ltb-false, ltb-true, IsPartitionPoint-from_clause, Pair}
use Rattle.mum_kept.proofs.ByParents.{starts_parted}
use Rattle.mum_kept.proofs.order.first_under.Goals as goal

pub returns : goal.returns
returns c =
    let links = c.args.listed.now in
    let from = c.args.parent in
    let parted = IsPartitionPoint-from_clause (λ (link : Pair). ltb link.0.0 from.0) links c.partition_point.result c.partition_point.ensures.partitioned (starts_parted links from c.requires) (λ a r f called. search rules) in
    record {
      within = c.partition_point.ensures.bound;
      before = λ k d below. ltb-true _ _ (parted.0 k d (omega arith) below);
      after = λ k d above within. ltb-false _ _ (parted.1 k d above within);
    }
