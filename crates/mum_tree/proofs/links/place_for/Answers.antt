use Rattle.mum_tree.proofs.Common.{not, arith, not-false, not-true, nat_tests, IsPartitionPoint-from_clause, Pair, is_above}
use Rattle.mum_tree.proofs.LinkSearch.{above_parted}
use Rattle.mum_tree.proofs.links.place_for.Goals as goal

pub returns : goal.returns
returns c =
    let links = c.args.links.now in
    let at = c.partition_point.result in
    let parted = IsPartitionPoint-from_clause (λ (link : Pair). not (is_above c.args.from c.args.to link)) links at c.partition_point.ensures.partitioned (above_parted links c.args.from c.args.to c.requires) (λ a r f called. grind (arith, nat_tests, called)) in
    record {
      within = c.partition_point.ensures.bound;
      before = λ k d below. not-true _ (parted.0 k d (omega arith) below);
      here = λ d within. not-false _ (parted.1 at d (omega arith) within);
    }
