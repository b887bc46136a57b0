use Rattle.mum_tree.proofs.Common.{◌≡◌, ◌-◌, length, drop, take, sym, subst, List, rules, arith, IsPartitionedBy, length-drop, take_all, IsPartitionPoint-from_clause, Pair, starts_at}
use Rattle.mum_tree.proofs.LinkSearch.{own_front, own_parted}
use Rattle.mum_tree.proofs.links.links_of.Goals as goal

pub returns : goal.returns
returns c =
    let links = c.args.links.now in
    let of = c.args.of in
    let first = c.first_link.result in
    let rest = take (length links - first) (drop first links) in
    let whole : rest ≡ drop first links = take_all (length links - first) (drop first links) (omega (arith, length-drop first links)) in
    let parted = IsPartitionPoint-from_clause (starts_at of) rest c.partition_point.result c.partition_point.ensures.partitioned (subst (λ (xs : List Pair). IsPartitionedBy (starts_at of) xs) (sym whole) (own_parted links first of c.requires c.first_link.ensures.after)) (λ a r f called. search rules) in
    own_front links rest first c.partition_point.result of whole c.first_link.ensures.before parted
