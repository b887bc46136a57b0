use Rattle.mum_kept.proofs.Common.{◌≡◌, ◌++◌, map, take, filter, is_kept_link}
use Rattle.mum_kept.proofs.kept.add_links.Given as goal

abbrev pub invariant-loop-other : goal.invariant-loop-other
invariant-loop-other l =
    l.links.items ≡ l.fn.links.items ++ filter (is_kept_link l.tree) (map (λ other. (l.id, other)) (take l.other-index l.other-items))
