use Rattle.mum_kept.proofs.Common.{◌≡◌, take, filter, flat_map, is_kept_link, links_from}
use Rattle.mum_kept.proofs.kept.kept_links.Given as goal

abbrev pub invariant-loop-id : goal.invariant-loop-id
invariant-loop-id l =
    l.links.items ≡ flat_map (λ id. filter (is_kept_link l.tree) (links_from l.tree id)) (take l.id-index l.ids)
