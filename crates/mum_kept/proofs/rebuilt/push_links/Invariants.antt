use Rattle.mum_kept.proofs.Common.{◌≡◌, ◌++◌, map, take, link_edit}
use Rattle.mum_kept.proofs.rebuilt.push_links.Given as goal

abbrev pub invariant-loop-link : goal.invariant-loop-link
invariant-loop-link l = l.edits.items ≡ l.fn.edits.items ++ map link_edit (take l.link-index l.links)
