use Rattle.mum_kept.proofs.Common.{◌≡◌, ◌++◌, not, map, take, filter, is_root, place_edit, tree_of}
use Rattle.mum_kept.proofs.rebuilt.push_places.Given as goal

abbrev pub invariant-loop-id : goal.invariant-loop-id
invariant-loop-id l = l.edits.items ≡ l.fn.edits.items ++ map (place_edit (tree_of l.channels)) (filter (λ id. not (is_root id)) (take l.id-index l.ids))
