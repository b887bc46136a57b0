use Rattle.mum_tree.proofs.Common.{◌&&◌, FiltersInPlace, is_there, Pair}
use Rattle.mum_tree.proofs.links.keep_ends.Given as goal

abbrev pub invariant-loop-at : goal.invariant-loop-at
invariant-loop-at l = record {
  filters : FiltersInPlace (λ (pair : Pair). is_there l.rows pair.0 && is_there l.rows pair.1) l.initial.links.items l.links.items l.kept l.at;
}
