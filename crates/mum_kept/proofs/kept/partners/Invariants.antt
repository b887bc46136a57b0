use Rattle.mum_kept.proofs.Common.{◌≡◌, ◌-◌, ◌≤◌, length, take, partners}
use Rattle.mum_kept.proofs.kept.partners.Given as goal

abbrev pub invariant-loop-partner : goal.invariant-loop-partner
invariant-loop-partner l = record {
  front : l.found.items ≡ take (length l.found.items) (partners l.tree l.id);
  within : length l.found.items ≤ length (partners l.tree l.id);
}

abbrev pub decreases-loop-partner : goal.decreases-loop-partner
decreases-loop-partner l = length (partners l.tree l.id) - length l.found.items
