use Rattle.mum_notify.proofs.Common.{◌∙◌, ◌==◌, List, ℕ, ap, sym, list_any-IsPermutation, lists}
use Rattle.mum_notify.proofs.sorted.Sorted.of.Goals as goal

pub returns : goal.returns
returns c = λ number. sym (list_any-IsPermutation (λ one. one == number) _ _ c.in_ok-sort.ensures.permutation) ∙ ap (λ (xs : List ℕ). lists xs number) c.in_ok-sorted.ensures.items
