use Rattle.mum_notify.proofs.Common.{◌∙◌, List, ℕ, ap, sym, subst, IsSorted, nat_cmp, lists}
use Rattle.mum_notify.proofs.Reached.{found_by_halving}
use Rattle.mum_notify.proofs.sorted.Sorted.has.Goals as goal

pub returns : goal.returns
returns c =
    c.is_ok.ensures.value
    ∙ found_by_halving c.deref.result.now c.args.number (subst (λ (xs : List ℕ). IsSorted nat_cmp xs) (sym c.deref.ensures.value) c.args.self.now.rise) c.binary_search.result c.binary_search.ensures.bound c.binary_search.ensures.position
    ∙ ap (λ (xs : List ℕ). lists xs c.args.number) c.deref.ensures.value
