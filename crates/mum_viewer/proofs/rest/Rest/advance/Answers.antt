use Rattle.mum_viewer.proofs.Common.{◌≡◌, ◌≤◌, ℕ, List, length, drop, ap, sym, ◌∙◌, arith}
use Rattle.mum_viewer.proofs.Rests.{fewer_left, left_are}
use Rattle.mum_viewer.proofs.rest.Rest.advance.Goals as goal

pub overflow_sub-self : goal.overflow_sub-self
overflow_sub-self c =
    let left : length c.args.self.now ≡ c.self.inside.left = ap (λ (l : List ℕ). length l) (sym c.self.view_is) ∙ left_are c.self.inside.text c.self.inside.left c.self.invariant in
    omega (arith, left, c.requires)

pub returns : goal.returns
returns c =
    let left : length c.args.self.now ≡ c.self.inside.left = ap (λ (l : List ℕ). length l) (sym c.self.view_is) ∙ left_are c.self.inside.text c.self.inside.left c.self.invariant in
    let some : c.args.count ≤ c.self.inside.left = omega (arith, left, c.requires) in
    fewer_left c.self.inside.text c.self.inside.left c.args.count c.self.invariant some ∙ ap (λ (l : List ℕ). drop c.args.count l) c.self.view_is
