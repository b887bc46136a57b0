use Rattle.mum_policy.proofs.Common.{◌≡◌, ℕ, ◌+◌, ◌-◌, List, ◌∷◌, length, take, drop, sym, ap, ◌∙◌, arith, common_steps, is_comma, separated}
use Rattle.mum_policy.proofs.Digits.{split_nowhere, split_there}
use Rattle.mum_policy.proofs.subtree.split_argument.Goals as goal

pub returns-in-Some : goal.returns-in-Some
returns-in-Some c =
    let list : List ℕ = c.args.list.now in
    let comma : ℕ = c.in-Some.comma in
    let rest : take (length list - (comma + 1)) (drop (comma + 1) list) ≡ drop (comma + 1) list = grind (arith, common_steps) in
    split_there is_comma list comma (sym c.in-Some.ensures) ∙ ap (λ (r : List ℕ). take comma list ∷ separated r) (sym rest)

pub returns-in-None : goal.returns-in-None
returns-in-None c = split_nowhere is_comma c.args.list.now (sym c.in-None.ensures)
