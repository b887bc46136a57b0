use Rattle.mum_tree.proofs.Common.{Some, ap, sym, ◌∙◌, Row}
use Rattle.mum_tree.proofs.Changed.{number_found}
use Rattle.mum_tree.proofs.rows.find_row.Goals as goal

pub returns-in-Some-clause-named : goal.returns-in-Some-clause-named
returns-in-Some-clause-named c =
    let row = c.index-rows-at.result in
    ap (λ n. record { 0 = n }) (number_found c.args.rows.now c.args.id row ((c.in-Some.ensures {u = tt}).1 row ∙ ap (λ (r : Row). Some r) (sym c.index-rows-at.is)))
