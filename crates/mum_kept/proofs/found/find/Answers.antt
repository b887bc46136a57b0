use Rattle.mum_kept.proofs.Common.{Some, ap, sym, ◌∙◌, KeptChannel, tree_row}
use Rattle.mum_kept.proofs.found.find.Goals as goal

pub returns-in-Some : goal.returns-in-Some
returns-in-Some c =
    let channel = c.index-channels-at.result in
    sym ((c.in-Some.ensures {u = tt}).1 channel ∙ ap (λ (found : KeptChannel). Some (tree_row found)) (sym c.index-channels-at.is))
