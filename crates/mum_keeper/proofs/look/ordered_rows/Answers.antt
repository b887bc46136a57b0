use Rattle.mum_keeper.proofs.Common.{subst, sym, KeptRows, AreInOrder}
use Rattle.mum_keeper.proofs.Keptness.{kept_in_order}
use Rattle.mum_keeper.proofs.look.ordered_rows.Goals as goal

pub returns : goal.returns
returns c = (
  c.in_ok-rows.ensures,
  subst (λ (rows : KeptRows). AreInOrder rows) (sym c.in_ok-rows.ensures) (kept_in_order c.args.state.now c.tree-tree.ensures.proper),
)
