use Rattle.mum_keeper.proofs.Common.{subst, sym, KeptRows, AreInOrder}
use Rattle.mum_keeper.proofs.Keptness.{kept_in_order}
use Rattle.mum_keeper.proofs.look.find_in.Goals as goal

pub returns : goal.returns
returns c = record {
  are = c.in_ok-rows.ensures;
  ordered = subst (λ (rows : KeptRows). AreInOrder rows) (sym c.in_ok-rows.ensures) (kept_in_order c.args.state.now c.tree-tree.ensures.proper);
  counted = c.stamps-policies.ensures.policy;
  proper = c.tree-tree.ensures.proper;
}
