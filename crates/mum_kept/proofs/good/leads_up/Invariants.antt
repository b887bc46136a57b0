use Rattle.mum_kept.proofs.Common.{◌≡◌, ◌-◌, is_among, ROOT, upward, leads_up, tree_rows}
use Rattle.mum_kept.proofs.good.leads_up.Given as goal

abbrev pub invariant-loop-step : goal.invariant-loop-step
invariant-loop-step l = leads_up (tree_rows l.channels) l.fn.from ≡ is_among (upward (tree_rows l.channels) (33 - l._step) l.id) ROOT
