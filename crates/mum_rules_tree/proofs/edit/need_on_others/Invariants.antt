use Rattle.mum_rules_tree.proofs.Common.{◌≡◌, drop, map, LINK_CHANNEL, actor_of, others, all_met, need, AreMet}
use Rattle.mum_rules_tree.proofs.edit.need_on_others.Given as goal

abbrev pub invariant-loop-number : goal.invariant-loop-number
invariant-loop-number l = record {
  met : AreMet l.state (actor_of l.who) LINK_CHANNEL l.met.marks;
  rest : all_met l.state (map (need (actor_of l.who) LINK_CHANNEL) (others l.id l.numbers))
      ≡ all_met l.state (map (need (actor_of l.who) LINK_CHANNEL) (others l.id (drop l.number-index l.numbers)));
}
