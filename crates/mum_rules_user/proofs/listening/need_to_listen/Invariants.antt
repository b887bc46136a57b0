use Rattle.mum_rules_user.proofs.Common.{◌≡◌, drop, map, LISTEN, actor_of, all_met, need, AreMet, channels}
use Rattle.mum_rules_user.proofs.listening.need_to_listen.Given as goal

abbrev pub invariant-loop-number : goal.invariant-loop-number
invariant-loop-number l = record {
  met : AreMet l.state (actor_of l.who) LISTEN l.met.marks;
  rest : all_met l.state (map (need (actor_of l.who) LISTEN) (channels l.numbers))
      ≡ all_met l.state (map (need (actor_of l.who) LISTEN) (channels (drop l.number-index l.numbers)));
}
