use Rattle.mum_rules_user.proofs.Common.{◌≡◌, drop, map, TEXT_MESSAGE, actor_of, all_met, need, AreMet, channels_of}
use Rattle.mum_rules_user.proofs.text.need_at_sessions.Given as goal

abbrev pub invariant-loop-number : goal.invariant-loop-number
invariant-loop-number l = record {
  met : AreMet l.state (actor_of l.who) TEXT_MESSAGE l.met.marks;
  rest : all_met l.state (map (need (actor_of l.who) TEXT_MESSAGE) (channels_of l.state.roster l.numbers))
      ≡ all_met l.state (map (need (actor_of l.who) TEXT_MESSAGE) (channels_of l.state.roster (drop l.number-index l.numbers)));
}
