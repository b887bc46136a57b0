use Rattle.mum_rules_user.proofs.Common.{◌≡◌, drop, map, TEXT_MESSAGE, actor_of, all_met, need, AreMet, channels_there}
use Rattle.mum_rules_user.proofs.text.need_in_channels.Given as goal

abbrev pub invariant-loop-number : goal.invariant-loop-number
invariant-loop-number l = record {
  met : AreMet l.state (actor_of l.who) TEXT_MESSAGE l.met.marks;
  rest : all_met l.state (map (need (actor_of l.who) TEXT_MESSAGE) (channels_there l.state l.numbers))
      ≡ all_met l.state (map (need (actor_of l.who) TEXT_MESSAGE) (channels_there l.state (drop l.number-index l.numbers)));
}
