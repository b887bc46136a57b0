use Rattle.mum_serve.proofs.Common.{drop, HaveNumbers}
use Rattle.mum_serve.proofs.states.have_numbers.Given as goal

-- those before this one have such numbers
abbrev pub invariant-loop-channel : goal.invariant-loop-channel
invariant-loop-channel l = HaveNumbers (drop l.channel-index l.channels) → HaveNumbers l.channels
