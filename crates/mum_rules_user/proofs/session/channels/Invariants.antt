use Rattle.mum_rules_user.proofs.Common.{◌≡◌, take, channels}
use Rattle.mum_rules_user.proofs.session.channels.Given as goal

abbrev pub invariant-loop-number : goal.invariant-loop-number
invariant-loop-number l = l.listed.items ≡ channels (take l.number-index l.numbers)
