use Rattle.mum_rules_user.proofs.Common.{◌≡◌, map, take, session_numbered}
use Rattle.mum_rules_user.proofs.text.sessions.Given as goal

abbrev pub invariant-loop-number : goal.invariant-loop-number
invariant-loop-number l = l.listed.items ≡ map session_numbered (take l.number-index l.numbers)
