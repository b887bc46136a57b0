use Rattle.mum_notify.proofs.Common.{◌≡◌, take, session_numbers}
use Rattle.mum_notify.proofs.texts.session_numbers.Given as goal

abbrev pub invariant-loop-session : goal.invariant-loop-session
invariant-loop-session l = l.listed.items ≡ session_numbers (take l.session-index l.sessions)
