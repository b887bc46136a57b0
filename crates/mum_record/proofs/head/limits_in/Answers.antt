use Rattle.mum_record.proofs.Common.{◌∙◌, sym, arith}
use Rattle.mum_record.proofs.Numbers.{number_within-found}
use Rattle.mum_record.proofs.head.limits_in.Goals as goal

pub overflow_cast-result : goal.overflow_cast-result
overflow_cast-result c =
    let found = number_within-found _ _ _ c.in_ok-sessions.sessions (sym c.number_within.ensures ∙ c.in_ok-sessions.was) in
    omega (arith, found.1)

pub overflow_cast-result-2 : goal.overflow_cast-result-2
overflow_cast-result-2 c =
    let found = number_within-found _ _ _ c.in_ok-channels.channels (sym c.number_within-2.ensures ∙ c.in_ok-channels.was) in
    omega (arith, found.1)

pub invariant_of-result : goal.invariant_of-result
invariant_of-result c =
    let sessions = number_within-found _ _ _ c.in_ok-sessions.sessions (sym c.number_within.ensures ∙ c.in_ok-sessions.was) in
    let channels = number_within-found _ _ _ c.in_ok-channels.channels (sym c.number_within-2.ensures ∙ c.in_ok-channels.was) in
    (sessions.0, sessions.1, channels.0, channels.1)
