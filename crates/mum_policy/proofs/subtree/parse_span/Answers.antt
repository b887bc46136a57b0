use Rattle.mum_policy.proofs.Common.{ap, option_copied, list_of}
use Rattle.mum_policy.proofs.Digits.{AreSteps, three_at_most, too_many_left}
use Rattle.mum_policy.proofs.subtree.parse_span.Goals as goal

pub returns-in-Some : goal.returns-in-Some
returns-in-Some c =
    let steps : AreSteps _ _ _ _ = record { one = c.next_argument.ensures.rest; two = c.next_argument-2.ensures.rest; three = c.next_argument-3.ensures.rest } in
    too_many_left steps c.in-Some.field-0.now (ap (λ list. list_of (option_copied list)) c.in-Some.is)

pub returns-in-None : goal.returns-in-None
returns-in-None c =
    let steps : AreSteps _ _ _ _ = record { one = c.next_argument.ensures.rest; two = c.next_argument-2.ensures.rest; three = c.next_argument-3.ensures.rest } in
    three_at_most steps _ _ _ _ _ _ _ c.next_argument.ensures.first c.next_argument-2.ensures.first c.next_argument-3.ensures.first (ap (λ list. list_of (option_copied list)) c.in-None.is)
    c.parse_argument.ensures c.parse_argument-in-None.ensures c.parse_argument-in-None-2.ensures c.span_by.ensures
