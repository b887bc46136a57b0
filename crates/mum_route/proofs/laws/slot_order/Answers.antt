use Rattle.mum_route.proofs.Common.{◌≡◌, ◌∙◌, ap, arith, sym, same_Some, session_of, User, IsInLowerSlot}
use Rattle.mum_route.proofs.Hearers.{found_own, pairs_hearing}
use Rattle.mum_route.proofs.laws.slot_order.Goals as goal

pub returns-clause-order : goal.returns-clause-order
returns-clause-order c = λ state speaker target proper.
    pairs_hearing state speaker target (IsInLowerSlot state) proper
    (λ a b x y first second below. (a, b, found_own state a proper first, found_own state b proper second, below))

pub returns-clause-once : goal.returns-clause-once
returns-clause-once c = λ state speaker target proper.
    pairs_hearing state speaker target (λ one later. one.0.0 ≡ later.0.0 → ⊥) proper
    (λ a b x y first second below same.
    let number : a.session ≡ b.session = ap (λ n. record { 0 = n }) same in
    let one : a ≡ b = same_Some a b (sym (found_own state a proper first) ∙ ap (session_of state.roster) number ∙ found_own state b proper second) in
    let slots = ap (λ (u : User). u.slot.0) one in omega arith)
