use Rattle.mum_port.proofs.Common.{◌≡◌, ◌+◌, ◌<◌, length, arith, ap}
use Rattle.mum_port.proofs.Wires.{HaveBytes-pushed, length-pushed, unwritten-pushed}
use Rattle.mum_port.proofs.outgoing.Outgoing.push.Goals as goal

pub invariant_of-self-2 : goal.invariant_of-self-2
invariant_of-self-2 c =
    let counted : length c.as_slice-count.result.now ≡ length c.args.wire = ap length c.as_slice-count.ensures in
    let some : 0 < length c.args.wire = omega (arith, counted, c.if-count-eq0.false) in
    let sum : c.in-Some.total ≡ c.self.inside.total + length c.as_slice-count.result.now = omega (arith, c.in-Some.ensures) in (
      HaveBytes-pushed _ _ _ _ c.push_back_reserved.ensures.items c.in_ok-reserve.ensures.items c.self.invariant.0 some,
      length-pushed c.self.inside.front _ _ _ _ _ _ _ c.push_back_reserved.ensures.items c.in_ok-reserve.ensures.items c.self.invariant.1 counted sum,
    )

pub returns-clause-ok : goal.returns-clause-ok
returns-clause-ok c =
    unwritten-pushed c.self.inside.front _ _ _ _ _ c.push_back_reserved.ensures.items c.in_ok-reserve.ensures.items c.self.view_is
