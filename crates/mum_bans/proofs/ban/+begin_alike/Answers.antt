use Rattle.mum_bans.proofs.Common.{◌∙◌}
use Rattle.mum_bans.proofs.Bits.{alike_before, alike_other, alike_same}
use Rattle.mum_bans.proofs.ban.+begin_alike.Goals as goal

pub returns-then-bits-lt8 : goal.returns-then-bits-lt8
returns-then-bits-lt8 t c =
    alike_before c.args.bits c.in-Some.our.now c.in-Some-split_first.their.now c.args.ours.now c.args.theirs.now c.in-Some.our_rest.now c.in-Some-split_first.their_rest.now
    c.in-Some.ensures.cases.0 c.in-Some-split_first.ensures.cases.0 (c.type_inv.ours 0) (c.type_inv.theirs 0) c.if-bits-eq0.false c.if-bits-lt8.true

pub returns-then-our-their : goal.returns-then-our-their
returns-then-our-their t c =
    c.begin_alike.ensures
    ∙ alike_same c.args.bits c.in-Some.our.now c.in-Some-split_first.their.now c.args.ours.now c.args.theirs.now c.in-Some.our_rest.now c.in-Some-split_first.their_rest.now
    c.in-Some.ensures.cases.0 c.in-Some-split_first.ensures.cases.0 (c.type_inv.ours 0) (c.type_inv.theirs 0) c.if-bits-lt8.false c.if-our-their.true

pub returns-else-our-their : goal.returns-else-our-their
returns-else-our-their t c =
    alike_other c.args.bits c.in-Some.our.now c.in-Some-split_first.their.now c.args.ours.now c.args.theirs.now c.in-Some.our_rest.now c.in-Some-split_first.their_rest.now
    c.in-Some.ensures.cases.0 c.in-Some-split_first.ensures.cases.0 (c.type_inv.ours 0) (c.type_inv.theirs 0) c.if-bits-lt8.false c.if-our-their.false
