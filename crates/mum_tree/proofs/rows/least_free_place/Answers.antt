use Rattle.mum_tree.proofs.Common.{arith}
use Rattle.mum_tree.proofs.Places.{count_all, least_is}
use Rattle.mum_tree.proofs.rows.least_free_place.Goals as goal

pub returns-then-not-taken-place-clause-least : goal.returns-then-not-taken-place-clause-least
returns-then-not-taken-place-clause-least c =
    let taken = c.taken_places in
    least_is c.args.rows.now c.loop-place.place (taken.ensures.free c.loop-place.place c.loop-place-test.true c.if-not-taken-place.true, λ lower below. taken.ensures.taken lower (c.loop-place.invariant lower below))

pub unreachable-requires : goal.unreachable-requires
unreachable-requires c =
    let taken = c.taken_places in
    let all = count_all taken.new.taken (λ k within. c.loop-place.invariant k (omega (arith, taken.ensures.length, c.loop-place-test.false))) in
    omega (arith, taken.ensures.length, taken.ensures.count, c.requires.room)
