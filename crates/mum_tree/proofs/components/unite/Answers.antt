use Rattle.mum_tree.proofs.Common.{◌≡◌, ◌<◌, ◌≤◌, length, arith}
use Rattle.mum_tree.proofs.Numbered.{joined_forest, united_above, united_below}
use Rattle.mum_tree.proofs.components.unite.Goals as goal

pub returns-then-one-other-clause-united : goal.returns-then-one-other-clause-united
returns-then-one-other-clause-united c = λ first forest.
    let one = c.find_first-one in
    let other = c.find_first-other in
    let (forest-1, is-one) = one.ensures.found first forest in
    let (forest-2, is-other) = other.ensures.found first forest-1 in
    let top-one : first one.result ≡ one.result = forest-1.ends one.result (omega (arith, one.ensures.within, one.ensures.whole, c.requires.one)) one.ensures.ends in
    let inside : other.result < length other.new.numbers = omega (arith, other.ensures.within, other.ensures.whole, one.ensures.whole, c.requires.other) in
    let top-other : first other.result ≡ other.result = forest-2.ends other.result inside other.ensures.ends in
    united_below _ first c.args.a c.args.b one.result other.result is-one is-other c.if-one-other.true
    (joined_forest other.new.numbers first other.result one.result inside (omega (arith, c.if-one-other.true)) top-other top-one forest-2)

pub returns-else-one-other-clause-united : goal.returns-else-one-other-clause-united
returns-else-one-other-clause-united c = λ first forest.
    let one = c.find_first-one in
    let other = c.find_first-other in
    let (forest-1, is-one) = one.ensures.found first forest in
    let (forest-2, is-other) = other.ensures.found first forest-1 in
    let top-one : first one.result ≡ one.result = forest-1.ends one.result (omega (arith, one.ensures.within, one.ensures.whole, c.requires.one)) one.ensures.ends in
    let within : other.result < length other.new.numbers = omega (arith, other.ensures.within, other.ensures.whole, one.ensures.whole, c.requires.other) in
    let inside : one.result < length other.new.numbers = omega (arith, one.ensures.within, other.ensures.whole, one.ensures.whole, c.requires.one) in
    let top-other : first other.result ≡ other.result = forest-2.ends other.result within other.ensures.ends in
    let above : other.result ≤ one.result = omega (arith, c.if-one-other.false) in
    united_above _ first c.args.a c.args.b one.result other.result is-one is-other above
    (joined_forest other.new.numbers first one.result other.result inside above top-one top-other forest-2)
