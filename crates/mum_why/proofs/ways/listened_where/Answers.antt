use Rattle.mum_why.proofs.Common.{◌∙◌, Bool, eqb, true, sym, ap, option_map, ListenerPair, Stop, aimed, level, stops}
use Rattle.mum_why.proofs.FirstWay.{find_end, find_here, find_next}
use Rattle.mum_why.proofs.ways.listened_where.Goals as goal

pub stop_of-requires-clause-there : goal.stop_of-requires-clause-there
stop_of-requires-clause-there g c = c.requires.there c.pairs.pair-index _ c.pairs-test.true

pub returns-then-is : goal.returns-then-is
returns-then-is g c =
    let test : ListenerPair → Bool = λ pair. stops c.args.case.now.state.now (aimed c.args.aim.now) c.args.case.now.hearer.now true c.args.wanted pair.channel in
    sym (ap (option_map (λ (pair : ListenerPair). pair.channel))
    (find_here test c.args.pairs.now c.pairs.pair-index _ c.pairs-test.true
    (sym (c.is.ensures ∙ ap (λ (stop : Stop). eqb (level stop) (level c.args.wanted)) c.stop_of.ensures) ∙ c.if-is.true) c.pairs.invariant))

pub pairs-preserved : goal.pairs-preserved
pairs-preserved g c =
    let test : ListenerPair → Bool = λ pair. stops c.args.case.now.state.now (aimed c.args.aim.now) c.args.case.now.hearer.now true c.args.wanted pair.channel in
    find_next test c.args.pairs.now c.pairs.pair-index _ c.pairs-test.true
    (sym (c.is.ensures ∙ ap (λ (stop : Stop). eqb (level stop) (level c.args.wanted)) c.stop_of.ensures) ∙ c.if-is.false) c.pairs.invariant

pub returns : goal.returns
returns g c =
    let test : ListenerPair → Bool = λ pair. stops c.args.case.now.state.now (aimed c.args.aim.now) c.args.case.now.hearer.now true c.args.wanted pair.channel in
    sym (ap (option_map (λ (pair : ListenerPair). pair.channel)) (find_end test c.args.pairs.now c.pairs.pair-index c.pairs-test.false c.pairs.invariant))
