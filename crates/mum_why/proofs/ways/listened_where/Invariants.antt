use Rattle.mum_why.proofs.Common.{◌≡◌, drop, true, find, aimed, stops}
use Rattle.mum_why.proofs.ways.listened_where.Given as goal

abbrev pub invariant-pairs : goal.invariant-pairs
invariant-pairs g l =
    find (λ pair. stops l.case.state.now (aimed l.aim) l.case.hearer.now true l.wanted pair.channel) (drop l.pair-index l.pairs)
    ≡ find (λ pair. stops l.case.state.now (aimed l.aim) l.case.hearer.now true l.wanted pair.channel) l.pairs
