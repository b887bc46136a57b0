use Rattle.mum_why.proofs.Common.{◌∙◌, refl, ap, pairs_of, RosterState, listened_there}
use Rattle.mum_why.proofs.ways.channel_where.Goals as goal

pub listened_where-requires-clause-there : goal.listened_where-requires-clause-there
listened_where-requires-clause-there g c = λ k d within.
    listened_there c.args.case.now.state.now c.args.case.now.state.now.roster c.args.case.now.hearer.now.session c.pairs_of-pairs.result.now k d c.roster.ensures.proper refl
    (c.pairs_of-pairs.ensures ∙ ap (λ (r : RosterState). pairs_of r c.args.case.now.hearer.now.session) c.roster.ensures.roster) within
