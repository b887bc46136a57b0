use Rattle.mum_route.proofs.Common.{◌∙◌, ap, sym, pairs_of, RosterState}
use Rattle.mum_route.proofs.Present.{nobody_listens}
use Rattle.mum_route.proofs.reach.listens_within.Goals as goal

pub returns-then-is_empty-clause-value : goal.returns-then-is_empty-clause-value
returns-then-is_empty-clause-value g c =
    nobody_listens _ (pairs_of c.args.state.now.roster c.args.user.now.session) c.pairs_of-pairs.result.now
    (c.pairs_of-pairs.ensures ∙ ap (λ (r : RosterState). pairs_of r c.args.user.now.session) c.roster.ensures.roster)
    (sym c.is_empty.ensures ∙ c.if-is_empty.true)
