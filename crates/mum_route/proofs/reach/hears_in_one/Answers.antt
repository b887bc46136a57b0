use Rattle.mum_route.proofs.Common.{refl}
use Rattle.mum_route.proofs.Present.{listened_there}
use Rattle.mum_route.proofs.reach.hears_in_one.Goals as goal

pub hears_in-requires-clause-there : goal.hears_in-requires-clause-there
hears_in-requires-clause-there g c =
    listened_there c.args.state.now c.args.state.now.roster c.args.user.now.session c.args.pairs.now c.loop-pair.pair-index _
    c.tree.ensures.proper refl c.requires.pairs c.loop-pair-test.true
