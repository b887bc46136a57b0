use Rattle.mum_route.proofs.Common.{◌∙◌, sym, LISTEN, may}
use Rattle.mum_route.proofs.Present.{third_of}
use Rattle.mum_route.proofs.reach.hears_in.Goals as goal

pub returns-clause-value : goal.returns-clause-value
returns-clause-value g c =
    let state = c.args.state.now in
    let user = c.args.user.now in
    c.may_as.ensures.value
    ∙ third_of _ _ (may state user.session LISTEN c.args.channel) (sym c.covers.ensures.value ∙ c.if-not-covers.false) (sym c.is_in_group.ensures ∙ c.if-not-is_in_group.false)
