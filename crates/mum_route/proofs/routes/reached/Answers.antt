use Rattle.mum_route.proofs.Common.{◌∙◌, arith, sym}
use Rattle.mum_route.proofs.{Present.few_sessions, Spoken.members_reached, Spoken.silent_reaches}
use Rattle.mum_route.proofs.routes.reached.Goals as goal

pub returns-then-is_silent-clause-members : goal.returns-then-is_silent-clause-members
returns-then-is_silent-clause-members g c =
    silent_reaches c.args.state.now c.args.speaker.now c.args.target c.nobody_reached.result c.nobody_reached.ensures.nobody
    (sym c.is_silent.ensures ∙ c.if-is_silent.true)

pub returns-clause-members : goal.returns-clause-members
returns-clause-members g c =
    let few = few_sessions c.args.state.now c.requires.proper in
    members_reached c.args.state.now c.args.speaker.now c.args.target c.reached_by.result (omega (arith, few))
    c.reached_by.ensures.value (sym c.is_silent.ensures ∙ c.if-is_silent.false) (λ is. absurd (omega (arith, is, c.requires.target)))
