use Rattle.mum_route.proofs.Common.{get_or}
use Rattle.mum_route.proofs.{Aimed.talk_heard, Known.known_none}
use Rattle.mum_route.proofs.routes.reached_by_talk.Goals as goal

pub pass_aim-requires-clause-right : goal.pass_aim-requires-clause-right
pass_aim-requires-clause-right g c = known_none c.args.state.now _ _ c.nothing_known-known.result c.nothing_known-known.ensures.nothing

pub returns-clause-value : goal.returns-clause-value
returns-clause-value g c = λ k d within.
    talk_heard c.args.state.now c.args.speaker.now (get_or c.args.state.now.roster.sessions k d) _ _ _
    c.requires.there c.talk-aim.ensures (c.nobody_reached-reached.ensures.nobody k) (c.pass_aim.ensures.each k d within)
