use Rattle.mum_rules_user.proofs.Common.{ap, ◌∙◌, list_any, SessionId, has_number}
use Rattle.mum_rules_user.proofs.Decided.{found_here}
use Rattle.mum_rules_user.proofs.decide.decide_with_tokens.Goals as goal

pub decide_command-requires-clause-actor : goal.decide_command-requires-clause-actor
decide_command-requires-clause-actor c =
    let state = c.args.state.now in
    let user = c.args.user.now in
    ap (λ (s : SessionId). list_any (has_number s) state.roster.sessions) c.who_is-who.ensures.session ∙ found_here state user.session user c.requires.actor

pub decide_command-requires-2-clause-actor : goal.decide_command-requires-2-clause-actor
decide_command-requires-2-clause-actor c =
    let state = c.args.state.now in
    let user = c.args.user.now in
    ap (λ (s : SessionId). list_any (has_number s) state.roster.sessions) c.who_with-who.ensures.session ∙ found_here state user.session user c.requires.actor
