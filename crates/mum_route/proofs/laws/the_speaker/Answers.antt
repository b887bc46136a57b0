use Rattle.mum_route.proofs.Common.{◌≢◌, ◌∙◌, [], ◌∷◌, ap, sym, and_parts, eq-eqb, not-true, false≢true, SessionId, has_number, Member}
use Rattle.mum_route.proofs.Hearers.{each_hearing, found_number, route_of_loopback}
use Rattle.mum_route.proofs.laws.the_speaker.Goals as goal

pub returns-clause-never : goal.returns-clause-never
returns-clause-never c = λ state speaker target away.
    each_hearing state speaker target (λ member. member.0.0 ≢ speaker.0) away
    (λ own user context is same.
    let number = found_number state.roster.sessions speaker own is.found in
    let other = not-true (has_number own.session user) (and_parts _ _ is.can).0 in
    false≢true (sym other ∙ eq-eqb user.session.0 own.session.0 (same ∙ ap (λ (s : SessionId). s.0) (sym number))))

pub returns-clause-loopback : goal.returns-clause-loopback
returns-clause-loopback c = λ state speaker user found heard.
    route_of_loopback state speaker user found heard
    ∙ ap (λ (s : SessionId). let one : Member = (s, 0) in one ∷ []) (found_number state.roster.sessions speaker user found)
