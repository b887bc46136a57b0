use Rattle.mum_route.proofs.Common.{◌≡◌, ◌∙◌, [], Option, Some, ap, sym, option_copied, option_map_or, SessionId, RosterState, session_of, User, hearers_of, heard_from}
use Rattle.mum_route.proofs.{Hearers.found_number, Present.channel_there, Slots.slot_below}
use Rattle.mum_route.proofs.routes.route_with.Goals as goal

pub hear_from-requires-clause-there : goal.hear_from-requires-clause-there
hear_from-requires-clause-there g c =
    let user = c.in-Some.user.now in
    let found : session_of c.args.state.now.roster c.args.speaker ≡ Some user =
    sym (ap (λ (r : RosterState). session_of r c.args.speaker) c.roster.ensures.roster) ∙ sym c.session.ensures.row ∙ ap option_copied c.in-Some.is in
    channel_there c.args.state.now c.args.speaker user c.roster.ensures.proper found

pub hear_from-requires-clause-own : goal.hear_from-requires-clause-own
hear_from-requires-clause-own g c =
    let user = c.in-Some.user.now in
    let found : session_of c.args.state.now.roster c.args.speaker ≡ Some user =
    sym (ap (λ (r : RosterState). session_of r c.args.speaker) c.roster.ensures.roster) ∙ sym c.session.ensures.row ∙ ap option_copied c.in-Some.is in
    ap (session_of c.args.state.now.roster) (found_number c.args.state.now.roster.sessions c.args.speaker user found) ∙ found

pub hear_from-requires-clause-slot : goal.hear_from-requires-clause-slot
hear_from-requires-clause-slot g c =
    let user = c.in-Some.user.now in
    let found : session_of c.args.state.now.roster c.args.speaker ≡ Some user =
    sym (ap (λ (r : RosterState). session_of r c.args.speaker) c.roster.ensures.roster) ∙ sym c.session.ensures.row ∙ ap option_copied c.in-Some.is in
    slot_below c.args.state.now.roster c.args.speaker user c.roster.ensures.proper.roster found

pub returns-in-Some-clause-hearers : goal.returns-in-Some-clause-hearers
returns-in-Some-clause-hearers g c =
    let state = c.args.state.now in
    let user = c.in-Some.user.now in
    let found : session_of state.roster c.args.speaker ≡ Some user =
    sym (ap (λ (r : RosterState). session_of r c.args.speaker) c.roster.ensures.roster) ∙ sym c.session.ensures.row ∙ ap option_copied c.in-Some.is in
    c.hear_from.ensures.hearers
    ∙ ap (λ (s : SessionId). hearers_of state s (heard_from state user c.args.target)) (found_number state.roster.sessions c.args.speaker user found)
    ∙ ap (hearers_of state c.args.speaker) (sym (ap (λ (o : Option User). option_map_or (λ one. heard_from state one c.args.target) o []) found))
