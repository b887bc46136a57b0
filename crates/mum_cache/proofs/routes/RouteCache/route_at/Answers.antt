use Rattle.mum_cache.proofs.Common.{◌≡◌, ◌∙◌, ◌<◌, List, Some, get_or, ap, arith, subst, sym, option_copied, SessionId, RosterState, session_of, members_by, hearers_of, route, RouteEntry, IsRouteEntry, KeepsRoute, RouteAnswers, no_route, route_index, route_kept_at}
use Rattle.mum_cache.proofs.{Answered.get_same, Kept.aimed_below, Kept.heard_kept, Kept.is_speaker, Kept.kept_stands, Others.number_is}
use Rattle.mum_cache.proofs.routes.RouteCache.route_at.Goals as goal

pub keep-requires-clause-speaker : goal.keep-requires-clause-speaker
keep-requires-clause-speaker g c =
    let state = c.args.state.now in
    let user = c.in-Some.user.now in
    let found : session_of state.roster c.args.speaker ≡ Some user =
    sym (ap (λ (r : RosterState). session_of r c.args.speaker) c.roster.ensures.roster) ∙ sym c.session.ensures.row ∙ ap option_copied c.in-Some.is in
    let is = is_speaker state c.args.speaker user c.roster.ensures.proper found in
    is

pub at-requires : goal.at-requires
at-requires g c =
    let state = c.args.state.now in
    let user = c.in-Some.user.now in
    let found : session_of state.roster c.args.speaker ≡ Some user =
    sym (ap (λ (r : RosterState). session_of r c.args.speaker) c.roster.ensures.roster) ∙ sym c.session.ensures.row ∙ ap option_copied c.in-Some.is in
    let is = is_speaker state c.args.speaker user c.roster.ensures.proper found in
    let aimed = aimed_below c.args.target c.requires.target c.if-target-eq-LOOPBACK.false in
    let slot : user.slot.0 < 512 = is.slot in
    omega (arith, slot, aimed, c.keep.ensures.room)

pub hear_reached-requires : goal.hear_reached-requires
hear_reached-requires g c =
    let state = c.args.state.now in
    let user = c.in-Some.user.now in
    let found : session_of state.roster c.args.speaker ≡ Some user =
    sym (ap (λ (r : RosterState). session_of r c.args.speaker) c.roster.ensures.roster) ∙ sym c.session.ensures.row ∙ ap option_copied c.in-Some.is in
    let is = is_speaker state c.args.speaker user c.roster.ensures.proper found in
    is.own

pub returns-clause-members : goal.returns-clause-members
returns-clause-members g c =
    let state = c.args.state.now in
    let user = c.in-Some.user.now in
    let found : session_of state.roster c.args.speaker ≡ Some user =
    sym (ap (λ (r : RosterState). session_of r c.args.speaker) c.roster.ensures.roster) ∙ sym c.session.ensures.row ∙ ap option_copied c.in-Some.is in
    let is = is_speaker state c.args.speaker user c.roster.ensures.proper found in
    let aimed = aimed_below c.args.target c.requires.target c.if-target-eq-LOOPBACK.false in
    let number = number_is state c.args.speaker user found in
    let later : List RouteEntry = c.keep.new.entries in
    let slot : user.slot.0 < 512 = is.slot in
    let at : c.at.result.now ≡ get_or later (route_index user.slot.0 c.args.target) no_route =
    c.at.ensures ∙ get_same later (route_index user.slot.0 c.args.target) c.at.result.now no_route (omega (arith, slot, aimed, c.keep.ensures.room)) in
    let heard : members_by state.roster.sessions c.at.result.now.reached ≡ route state c.args.speaker c.args.target =
    ap (λ (one : RouteEntry). members_by state.roster.sessions one.reached) at
    ∙ heard_kept state user c.args.target is aimed c.self.inside.entries later c.self.invariant c.keep.ensures.kept
    ∙ ap (λ (s : SessionId). route state s c.args.target) number in
    c.hear_reached.ensures.members ∙ heard

pub returns-clause-hearers : goal.returns-clause-hearers
returns-clause-hearers g c =
    let state = c.args.state.now in
    let user = c.in-Some.user.now in
    let found : session_of state.roster c.args.speaker ≡ Some user =
    sym (ap (λ (r : RosterState). session_of r c.args.speaker) c.roster.ensures.roster) ∙ sym c.session.ensures.row ∙ ap option_copied c.in-Some.is in
    let is = is_speaker state c.args.speaker user c.roster.ensures.proper found in
    let aimed = aimed_below c.args.target c.requires.target c.if-target-eq-LOOPBACK.false in
    let number = number_is state c.args.speaker user found in
    let later : List RouteEntry = c.keep.new.entries in
    let slot : user.slot.0 < 512 = is.slot in
    let at : c.at.result.now ≡ get_or later (route_index user.slot.0 c.args.target) no_route =
    c.at.ensures ∙ get_same later (route_index user.slot.0 c.args.target) c.at.result.now no_route (omega (arith, slot, aimed, c.keep.ensures.room)) in
    let heard : members_by state.roster.sessions c.at.result.now.reached ≡ route state c.args.speaker c.args.target =
    ap (λ (one : RouteEntry). members_by state.roster.sessions one.reached) at
    ∙ heard_kept state user c.args.target is aimed c.self.inside.entries later c.self.invariant c.keep.ensures.kept
    ∙ ap (λ (s : SessionId). route state s c.args.target) number in
    c.hear_reached.ensures.hearers
    ∙ ap (hearers_of state user.session) heard
    ∙ ap (λ (s : SessionId). hearers_of state s (route state c.args.speaker c.args.target)) number

pub returns-clause-steps : goal.returns-clause-steps
returns-clause-steps g c =
    let state = c.args.state.now in
    let user = c.in-Some.user.now in
    let found : session_of state.roster c.args.speaker ≡ Some user =
    sym (ap (λ (r : RosterState). session_of r c.args.speaker) c.roster.ensures.roster) ∙ sym c.session.ensures.row ∙ ap option_copied c.in-Some.is in
    let is = is_speaker state c.args.speaker user c.roster.ensures.proper found in
    let number = number_is state c.args.speaker user found in
    λ stands.
    c.keep.ensures.steps
    (subst (λ (s : SessionId). RouteAnswers state s c.args.target c.self.inside.entries) (sym number)
    (subst (λ (es : List RouteEntry). RouteAnswers state c.args.speaker c.args.target es) (sym c.self.view_is) stands))

pub returns-clause-unasked : goal.returns-clause-unasked
returns-clause-unasked g c =
    let state = c.args.state.now in
    let user = c.in-Some.user.now in
    let found : session_of state.roster c.args.speaker ≡ Some user =
    sym (ap (λ (r : RosterState). session_of r c.args.speaker) c.roster.ensures.roster) ∙ sym c.session.ensures.row ∙ ap option_copied c.in-Some.is in
    let is = is_speaker state c.args.speaker user c.roster.ensures.proper found in
    let number = number_is state c.args.speaker user found in
    λ stands.
    c.keep.ensures.unasked
    (subst (λ (s : SessionId). RouteAnswers state s c.args.target c.self.inside.entries) (sym number)
    (subst (λ (es : List RouteEntry). RouteAnswers state c.args.speaker c.args.target es) (sym c.self.view_is) stands))

pub returns-clause-kept : goal.returns-clause-kept
returns-clause-kept g c =
    let state = c.args.state.now in
    let user = c.in-Some.user.now in
    let found : session_of state.roster c.args.speaker ≡ Some user =
    sym (ap (λ (r : RosterState). session_of r c.args.speaker) c.roster.ensures.roster) ∙ sym c.session.ensures.row ∙ ap option_copied c.in-Some.is in
    let is = is_speaker state c.args.speaker user c.roster.ensures.proper found in
    let number = number_is state c.args.speaker user found in
    λ there aimed.
    subst (λ (es : List RouteEntry). KeepsRoute state c.args.speaker c.args.target es c.keep.new.entries) c.self.view_is
    (subst (λ (s : SessionId). KeepsRoute state s c.args.target c.self.inside.entries c.keep.new.entries) number c.keep.ensures.kept)

pub returns-clause-stands : goal.returns-clause-stands
returns-clause-stands g c =
    let state = c.args.state.now in
    let user = c.in-Some.user.now in
    let found : session_of state.roster c.args.speaker ≡ Some user =
    sym (ap (λ (r : RosterState). session_of r c.args.speaker) c.roster.ensures.roster) ∙ sym c.session.ensures.row ∙ ap option_copied c.in-Some.is in
    let is = is_speaker state c.args.speaker user c.roster.ensures.proper found in
    let number = number_is state c.args.speaker user found in
    λ there aimed.
    subst (λ (s : SessionId). IsRouteEntry state s c.args.target (route_kept_at state s c.args.target c.keep.new.entries)) number
    (kept_stands state user c.args.target is aimed c.self.inside.entries c.keep.new.entries c.self.invariant c.keep.ensures.kept)
