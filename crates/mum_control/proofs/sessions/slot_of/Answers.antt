use Rattle.mum_control.proofs.Common.{◌≡◌, ◌∙◌, Some, ap, sym, option_copied, option_map, session_of, RosterState, User}
use Rattle.mum_control.proofs.Addressed.{session_in_slot}
use Rattle.mum_control.proofs.sessions.slot_of.Goals as goal

pub returns-in-Some-clause-slot : goal.returns-in-Some-clause-slot
returns-in-Some-clause-slot c =
    let found : session_of c.args.state.now.roster c.args.session ≡ Some c.in-Some.user.now =
    ap (λ (roster : RosterState). session_of roster c.args.session) (sym c.roster-roster.ensures.roster) ∙ sym c.session.ensures.row ∙ ap option_copied c.in-Some.is in
    ap (option_map (λ (user : User). user.slot)) (sym found)

pub returns-in-Some-clause-below : goal.returns-in-Some-clause-below
returns-in-Some-clause-below c =
    let found : session_of c.args.state.now.roster c.args.session ≡ Some c.in-Some.user.now =
    ap (λ (roster : RosterState). session_of roster c.args.session) (sym c.roster-roster.ensures.roster) ∙ sym c.session.ensures.row ∙ ap option_copied c.in-Some.is in
    session_in_slot c.args.state.now c.args.session c.in-Some.user.now c.roster-roster.ensures.proper found

pub returns-in-None-clause-slot : goal.returns-in-None-clause-slot
returns-in-None-clause-slot c =
    ap (option_map (λ (user : User). user.slot))
    (ap option_copied (sym c.in-None.is) ∙ c.session.ensures.row ∙ ap (λ (roster : RosterState). session_of roster c.args.session) c.roster-roster.ensures.roster)
