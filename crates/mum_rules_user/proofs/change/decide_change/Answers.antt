use Rattle.mum_rules_user.proofs.Common.{◌≡◌, Ok, Some, None, ap, sym, ◌∙◌, SessionId, actor_of, RosterState, Edit, Accepted, all_met, first_standing, passed, refused, Command, session_or, limits, limits_of_change, needs, edit_to_change, outcome}
use Rattle.mum_rules_user.proofs.change.decide_change.Goals as goal

pub returns-in-Some : goal.returns-in-Some
returns-in-Some c =
    let state = c.args.state.now in
    let who = actor_of c.args.who.now in
    let actor = c.args.who.now.session in
    let message = c.args.message.now in
    let command = Command.change (session_or actor message.session) message in
    let same = c.session_or-session.ensures in
    let ok : all_met state (needs state who actor command) ≡ Ok tt =
    sym (c.need_for_change.ensures ∙ ap (λ (s : SessionId). all_met state (needs state who actor (Command.change s message))) same) ∙ c.in_default.is in
    let stands : first_standing (limits state actor command) ≡ Some c.in-Some.kind =
    sym (c.limit_of_change.ensures ∙ ap (λ (s : SessionId). first_standing (limits_of_change state actor s message)) same) ∙ c.in-Some.is in
    c.refused.ensures
    ∙ sym (refused state (needs state who actor command) (limits state actor command) (outcome state who actor command) c.in-Some.kind ok stands)

pub returns : goal.returns
returns c =
    let state = c.args.state.now in
    let who = actor_of c.args.who.now in
    let actor = c.args.who.now.session in
    let message = c.args.message.now in
    let command = Command.change (session_or actor message.session) message in
    let same = c.session_or-session.ensures in
    let ok : all_met state (needs state who actor command) ≡ Ok tt =
    sym (c.need_for_change.ensures ∙ ap (λ (s : SessionId). all_met state (needs state who actor (Command.change s message))) same) ∙ c.in_default.is in
    let none : first_standing (limits state actor command) ≡ None =
    sym (c.limit_of_change.ensures ∙ ap (λ (s : SessionId). first_standing (limits_of_change state actor s message)) same) ∙ c.in_default-limit_of_change.is in
    let edit : c.in_ok-edit.edit ≡ edit_to_change state.roster actor (session_or actor message.session) message =
    c.in_ok-edit.ensures
    ∙ ap (λ (r : RosterState). edit_to_change r actor c.session_or-session.result message) c.roster-roster.ensures.roster
    ∙ ap (λ (s : SessionId). edit_to_change state.roster actor s message) same in
    ap (λ (e : Edit). Accepted e) edit
    ∙ sym (passed state (needs state who actor command) (limits state actor command) (outcome state who actor command) ok none)
