use Rattle.mum_rules_user.proofs.Common.{◌≡◌, ℕ, false, List, Some, None, ap, sym, ◌∙◌, session_of, RosterState, first_standing, takes_no_edits, tokens_for_once, actor_with, decided, command_of, command_verdict, user_verdict}
use Rattle.mum_rules_user.proofs.Decided.{fitting, found_again, later_reasons, session_verdict}
use Rattle.mum_rules_user.proofs.decide.decide_for.Goals as goal

found : (c : goal.After-tokens_brought) → session_of c.args.state.now.roster c.args.actor ≡ Some c.in-Some.user.now
found c = sym (c.in-Some.ensures.row ∙ ap (λ (r : RosterState). session_of r c.args.actor) c.roster.ensures.roster)

pub decide_with_tokens-requires-clause-actor : goal.decide_with_tokens-requires-clause-actor
decide_with_tokens-requires-clause-actor c = found_again c.args.state.now c.args.actor c.in-Some.user.now (found c)

as_decided : (c : goal.After-decide_with_tokens) → command_verdict c.args.state.now (actor_with c.args.state.now.tree c.in-Some.user.now (tokens_for_once c.in-Some.user.now.tokens c.tokens_brought.result.now)) c.in-Some.user.now.session (command_of c.in-Some.user.now.session c.args.message.now) ≡ user_verdict c.args.state.now (Some c.args.actor) c.args.message.now
as_decided c =
    let state = c.args.state.now in
    let user = c.in-Some.user.now in
    let message = c.args.message.now in
    let here : session_of state.roster c.args.actor ≡ Some user = sym (c.in-Some.ensures.row ∙ ap (λ (r : RosterState). session_of r c.args.actor) c.roster.ensures.roster) in
    let room : takes_no_edits state ≡ false = sym c.takes_no_edits.ensures ∙ c.if-takes_no_edits.false in
    let none : first_standing (later_reasons state c.args.actor message) ≡ None = sym c.reason_to_ignore.ensures ∙ c.in_default-reason_to_ignore.is in
    ap (λ (tokens : List (List ℕ)). command_verdict state (actor_with state.tree user (tokens_for_once user.tokens tokens)) user.session (command_of user.session message)) c.tokens_brought.ensures
    ∙ session_verdict state c.args.actor message user here room none

pub returns-clause-decided : goal.returns-clause-decided
returns-clause-decided c = decided c.decide_with_tokens.result _ _ (as_decided c) c.decide_with_tokens.ensures

pub returns-clause-fits : goal.returns-clause-fits
returns-clause-fits c =
    fitting c.args.state.now c.args.actor c.args.message.now c.decide_with_tokens.result c.roster.ensures.proper
    (decided c.decide_with_tokens.result _ _ (as_decided c) c.decide_with_tokens.ensures)
