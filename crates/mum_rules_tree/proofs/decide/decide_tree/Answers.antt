use Rattle.mum_rules_tree.proofs.Common.{◌≡◌, List, Some, ap, sym, ◌∙◌, ChannelId, actor_of, session_of, RosterState, TreeState, command_of, names_there, actor_at, home, command_verdict, tree_verdict}
use Rattle.mum_rules_tree.proofs.Heard.{decided, fitting, heard_verdict}
use Rattle.mum_rules_tree.proofs.decide.decide_tree.Goals as goal

as_decided : (c : goal.After-decide_command) → command_verdict c.args.state.now (actor_of c.who_is-who.result) c.who_is-who.result.session (command_of c.args.message.now) ≡ tree_verdict c.args.state.now c.args.actor c.args.message.now
as_decided c =
    let state = c.args.state.now in
    let user = c.in-Some.user.now in
    let found : session_of state.roster c.args.actor ≡ Some user = sym (c.in-Some.ensures.row ∙ ap (λ (r : RosterState). session_of r c.args.actor) c.roster.ensures.roster) in
    let named = sym (c.if-not-names_there.ensures ∙ ap (λ (tree : TreeState). names_there tree c.args.message.now) c.tree.ensures.tree) in
    heard_verdict state c.args.actor c.who_is-who.result.session c.args.message.now user (actor_of c.who_is-who.result)
    found
    (sym c.takes_no_edits.ensures ∙ c.if-takes_no_edits.false)
    (sym c.is_too_long.ensures ∙ c.if-is_too_long.false)
    named
    (c.who_is-who.ensures.actor
    ∙ ap (λ (channels : List ChannelId). actor_at channels user user.tokens) (c.as_slice.ensures.value ∙ c.home_of-home.ensures)
    ∙ ap (λ (tree : TreeState). actor_at (home tree user) user user.tokens) c.tree-2.ensures.tree)
    c.who_is-who.ensures.session

pub returns-clause-decided : goal.returns-clause-decided
returns-clause-decided c = decided c.decide_command.result _ _ (as_decided c) c.decide_command.ensures

pub returns-clause-fits : goal.returns-clause-fits
returns-clause-fits c =
    fitting c.args.state.now c.args.actor c.args.message.now c.decide_command.result c.roster.ensures.proper
    (decided c.decide_command.result _ _ (as_decided c) c.decide_command.ensures)
