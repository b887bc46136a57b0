use Rattle.mum_rules_user.proofs.Common.{◌≡◌, List, Option, Some, None, ap, sym, ◌∙◌, option_map_or, ChannelId, ROOT, Actor, actor_of, TreeState, session_of, RosterState, actor_from, actor_at, home, all_met, actor_named, nobody, channel_of, needs_to_bring}
use Rattle.mum_users.specs.declared.user.User.{User}
use Rattle.mum_rules_user.proofs.moving.need_to_bring_named.Goals as goal

pub returns-in-Some : goal.returns-in-Some
returns-in-Some c =
    let state = c.args.state.now in
    let who = actor_of c.args.who.now in
    let session = c.args.session in
    let user = c.in-Some.user.now in
    let moved = c.who_is.result in
    let found : session_of state.roster session ≡ Some user = sym (c.in-Some.ensures.row ∙ ap (λ (r : RosterState). session_of r session) c.roster.ensures.roster) in
    let asks : actor_of moved ≡ actor_from state.tree user =
    c.who_is.ensures.actor
    ∙ ap (λ (channels : List ChannelId). actor_at channels user user.tokens) (c.as_slice.ensures.value ∙ c.home_of-home.ensures)
    ∙ ap (λ (tree : TreeState). actor_at (home tree user) user user.tokens) c.tree.ensures.tree in
    let named : actor_from state.tree user ≡ actor_named state session = sym (ap (λ (o : Option User). option_map_or (actor_from state.tree) o nobody) found) in
    let here : moved.channel ≡ channel_of state.roster session =
    ap (λ (a : Actor). a.channel) asks ∙ sym (ap (λ (o : Option User). option_map_or (λ (u : User). u.channel) o ROOT) found) in
    c.need_to_bring.ensures
    ∙ ap (λ (a : Actor). all_met state (needs_to_bring who a moved.channel c.args.there)) (asks ∙ named)
    ∙ ap (λ (channel : ChannelId). all_met state (needs_to_bring who (actor_named state session) channel c.args.there)) here
