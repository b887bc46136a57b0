use Rattle.mum_state.proofs.Common.{◌∙◌, List, ap, sym, ChannelId, Actor, TreeState, channels_of, granted_where_in, actor_at, home, perm_of, StateValue}
use Rattle.mum_state.proofs.Asked.{asked_of}
use Rattle.mum_state.proofs.parts.Parts.permissions_of.Goals as goal

pub returns-in-Some-clause-value : goal.returns-in-Some-clause-value
returns-in-Some-clause-value g c =
    let parts = c.self.inside in
    let before : StateValue = record {
      server = parts.server;
      accounts = parts.accounts;
      tree = parts.channels.tree;
      policies = parts.channels.policies;
      roster = parts.roster;
      counts = record { revision = parts.revision; policy = parts.stamps.policy; routing = parts.stamps.routing; slots = parts.slot_counts.items };
    } in
    c.counted_to.ensures.value
    ∙ ap (λ (who : Actor). granted_where_in (channels_of before) who c.args.channel)
    (c.who_is.ensures.actor
    ∙ ap (λ (way : List ChannelId). actor_at way c.in-Some.user.now c.in-Some.user.now.tokens)
    (c.as_slice.ensures.value ∙ c.home_of-home.ensures ∙ ap (λ (tree : TreeState). home tree c.in-Some.user.now) c.tree.ensures.tree))
    ∙ asked_of before c.args.session c.args.channel c.in-Some.user.now (sym c.in-Some.ensures.row)
    ∙ ap (λ (s : StateValue). perm_of s c.args.session c.args.channel) c.self.view_is
