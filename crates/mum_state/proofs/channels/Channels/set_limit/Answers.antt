use Rattle.mum_state.proofs.Common.{◌∙◌, List, ap, ChannelPolicy, TreeState, ChannelsState}
use Rattle.mum_state.proofs.Governed.{governed, raised_value}
use Rattle.mum_state.proofs.channels.Channels.set_limit.Goals as goal

pub returns-clause-ok : goal.returns-clause-ok
returns-clause-ok c =
    ap (λ (tree : TreeState). governed c.append.new.self.items tree) c.set_limit.ensures.made
    ∙ ap (λ (stored : List ChannelPolicy). governed stored (record c.self.inside.tree { limit = c.args.channels })) c.in_ok-append.ensures.items
    ∙ raised_value c.self.inside.policies.items c.in_ok-further.further.items c.self.inside.tree c.args.channels c.in_ok-further.ensures.opened
    ∙ ap (λ (channels : ChannelsState). record channels { tree = record channels.tree { limit = c.args.channels } }) c.self.view_is
