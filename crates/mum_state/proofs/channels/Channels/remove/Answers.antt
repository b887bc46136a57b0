use Rattle.mum_state.proofs.Common.{◌∙◌, ap, sym, TreeState, ChannelsState, without_channel}
use Rattle.mum_state.proofs.Governed.{free_left, kept_there, removed_value}
use Rattle.mum_state.proofs.channels.Channels.remove.Goals as goal

pub invariant_of-self : goal.invariant_of-self
invariant_of-self c = record {
  proper = c.shrink.ensures.proper;
  whole = c.open_left_places.ensures.whole ∙ c.self.invariant.whole ∙ sym (ap (λ (tree : TreeState). tree.limit) c.shrink.ensures.removed);
  free = free_left c.taken_places-before.result c.self.inside.tree.channels c.shrink.new.tree.channels c.self.inside.policies.items c.open_left_places.new.policies.items
      c.open_left_places.ensures.opened c.open_left_places.ensures.kept c.taken_places-before.ensures c.self.invariant.free;
}

pub returns : goal.returns
returns c =
    removed_value c.self.inside.policies.items c.open_left_places.new.policies.items c.self.inside.tree c.shrink.new.tree c.args.id c.shrink.ensures.removed
    (kept_there c.taken_places-before.result c.self.inside.tree.channels c.shrink.new.tree.channels c.self.inside.policies.items c.open_left_places.new.policies.items
    c.open_left_places.ensures.opened c.open_left_places.ensures.kept)
    ∙ ap (λ (channels : ChannelsState). without_channel channels c.args.id) c.self.view_is
