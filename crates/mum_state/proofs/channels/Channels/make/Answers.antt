use Rattle.mum_state.proofs.Common.{◌≡◌, ◌∙◌, None, ap, sym, subst, fault_of_set_info, TreeState, with_info, with_new, ChannelsState, with_channel_made}
use Rattle.mum_state.proofs.{Governed.made_value, Governed.new_there, Laid.IsOpenWhereFree, Laid.free_made}
use Rattle.mum_state.proofs.channels.Channels.make.Goals as goal

pub describe-requires : goal.describe-requires
describe-requires c =
    subst (λ (t : TreeState). fault_of_set_info t c.args.id ≡ None) (sym c.in_ok-grow.ensures.ok)
    (new_there c.self.inside.tree c.args.id c.args.parent c.args.name.now c.args.temporary)

pub invariant_of-self : goal.invariant_of-self
invariant_of-self c = record {
  proper = c.in_err-grow.ensures.proper;
  whole = c.self.invariant.whole ∙ sym (ap (λ (tree : TreeState). tree.limit) c.in_err-grow.ensures.err);
  free = subst (λ (tree : TreeState). IsOpenWhereFree c.self.inside.policies.items tree.channels) (sym c.in_err-grow.ensures.err) c.self.invariant.free;
}

pub invariant_of-self-2 : goal.invariant_of-self-2
invariant_of-self-2 c =
    let tree_is : c.describe.new.tree ≡ with_info (with_new c.self.inside.tree c.args.id c.args.parent c.args.name.now c.args.temporary) c.args.id c.args.info.now =
    c.describe.ensures.info
    ∙ ap (λ (t : TreeState). with_info t c.args.id c.in_ok-info.info) c.in_ok-grow.ensures.ok
    ∙ ap (with_info (with_new c.self.inside.tree c.args.id c.args.parent c.args.name.now c.args.temporary) c.args.id) c.in_ok-info.ensures in
    record {
      proper = c.describe.ensures.proper;
      whole = c.self.invariant.whole ∙ sym (ap (λ (t : TreeState). t.limit) tree_is);
      free = subst (λ (t : TreeState). IsOpenWhereFree c.self.inside.policies.items t.channels) (sym tree_is)
          (free_made c.self.inside.policies.items c.self.inside.tree c.args.id c.args.parent c.args.name.now c.args.temporary c.args.info.now c.self.invariant.free);
    }

pub returns-clause-ok : goal.returns-clause-ok
returns-clause-ok c =
    let tree_is : c.describe.new.tree ≡ with_info (with_new c.self.inside.tree c.args.id c.args.parent c.args.name.now c.args.temporary) c.args.id c.args.info.now =
    c.describe.ensures.info
    ∙ ap (λ (t : TreeState). with_info t c.args.id c.in_ok-info.info) c.in_ok-grow.ensures.ok
    ∙ ap (with_info (with_new c.self.inside.tree c.args.id c.args.parent c.args.name.now c.args.temporary) c.args.id) c.in_ok-info.ensures in
    made_value c.self.inside.policies.items c.self.inside.tree c.describe.new.tree c.args.id c.args.parent c.args.name.now c.args.temporary c.args.info.now c.self.invariant.free tree_is
    ∙ ap (λ (channels : ChannelsState). with_channel_made channels c.args.id c.args.parent c.args.name.now c.args.temporary c.args.info.now) c.self.view_is
