use Rattle.mum_state.proofs.Common.{◌∙◌, ap, sym, subst, change_of, with_change, TreeState, ChannelsState}
use Rattle.mum_state.proofs.{Governed.edited_free, Governed.edited_value, Laid.IsOpenWhereFree}
use Rattle.mum_state.proofs.channels.Channels.edit.Goals as goal

pub invariant_of-self-2 : goal.invariant_of-self-2
invariant_of-self-2 c = record {
  proper = c.in_ok-edit_tree.ensures.proper;
  whole = c.self.invariant.whole ∙ sym (ap (λ (tree : TreeState). tree.limit) c.in_ok-edit_tree.ensures.ok);
  free = edited_free c.self.inside.policies.items c.self.inside.tree c.edit_tree.new.tree c.args.id (change_of c.args.change.now) c.in_ok-edit_tree.ensures.ok c.self.invariant.free;
}

pub returns-clause-ok : goal.returns-clause-ok
returns-clause-ok c =
    edited_value c.self.inside.policies.items c.self.inside.tree c.edit_tree.new.tree c.args.id (change_of c.args.change.now) c.in_ok-edit_tree.ensures.ok
    ∙ ap (λ (channels : ChannelsState). record channels { tree = with_change channels.tree c.args.id (change_of c.args.change.now) }) c.self.view_is

pub invariant_of-self : goal.invariant_of-self
invariant_of-self c = record {
  proper = c.in_err-edit_tree.ensures.proper;
  whole = c.self.invariant.whole ∙ sym (ap (λ (tree : TreeState). tree.limit) c.in_err-edit_tree.ensures.err);
  free = subst (λ (tree : TreeState). IsOpenWhereFree c.self.inside.policies.items tree.channels) (sym c.in_err-edit_tree.ensures.err) c.self.invariant.free;
}
