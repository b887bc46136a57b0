use Rattle.mum_notify.proofs.Common.{◌∙◌, ap, map, flat_map, given, channel_ids, channel_of, channel_told, has_links, if_it_tells, links_told, channel_frame, tree_order}
use Rattle.mum_notify.proofs.Sent.{two_added}
use Rattle.mum_notify.proofs.sync.tell_tree.Goals as goal

pub returns : goal.returns
returns c =
    let tree = c.args.state.now.tree in
    two_added (λ ids. map channel_frame (flat_map (λ id. map channel_told (given (channel_of tree id))) ids)) (λ ids. map channel_frame (flat_map (λ id. if_it_tells has_links (links_told tree id)) ids))
    c.args.frames.now.items c.tell_channels.new.frames.items c.tell_links.new.frames.items
    (tree_order tree) c.in_ok-ordered.ordered.items c.as_slice.result.now (channel_ids tree) c.in_ok-ids.ids.items c.as_slice-2.result.now
    c.as_slice.ensures.value (c.in_ok-ordered.ensures ∙ ap tree_order c.tree-tree.ensures.tree) c.as_slice-2.ensures.value (c.in_ok-ids.ensures ∙ ap channel_ids c.tree-tree.ensures.tree)
    c.in_ok-tell_channels.ensures c.in_ok-tell_links.ensures
