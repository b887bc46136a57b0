use Rattle.mum_notify.proofs.Common.{◌≡◌, ◌++◌, map, take, flat_map, has_links, if_it_tells, links_told, channel_frame}
use Rattle.mum_notify.proofs.sync.tell_links.Given as goal

abbrev pub invariant-loop-id : goal.invariant-loop-id
invariant-loop-id l = l.frames.items ≡ l.fn.frames.items ++ map channel_frame (flat_map (λ id. if_it_tells has_links (links_told l.state.tree id)) (take l.id-index l.ids))
