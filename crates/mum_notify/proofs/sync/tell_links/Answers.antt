use Rattle.mum_notify.proofs.Common.{has_links, if_it_tells, links_told, channel_frame}
use Rattle.mum_notify.proofs.Pieces.{told_at}
use Rattle.mum_notify.proofs.sync.tell_links.Goals as goal

pub loop-id-preserved : goal.loop-id-preserved
loop-id-preserved c =
    told_at channel_frame (λ id. if_it_tells has_links (links_told c.args.state.now.tree id)) c.args.frames.now.items c.args.ids.now c.loop-id.id-index _ c.loop-id.frames.items _ c.loop-id-test.true c.loop-id.invariant c.in_ok-tell_links_of.ensures
