use Rattle.mum_notify.proofs.Common.{◌≡◌, ◌∙◌, Some, sym, arith, slice_get, slice_get-map, Row, channel_ids}
use Rattle.mum_notify.proofs.Pieces.{next_front, whole_front}
use Rattle.mum_notify.proofs.children.channel_ids.Goals as goal

pub loop-id-preserved : goal.loop-id-preserved
loop-id-preserved c =
    let got : slice_get (channel_ids c.args.tree.now) c.len.result ≡ Some c.in-Some.id = slice_get-map (λ (row : Row). row.channel.id) c.args.tree.now.channels c.len.result ∙ sym c.in-Some.ensures in
    let read = next_front (channel_ids c.args.tree.now) c.loop-id.ids.items c.push.new.self.items c.len.result c.in-Some.id (omega arith) got c.loop-id.invariant.front c.in_ok-push.ensures.items in
    record { front = read.front; within = read.within }

pub returns : goal.returns
returns c =
    whole_front (channel_ids c.args.tree.now) c.loop-id.ids.items c.len.result c.nth.result (omega arith)
    (slice_get-map (λ (row : Row). row.channel.id) c.args.tree.now.channels c.len.result ∙ sym c.nth.ensures) c.in_default.not-Some c.loop-id.invariant.front
