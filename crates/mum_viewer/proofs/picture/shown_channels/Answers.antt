use Rattle.mum_viewer.proofs.Common.{None, sym, arith, ◌∙◌, shown_channels}
use Rattle.mum_viewer.proofs.{Copies.no_copy, Lists.next_front, Lists.whole_front, Rows.none_shown, Rows.some_shown}
use Rattle.mum_viewer.proofs.picture.shown_channels.Goals as goal

pub loop-channel-preserved : goal.loop-channel-preserved
loop-channel-preserved c =
    let tree = c.args.tree.now in
    let shown = c.in_ok-shown_channel.field-0 in
    let got = some_shown tree c.len.result c.in-Some.channel.now shown c.in-Some.ensures c.in_ok-shown_channel.ensures in
    let read = next_front (shown_channels tree) c.loop-channel.shown.items c.push.new.self.items c.len.result shown (omega arith) (sym got) c.loop-channel.invariant.front c.in_ok-push.ensures.items in
    record { front = read.front; within = read.within }

pub returns : goal.returns
returns c =
    let tree = c.args.tree.now in
    let none = none_shown tree c.len.result (sym (no_copy _ c.nth_channel.result c.in_default.not-Some) ∙ c.nth_channel.ensures) in
    c.from_vec.ensures
    ∙ whole_front (shown_channels tree) c.loop-channel.shown.items c.len.result None (omega arith) (sym none) (λ x e. cc e) c.loop-channel.invariant.front
