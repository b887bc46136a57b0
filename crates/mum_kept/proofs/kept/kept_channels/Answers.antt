use Rattle.mum_kept.proofs.Common.{◌∙◌, List, ap, arith, flat_map, take_all, ChannelId, kept_of}
use Rattle.mum_kept.proofs.{Lasting.kept_by_id, Lasting.pieces_at, Standing.one_has}
use Rattle.mum_kept.proofs.kept.kept_channels.Goals as goal

pub add_channel-requires : goal.add_channel-requires
add_channel-requires c = one_has c.args.state.now c.args.known.now c.first_from-at.result c.get.result c.get.ensures.lookup c.requires.known

pub loop-id-preserved : goal.loop-id-preserved
loop-id-preserved c =
    pieces_at (kept_of c.args.state.now) c.args.ids.now c.loop-id.id-index _ c.loop-id.channels.items _ c.loop-id-test.true c.loop-id.invariant c.in_ok-add_channel.ensures

pub returns : goal.returns
returns c =
    c.loop-id.invariant
    ∙ ap (λ (ids : List ChannelId). flat_map (kept_of c.args.state.now) ids) (take_all c.loop-id.id-index c.args.ids.now (omega arith) ∙ c.requires.ids)
    ∙ kept_by_id c.args.state.now c.requires.rise
