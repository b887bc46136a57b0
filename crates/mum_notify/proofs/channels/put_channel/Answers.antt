use Rattle.mum_notify.proofs.Common.{List, subst, sym, ChannelId, Rises, is_lower}
use Rattle.mum_notify.proofs.Placed.{put_in, put_there, rises_with}
use Rattle.mum_notify.proofs.channels.put_channel.Goals as goal

pub returns-then-stands_at-clause-value : goal.returns-then-stands_at-clause-value
returns-then-stands_at-clause-value c =
    put_there c.args.id c.args.ordered.now.items c.as_slice.result.now c.as_slice-2.result.now c.place_for-place.result c.as_slice.ensures.value c.as_slice-2.ensures.value c.place_for-place.ensures.place c.if-stands_at.ensures

pub returns-clause-value : goal.returns-clause-value
returns-clause-value c =
    put_in c.args.id c.args.ordered.now.items c.as_slice.result.now c.as_slice-2.result.now _ c.place_for-place.result c.as_slice.ensures.value c.as_slice-2.ensures.value c.place_for-place.ensures.place c.if-stands_at.ensures c.in_ok-insert.ensures.items

pub returns-clause-rise : goal.returns-clause-rise
returns-clause-rise c =
    subst (λ (ids : List ChannelId). Rises is_lower ids)
    (sym (put_in c.args.id c.args.ordered.now.items c.as_slice.result.now c.as_slice-2.result.now _ c.place_for-place.result c.as_slice.ensures.value c.as_slice-2.ensures.value c.place_for-place.ensures.place c.if-stands_at.ensures c.in_ok-insert.ensures.items))
    (rises_with c.args.id c.args.ordered.now.items c.requires)
