use Rattle.mum_config.proofs.Common.{◌<◌, length, sym, ◌∙◌, rules, err_from_is_err_and, view, channel_edits, channel_fault, met_of, with_channel_met, elements_step, elements_stop, folded, pushed_all}
use Rattle.mum_config.proofs.channel.add_channels.Goals as goal

pub returns-in_err-at_place-clause-reads : goal.returns-in_err-at_place-clause-reads
returns-in_err-at_place-clause-reads c =
    let p = err_from_is_err_and c.from_residual.result c.from_residual.ensures.1 in
    let v = c.index-values-place.result in
    let said = c.in_err-at_place.ensures.reads (channel_fault (met_of c.loop-place.met) (view v)) tt c.read_channel.ensures.reads in
    rw (p.1, p.2, ← c.loop-place.invariant.0) (elements_stop channel_fault with_channel_met _ (met_of c.loop-place.met) c.args.values.now c.loop-place.place v c.index-values-place.is (search rules) said)

pub loop-place-preserved : goal.loop-place-preserved
loop-place-preserved c =
    let v = c.index-values-place.result in
    let read = c.in_ok-at_place.ensures.reads (channel_fault (met_of c.loop-place.met) (view v)) tt c.read_channel.ensures.reads in
    let met = rw c.in_ok-at_place.ensures.ok at c.read_channel.ensures.met in
    let edits = rw c.in_ok-at_place.ensures.ok at c.read_channel.ensures.edits in
    let inside : c.loop-place.place < length c.args.values.now = search rules in (
      rw met (sym (elements_step channel_fault with_channel_met (met_of c.loop-place.met) c.args.values.now c.loop-place.place v c.index-values-place.is inside read.0) ∙ c.loop-place.invariant.0),
      folded with_channel_met (met_of c.args.met.now) _ _ c.args.values.now c.loop-place.place v c.index-values-place.is inside c.loop-place.invariant.1 met,
      pushed_all channel_edits _ _ _ c.args.values.now c.loop-place.place v c.index-values-place.is inside c.loop-place.invariant.2 edits,
    )
