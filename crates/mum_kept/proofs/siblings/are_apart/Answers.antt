use Rattle.mum_kept.proofs.Common.{sym, ◌∙◌, arith}
use Rattle.mum_kept.proofs.Seats.{apart_all, seat_kept, seat_lost}
use Rattle.mum_kept.proofs.siblings.are_apart.Goals as goal

pub loop-channel-preserved : goal.loop-channel-preserved
loop-channel-preserved c =
    let both = seat_kept c.loop-channel.seats.keys c.args.channels.now c.loop-channel.channel-index c.channel-item.result c.loop-channel-test.true c.channel-item.is c.loop-channel.invariant.seats _
    (sym c.in_ok-free.ensures.free ∙ c.if-not-free.false) (c.in_ok-free.ensures.seats c.if-not-free.false) c.loop-channel.invariant.apart in
    record { apart = both.0; seats = both.1 }

pub returns-then-not-free : goal.returns-then-not-free
returns-then-not-free c =
    seat_lost c.loop-channel.seats.keys c.args.channels.now c.loop-channel.channel-index c.channel-item.result c.loop-channel-test.true c.channel-item.is c.loop-channel.invariant.seats
    (sym c.in_ok-free.ensures.free ∙ c.if-not-free.true)

pub returns : goal.returns
returns c = apart_all c.args.channels.now c.loop-channel.channel-index (omega arith) c.loop-channel.invariant.apart
