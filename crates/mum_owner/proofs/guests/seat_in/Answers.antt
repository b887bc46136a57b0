use Rattle.mum_owner.proofs.Common.{◌<◌, List, length, arith, seated, Guest}
use Rattle.mum_owner.proofs.Rows.{mapped_more}
use Rattle.mum_owner.proofs.guests.seat_in.Goals as goal

pub loop-guest-preserved : goal.loop-guest-preserved
loop-guest-preserved c =
    let rows : List Guest = c.deref_mut-guest-items.result.now in
    let within : c.loop-guest.guest-index < length rows = omega arith in
    mapped_more (seated c.args.connection c.args.session c.args.slot) rows c.loop-guest.guest-items c.loop-guest.guest-index _ c.seat.new.guest within c.loop-guest.invariant c.seat.ensures
