use Rattle.mum_owner.proofs.Common.{◌<◌, List, length, arith, lag_noted, Guest}
use Rattle.mum_owner.proofs.Rows.{mapped_more}
use Rattle.mum_owner.proofs.guests.note_lag_in.Goals as goal

pub loop-guest-preserved : goal.loop-guest-preserved
loop-guest-preserved c =
    let rows : List Guest = c.deref_mut-guest-items.result.now in
    let within : c.loop-guest.guest-index < length rows = omega arith in
    mapped_more (lag_noted c.args.connection) rows c.loop-guest.guest-items c.loop-guest.guest-index _ c.note_lag.new.guest within c.loop-guest.invariant c.note_lag.ensures
