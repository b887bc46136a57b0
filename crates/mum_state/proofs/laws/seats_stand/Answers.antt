use Rattle.mum_state.proofs.Seats.{seats_stand_lem}
use Rattle.mum_state.proofs.laws.seats_stand.Goals as goal

pub returns : goal.returns
returns c = seats_stand_lem
