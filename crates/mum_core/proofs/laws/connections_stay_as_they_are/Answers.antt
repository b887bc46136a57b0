use Rattle.mum_core.proofs.{Places.connections_stay, Settled.closed_stays, Settled.seats_stay, Speakers.one_connection_a_session, Speakers.one_worker_a_speaker}
use Rattle.mum_core.proofs.laws.connections_stay_as_they_are.Goals as goal

pub returns-clause-stays : goal.returns-clause-stays
returns-clause-stays c = connections_stay

pub returns-clause-seat_stays : goal.returns-clause-seat_stays
returns-clause-seat_stays c = seats_stay

pub returns-clause-closed_stays : goal.returns-clause-closed_stays
returns-clause-closed_stays c = closed_stays

pub returns-clause-one_connection : goal.returns-clause-one_connection
returns-clause-one_connection c = one_connection_a_session

pub returns-clause-one_worker : goal.returns-clause-one_worker
returns-clause-one_worker c = one_worker_a_speaker
