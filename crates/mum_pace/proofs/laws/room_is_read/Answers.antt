use Rattle.mum_pace.proofs.Kept.{payload_is_read, some_is_read, some_is_read_again}
use Rattle.mum_pace.proofs.laws.room_is_read.Goals as goal

pub returns-clause-some : goal.returns-clause-some
returns-clause-some c = some_is_read

pub returns-clause-after_a_second : goal.returns-clause-after_a_second
returns-clause-after_a_second c = some_is_read_again

pub returns-clause-payload : goal.returns-clause-payload
returns-clause-payload c = payload_is_read
