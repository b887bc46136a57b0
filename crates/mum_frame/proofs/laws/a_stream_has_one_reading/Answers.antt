use Rattle.mum_frame.proofs.Streams.{some_reading, one_reading, longest-Splits}
use Rattle.mum_frame.proofs.laws.a_stream_has_one_reading.Goals as goal

pub returns-clause-some : goal.returns-clause-some
returns-clause-some c = some_reading

pub returns-clause-one : goal.returns-clause-one
returns-clause-one c = one_reading

pub returns-clause-longest : goal.returns-clause-longest
returns-clause-longest c = longest-Splits
