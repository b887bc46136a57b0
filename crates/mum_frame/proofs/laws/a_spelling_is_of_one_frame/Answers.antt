use Rattle.mum_frame.proofs.Headers.{spelling-injective, length-spelling_of}
use Rattle.mum_frame.proofs.laws.a_spelling_is_of_one_frame.Goals as goal

pub returns-clause-one : goal.returns-clause-one
returns-clause-one c = spelling-injective

pub returns-clause-length : goal.returns-clause-length
returns-clause-length c frame = length-spelling_of frame.kind frame.payload
