use Rattle.mum_address.proofs.Pieces.{no_further, all_come, read_fits}
use Rattle.mum_address.proofs.reader.reads_no_further.Goals as goal

pub returns-clause-no_further : goal.returns-clause-no_further
returns-clause-no_further c = λ bytes more header behind told came is e. no_further came more header behind told is e

pub returns-clause-all : goal.returns-clause-all
returns-clause-all c = λ bytes more header behind told came is e none. all_come came more header behind told is e none

pub returns-clause-limit : goal.returns-clause-limit
returns-clause-limit c = λ bytes came. read_fits came
