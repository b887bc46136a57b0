use Rattle.mum_record.proofs.Laws.{step_of-found, step_of-line_of}
use Rattle.mum_record.proofs.read.reading_is_the_grammar.Goals as goal

pub returns-clause-exact : goal.returns-clause-exact
returns-clause-exact c = λ line step. (step_of-found line step, λ is. rw is.1 (step_of-line_of step is.0))

pub returns-clause-read_back : goal.returns-clause-read_back
returns-clause-read_back c = step_of-line_of
