use Rattle.mum_pace.proofs.Runs.{after_bytes-append, cost_in-append}
use Rattle.mum_pace.proofs.laws.reads_count_as_one.Goals as goal

pub returns-clause-place : goal.returns-clause-place
returns-clause-place c = after_bytes-append

pub returns-clause-cost : goal.returns-clause-cost
returns-clause-cost c = cost_in-append
