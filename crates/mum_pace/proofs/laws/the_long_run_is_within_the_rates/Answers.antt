use Rattle.mum_pace.proofs.Kept.{in_the_long_run}
use Rattle.mum_pace.proofs.laws.the_long_run_is_within_the_rates.Goals as goal

pub returns : goal.returns
returns c = in_the_long_run
