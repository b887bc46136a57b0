use Rattle.mum_pace.proofs.Uses.{within_the_rates}
use Rattle.mum_pace.proofs.laws.all_uses_are_within_the_rates.Goals as goal

pub returns : goal.returns
returns c = within_the_rates
