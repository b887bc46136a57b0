use Rattle.mum_laws.proofs.Offering.{copies_counted, full_counted}
use Rattle.mum_laws.proofs.offers.offers_are_counted.Goals as goal

pub returns-clause-copies : goal.returns-clause-copies
returns-clause-copies c = copies_counted

pub returns-clause-full : goal.returns-clause-full
returns-clause-full c = full_counted
