use Rattle.mum_laws.proofs.Offering.{none_above, offers_of_runs}
use Rattle.mum_laws.proofs.offers.offers_go_to_the_back.Goals as goal

pub returns-clause-offers : goal.returns-clause-offers
returns-clause-offers c = offers_of_runs

pub returns-clause-at_most : goal.returns-clause-at_most
returns-clause-at_most c = none_above
