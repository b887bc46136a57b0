use Rattle.mum_core.proofs.{Fitted.edits_fit, RunLaws.accepted_grows, RunLaws.opening_stays, RunLaws.published_is_accepted, RunLaws.published_never_falls}
use Rattle.mum_core.proofs.laws.accepted_edits_are_one_list.Goals as goal

pub returns-clause-grows : goal.returns-clause-grows
returns-clause-grows c = accepted_grows

pub returns-clause-opening : goal.returns-clause-opening
returns-clause-opening c = opening_stays

pub returns-clause-fit : goal.returns-clause-fit
returns-clause-fit c = edits_fit

pub returns-clause-published : goal.returns-clause-published
returns-clause-published c = published_is_accepted

pub returns-clause-never_back : goal.returns-clause-never_back
returns-clause-never_back c = published_never_falls
