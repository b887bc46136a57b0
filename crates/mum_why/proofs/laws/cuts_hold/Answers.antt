use Rattle.mum_why.proofs.{Given.cuts_are_given, Given.cuts_hold, OneCut.cuts_are_alone}
use Rattle.mum_why.proofs.laws.cuts_hold.Goals as goal

pub returns-clause-given : goal.returns-clause-given
returns-clause-given c = cuts_are_given

pub returns-clause-hold : goal.returns-clause-hold
returns-clause-hold c = cuts_hold

pub returns-clause-alone : goal.returns-clause-alone
returns-clause-alone c = cuts_are_alone
