use Rattle.mum_frame.proofs.CallsOver.{conserved, given_prefix, given_none, given_too_long, refused_for_good}
use Rattle.mum_frame.proofs.laws.frames_come_in_any_pieces.Goals as goal

pub returns-clause-conserved : goal.returns-clause-conserved
returns-clause-conserved c = conserved

pub returns-clause-prefix : goal.returns-clause-prefix
returns-clause-prefix c = given_prefix

pub returns-clause-none : goal.returns-clause-none
returns-clause-none c = given_none

pub returns-clause-too_long : goal.returns-clause-too_long
returns-clause-too_long c = given_too_long

pub returns-clause-for_good : goal.returns-clause-for_good
returns-clause-for_good c calls kept later new answer above leads gives =
    refused_for_good kept calls later new answer above leads gives
