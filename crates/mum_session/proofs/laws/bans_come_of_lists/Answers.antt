use Rattle.mum_session.proofs.Lists.{alike, sends, sent, strange}
use Rattle.mum_session.proofs.laws.bans_come_of_lists.Goals as goal

pub returns-clause-lists : goal.returns-clause-lists
returns-clause-lists c = λ machine kind payload asked. (sends machine kind payload asked, sent machine kind payload asked)

pub returns-clause-others : goal.returns-clause-others
returns-clause-others c = alike

pub returns-clause-strangers : goal.returns-clause-strangers
returns-clause-strangers c = strange
