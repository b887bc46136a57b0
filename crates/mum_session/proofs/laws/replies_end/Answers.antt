use Rattle.mum_session.proofs.Replies.{joined_by, joined_of, rejected_by, rejected_of}
use Rattle.mum_session.proofs.laws.replies_end.Goals as goal

pub returns-clause-joined : goal.returns-clause-joined
returns-clause-joined c = λ verdict session slot. (joined_of verdict session slot, joined_by verdict session slot)

pub returns-clause-rejected : goal.returns-clause-rejected
returns-clause-rejected c = λ verdict. (rejected_of verdict, rejected_by verdict)
