use Rattle.mum_command_laws.proofs.Common.{refl}
use Rattle.mum_command_laws.proofs.connections.sessions_follow_replies.Goals as goal

pub returns-clause-joined : goal.returns-clause-joined
returns-clause-joined c = λ machine session slot. refl

pub returns-clause-decided : goal.returns-clause-decided
returns-clause-decided c = λ machine. refl

pub returns-clause-rejected : goal.returns-clause-rejected
returns-clause-rejected c = λ machine. refl
