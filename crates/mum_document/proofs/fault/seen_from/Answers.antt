use Rattle.mum_document.proofs.Common.{rules, Names}
use Rattle.mum_document.proofs.First.{moved}
use Rattle.mum_document.proofs.fault.seen_from.Goals as goal

pub returns-in-Ok : goal.returns-in-Ok
returns-in-Ok c = λ fault names. moved c.args.error c.in-Fault.cause c.in-Fault.key c.in-Ok.key c.args.way.now fault c.in-Fault.is (search rules) names

pub returns-in-Fault : goal.returns-in-Fault
unfolding Names
returns-in-Fault c = λ fault names. tt

pub returns : goal.returns
unfolding Names
returns c = λ fault names. tt
