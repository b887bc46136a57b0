use Rattle.mum_laws.proofs.Taking.{packets_looked_for, packets_taken}
use Rattle.mum_laws.proofs.packets.packets_are_looked_for_once.Goals as goal

pub returns-clause-looked_for : goal.returns-clause-looked_for
returns-clause-looked_for c = packets_looked_for

pub returns-clause-taken : goal.returns-clause-taken
returns-clause-taken c = packets_taken
