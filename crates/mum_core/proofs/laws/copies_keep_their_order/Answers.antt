use Rattle.mum_core.proofs.{Alone.alone_hears_all, Origins.copies_follow_packets, Orders.none_sent_to_absent, Orders.sent_is_conserved, Told.heard_is_of_removed, Told.others_hear_none}
use Rattle.mum_core.proofs.laws.copies_keep_their_order.Goals as goal

pub returns-clause-only_there : goal.returns-clause-only_there
returns-clause-only_there c = none_sent_to_absent

pub returns-clause-conserved : goal.returns-clause-conserved
returns-clause-conserved c = sent_is_conserved

pub returns-clause-drained : goal.returns-clause-drained
returns-clause-drained c = heard_is_of_removed

pub returns-clause-own : goal.returns-clause-own
returns-clause-own c = others_hear_none

pub returns-clause-sent : goal.returns-clause-sent
returns-clause-sent c = copies_follow_packets

pub returns-clause-alone : goal.returns-clause-alone
returns-clause-alone c = alone_hears_all
