use Rattle.mum_rights_laws.proofs.HeardLaws.{talk_is_heard_by_lists_lem, whispers_are_heard_by_lists_lem}
use Rattle.mum_rights_laws.proofs.hearers.packets_are_heard_by_lists.Goals as goal

pub returns-clause-talk : goal.returns-clause-talk
returns-clause-talk c = talk_is_heard_by_lists_lem

pub returns-clause-whispers : goal.returns-clause-whispers
returns-clause-whispers c = whispers_are_heard_by_lists_lem
