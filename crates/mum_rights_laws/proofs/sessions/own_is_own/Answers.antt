use Rattle.mum_rights_laws.proofs.OwnLaws.{others_keep_their_own_lem, sessions_stay_who_they_are_lem}
use Rattle.mum_rights_laws.proofs.sessions.own_is_own.Goals as goal

pub returns-clause-others : goal.returns-clause-others
returns-clause-others c = others_keep_their_own_lem

pub returns-clause-selves : goal.returns-clause-selves
returns-clause-selves c = sessions_stay_who_they_are_lem
