use Rattle.mum_rights_laws.proofs.OwnLaws.{channels_stand_lem, settings_stand_lem}
use Rattle.mum_rights_laws.proofs.sessions.the_rest_stands.Goals as goal

pub returns-clause-channels : goal.returns-clause-channels
returns-clause-channels c = channels_stand_lem

pub returns-clause-settings : goal.returns-clause-settings
returns-clause-settings c = settings_stand_lem
