use Rattle.mum_rights_laws.proofs.ChannelLaws.{made_where_permitted_lem, removed_where_permitted_lem}
use Rattle.mum_rights_laws.proofs.changes.channels_come_and_go_where_permitted.Goals as goal

pub returns-clause-removed : goal.returns-clause-removed
returns-clause-removed c = removed_where_permitted_lem

pub returns-clause-made : goal.returns-clause-made
returns-clause-made c = made_where_permitted_lem
