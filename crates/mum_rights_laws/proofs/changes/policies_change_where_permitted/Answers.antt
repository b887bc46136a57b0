use Rattle.mum_rights_laws.proofs.ChannelLaws.{ruled_where_permitted_lem}
use Rattle.mum_rights_laws.proofs.changes.policies_change_where_permitted.Goals as goal

pub returns : goal.returns
returns c = ruled_where_permitted_lem
