use Rattle.mum_rights_laws.proofs.ChannelLaws.{linked_where_permitted_lem}
use Rattle.mum_rights_laws.proofs.changes.links_change_where_permitted.Goals as goal

pub returns : goal.returns
returns c = linked_where_permitted_lem
