use Rattle.mum_rights_laws.proofs.ChannelLaws.{channels_stay_what_they_are_lem, described_where_permitted_lem, placed_where_permitted_lem}
use Rattle.mum_rights_laws.proofs.changes.channels_change_where_permitted.Goals as goal

pub returns-clause-described : goal.returns-clause-described
returns-clause-described c = described_where_permitted_lem

pub returns-clause-placed : goal.returns-clause-placed
returns-clause-placed c = placed_where_permitted_lem

pub returns-clause-what : goal.returns-clause-what
returns-clause-what c = channels_stay_what_they_are_lem
