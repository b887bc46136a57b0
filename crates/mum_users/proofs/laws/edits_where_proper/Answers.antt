use Rattle.mum_users.proofs.Refusals.{edits_where_proper_lem}
use Rattle.mum_users.proofs.laws.edits_where_proper.Goals as goal

pub returns : goal.returns
returns c = edits_where_proper_lem
