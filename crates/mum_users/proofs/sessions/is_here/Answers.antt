use Rattle.mum_users.proofs.Common.{ap, ◌∙◌, is_some, has_number}
use Rattle.mum_users.proofs.Places.{is_some-position}
use Rattle.mum_users.proofs.sessions.is_here.Goals as goal

pub returns : goal.returns
returns c = c.is_some.ensures ∙ ap is_some c.index_of.ensures ∙ is_some-position (has_number c.args.session) c.args.users.now
