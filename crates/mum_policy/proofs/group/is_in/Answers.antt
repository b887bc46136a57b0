use Rattle.mum_policy.proofs.Common.{◌∙◌, actor_of}
use Rattle.mum_policy.proofs.Paths.{is_in-at}
use Rattle.mum_policy.proofs.group.is_in.Goals as goal

pub returns : goal.returns
returns c = c.eq.ensures ∙ is_in-at (actor_of c.args.who.now) c.args.path.now c.args.place _ c.requires
