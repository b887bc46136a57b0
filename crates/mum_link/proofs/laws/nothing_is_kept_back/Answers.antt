use Rattle.mum_link.proofs.Coming.{none_kept}
use Rattle.mum_link.proofs.laws.nothing_is_kept_back.Goals as goal

pub returns : goal.returns
returns g c = λ through. none_kept _ _ (c.args.link.now.wire.through through)
