use Rattle.mum_notify.proofs.Unwatched.{comments_stand_lem}
use Rattle.mum_notify.proofs.laws.comments_stand.Goals as goal

pub returns : goal.returns
returns c = comments_stand_lem
