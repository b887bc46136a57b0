use Rattle.mum_pace.proofs.Common.{◌≤◌, subst, LONG_FRAMES_LIMIT}
use Rattle.mum_pace.proofs.laws.links_hold_at_most_the_allowance.Goals as goal

pub returns : goal.returns
returns c = λ state held. subst (λ n. n ≤ LONG_FRAMES_LIMIT) held.1 held.2
