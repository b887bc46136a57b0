use Rattle.mum_kept.proofs.Common.{rules, prefix}
use Rattle.mum_kept.proofs.prefix.prefix_text.Goals as goal

pub returns : goal.returns
unfolding prefix
returns c = rw (c.in_ok-push_letter-3.ensures, c.in_ok-push_letter-2.ensures, c.in_ok-push_letter.ensures) (search rules)
