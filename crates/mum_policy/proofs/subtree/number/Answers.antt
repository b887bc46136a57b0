use Rattle.mum_policy.proofs.Digits.{number_next}
use Rattle.mum_policy.proofs.subtree.number.Goals as goal

pub places-preserved : goal.places-preserved
places-preserved c = number_next _ _ _ _ c.requires c.places-test.true c.places.invariant c.digit_at.ensures.value c.digit_at.ensures.bound
