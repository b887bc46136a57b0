use Rattle.mum_cache.proofs.Common.{◌∙◌, ◌*◌, ap, length, length-replicate, PLACES, SLOTS, no_perm, no_perms}
use Rattle.mum_cache.proofs.perms.PermCache.new.Goals as goal

pub invariant_of-result : goal.invariant_of-result
invariant_of-result c = ap length c.in_ok-new.ensures ∙ length-replicate (SLOTS * PLACES) no_perm

pub returns : goal.returns
unfolding no_perms
returns c = c.in_ok-new.ensures
