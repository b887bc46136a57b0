use Rattle.mum_core.proofs.Common.{◌≡◌, [], replicate}
use Rattle.mum_core.proofs.post.empty_posts.Given as goal

abbrev pub invariant-loop-slot : goal.invariant-loop-slot
invariant-loop-slot l = l.posts.items ≡ replicate l._slot []
