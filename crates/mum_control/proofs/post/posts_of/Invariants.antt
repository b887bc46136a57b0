use Rattle.mum_control.proofs.Common.{◌≡◌, ◌++◌, map, into_iter_items, new_pass}
use Rattle.mum_control.proofs.post.posts_of.Given as goal

-- the passes so far, and those of the boxes that are left
abbrev pub invariant-loop-queue : goal.invariant-loop-queue
invariant-loop-queue g l = l.posts.items ++ map new_pass (into_iter_items l.queue-iterator) ≡ map new_pass l.fn.boxes.items
