use Rattle.mum_control.proofs.Common.{◌≡◌, List, ◌++◌, PostFacts, Tagged}
use Rattle.mum_control.proofs.post.empty_queue.Given as goal

-- what was taken so far
abbrev pub invariant-loop : goal.invariant-loop
invariant-loop g l =
    (l.pass.queue ≡ l.queue.queue)
    × ((taken : List (Tagged PostFacts)) × (l.pass ≡ record l.fn.pass { taken = l.fn.pass.taken ++ taken }))
