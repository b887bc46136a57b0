use Rattle.mum_exercise.proofs.Common.{◌≡◌, take, ◌∷◌, [], flat_map, Collect, Post, all_taken}
use Rattle.mum_exercise.proofs.exercise.Course.bring_each.Given as goal

abbrev pub invariant-loop-session : goal.invariant-loop-session
invariant-loop-session l = l.self ≡ all_taken l.fn.self (flat_map (λ session. Post ∷ Collect session.0 ∷ []) (take l.session-index l.recipients))
