use Rattle.mum_exercise.proofs.Common.{◌≡◌, replicate, Offer, all_taken}
use Rattle.mum_exercise.proofs.exercise.Course.offer_each.Given as goal

abbrev pub invariant-loop-copy : goal.invariant-loop-copy
invariant-loop-copy l = l.self ≡ all_taken l.fn.self (replicate l._copy (Offer l.worker))
