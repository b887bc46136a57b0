use Rattle.mum_tree.proofs.Common.{◌≡◌, ◌+◌, ◌-◌, position, option_map, level, upward}
use Rattle.mum_tree.proofs.Shrunk.{is_top}
use Rattle.mum_tree.proofs.rows.steps_under.Given as goal

abbrev pub invariant-loop-steps : goal.invariant-loop-steps
invariant-loop-steps l = level l.rows l.top l.fn.id ≡ option_map (λ k. k + l.steps) (position (is_top l.top) (upward l.rows (33 - l.steps) l.at))
