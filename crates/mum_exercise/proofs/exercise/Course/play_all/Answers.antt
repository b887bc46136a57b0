use Rattle.mum_exercise.proofs.Common.{ℕ, ◌+◌, ap, ◌∙◌, played, progress}
use Rattle.mum_exercise.proofs.Turns.{plays_more, round_low}
use Rattle.mum_exercise.proofs.exercise.Course.play_all.Goals as goal

pub loop-before-init : goal.loop-before-init
unfolding progress
loop-before-init c = (c.requires, c.new-draws.ensures)

pub play-requires : goal.play-requires
play-requires c = round_low c.round-round.result c.loop-before.draws c.round-round.new.self c.round-round.ensures

pub loop-before-preserved : goal.loop-before-preserved
loop-before-preserved c =
    plays_more c.args.seed c.loop-before.before c.loop-before.self c.play.new.self c.round-round.result c.loop-before.draws c.round-round.new.self
    c.loop-before.invariant.0 c.loop-before.invariant.1 c.round-round.ensures (c.in_ok-play.ensures ∙ ap (λ (n : ℕ). played (n + 1) c.round-round.result c.loop-before.self) c.from.ensures)
