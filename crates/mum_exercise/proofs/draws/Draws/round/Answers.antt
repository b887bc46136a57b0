use Rattle.mum_exercise.proofs.Rounds.{round_drawn}
use Rattle.mum_exercise.proofs.draws.Draws.round.Goals as goal

pub returns : goal.returns
returns c =
    round_drawn c.below-case.result c.below-connection.result c.act-act.result c.args.self.now c.below-case.new.self c.below-connection.new.self c.act-act.new.self
    c.below-case.ensures.drawn c.below-connection.ensures.drawn c.act-act.ensures
