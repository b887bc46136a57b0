use Rattle.mum_worker.proofs.PassesKept.{takes_all}
use Rattle.mum_worker.proofs.hearing.take_connection.Goals as goal

pub returns-clause-owned : goal.returns-clause-owned
returns-clause-owned g c =
    takes_all g.L.Link.facts c.args.boxes.now c.args.intake.now c.args.connection c.args.link _ _ _ _ _ c.requires c.take_in.ensures.takes
