use Rattle.mum_worker.proofs.PassesKept.{lags_all}
use Rattle.mum_worker.proofs.hearing.take_lag.Goals as goal

pub returns-clause-owned : goal.returns-clause-owned
returns-clause-owned g c =
    lags_all g.L.Link.facts c.args.boxes.now c.args.session _ _ _ _ c.requires c.lag.ensures
