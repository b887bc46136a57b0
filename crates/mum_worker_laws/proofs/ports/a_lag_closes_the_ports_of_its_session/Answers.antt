use Rattle.mum_worker_laws.proofs.Lagging.{lag_closes, shut_by_lag}
use Rattle.mum_worker_laws.proofs.ports.a_lag_closes_the_ports_of_its_session.Goals as goal

pub returns-clause-closed : goal.returns-clause-closed
returns-clause-closed g c session old new hears = lag_closes g.L.Link.facts session old new hears

pub returns-clause-cause : goal.returns-clause-cause
returns-clause-cause g c session old new hears =
    shut_by_lag g.L.Link.facts session old.ports old.common.kept hears.each.stepped new.common.kept hears.each.along
