use Rattle.mum_serve_laws.proofs.Running.{are_routed}
use Rattle.mum_serve_laws.proofs.laws.packets_go_by_the_decisions.Goals as goal

pub returns : goal.returns
returns g c state asked workers rows opened summary entries left run =
    are_routed g.D.Conn.Link.facts g.D.Door.facts g.K.Clock.last g.K.Clock.calls g.P.Keeper.facts state asked workers rows opened summary entries left run
    (λ old worker turns all. c.looks_are_within.ensures run.began old worker turns all)
    (λ number pass journal opened worker turns has all. c.speakers_are_admitted.ensures.looks run.began number pass journal opened worker turns has all)
