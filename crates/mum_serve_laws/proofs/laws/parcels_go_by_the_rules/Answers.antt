use Rattle.mum_serve_laws.proofs.Telling.{are_told}
use Rattle.mum_serve_laws.proofs.laws.parcels_go_by_the_rules.Goals as goal

pub returns : goal.returns
returns g c state asked workers rows opened summary entries left run =
    are_told g.D.Conn.Link.facts g.D.Door.facts g.K.Clock.last g.K.Clock.calls g.P.Keeper.facts state asked workers rows opened summary entries left run
    (λ number pass journal first worker turns has all. c.parcels_are_by_the_rules.ensures.rules run.began number pass journal first worker turns has all)
    (λ number pass journal first worker turns has all. c.parcels_are_by_the_rules.ensures.holds run.began number pass journal first worker turns has all)
