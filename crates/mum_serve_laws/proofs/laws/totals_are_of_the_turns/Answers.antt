use Rattle.mum_serve_laws.proofs.Running.{of_the_turns}
use Rattle.mum_serve_laws.proofs.laws.totals_are_of_the_turns.Goals as goal

pub returns : goal.returns
returns g c state asked workers rows opened summary entries left run =
    of_the_turns g.D.Conn.Link.facts g.D.Door.facts g.K.Clock.last g.K.Clock.calls g.P.Keeper.facts state asked workers rows opened summary entries left run
