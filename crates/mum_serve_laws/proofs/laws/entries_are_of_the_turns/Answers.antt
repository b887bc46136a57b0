use Rattle.mum_serve_laws.proofs.Running.{are_written}
use Rattle.mum_serve_laws.proofs.laws.entries_are_of_the_turns.Goals as goal

pub returns : goal.returns
returns g c state asked workers rows opened summary entries left run =
    are_written g.D.Conn.Link.facts g.D.Door.facts g.K.Clock.last g.K.Clock.calls g.P.Keeper.facts state asked workers rows opened summary entries left run
    (λ number pass room first worker turns begun all. c.voice_entries_are_the_looks.ensures run.began number pass room first worker turns begun all)
