use Rattle.mum_serve_laws.proofs.KeptEnd.{keeps_the_end}
use Rattle.mum_serve_laws.proofs.laws.kept_rows_are_of_the_end.Goals as goal

pub returns : goal.returns
returns g c edits asked workers objects summary entries left served well enough =
    keeps_the_end g.D.Conn.Link.facts g.D.Door.facts g.K.Clock.last g.K.Clock.calls g.P.Keeper.facts edits asked workers objects summary entries left served well enough
