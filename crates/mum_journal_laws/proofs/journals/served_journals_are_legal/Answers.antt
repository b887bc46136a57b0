use Rattle.mum_journal_laws.proofs.Served.{served_legal}
use Rattle.mum_journal_laws.proofs.journals.served_journals_are_legal.Goals as goal

pub returns : goal.returns
returns g c asked input end objects left old new crew crew_after served asked_for unkept =
    served_legal g.D.Conn.Link.facts g.D.Door.facts g.K.Clock.last g.K.Clock.calls g.P.Keeper.facts c.journals_are_legal.ensures asked input end objects left old new crew crew_after served asked_for unkept
