-- What was run over the doors that were opened is what was served over them.
use Rattle.mum_serve.proofs.Common.{service}
use Rattle.mum_serve.proofs.Doors.{clock_so, serves_so}
use Rattle.mum_serve.proofs.server.serve_at.Goals as goal

pub returns-clause-serves : goal.returns-clause-serves
returns-clause-serves g c =
    serves_so g.D.Door.facts g.D.Conn.Link.facts g.K.Clock.last g.K.Clock.calls g.P.Keeper.facts (service c.args.asked.now) c.args.beginning.workers c.args.publisher.now.opening.state c.args.rows c.args.objects c.open_doors.new.objects
    c.run_opened.result.1 c.run_opened.result.0 (c.open_doors.ensures.opened c.if-not-open_doors.false) c.open_doors.ensures.clock c.open_doors.ensures.keeper c.run_opened.ensures.runs

pub returns-clause-clock : goal.returns-clause-clock
returns-clause-clock g c =
    clock_so g.D.Door.facts g.K.Clock.last g.K.Clock.calls c.run_opened.result.0 c.args.objects c.open_doors.new.objects c.run_opened.result.1 c.open_doors.ensures.clock c.run_opened.ensures.clock
