-- What is answered of a run without `serve` is what such a run answers.
use Rattle.mum_server.proofs.Common.{◌≡◌, map, refl, string_bytes, Rose, document_edits, service, state_over, BadStore, KeeperFault}
use Rattle.mum_server.proofs.{KeeperEnds.keeper_failed, KeeperEnds.rows_were_bad, ServerStatuses.bad_at_thirteen, ServerStatuses.fails_at_twelve, ServerStatuses.never_five, ServeWords.asked_once}
use Rattle.mum_server.proofs.top.murmur.Goals as goal

pub returns-then-not-begins_with_serve-clause-plain : goal.returns-then-not-begins_with_serve-clause-plain
returns-then-not-begins_with_serve-clause-plain g c = λ never. (c.run_plain.ensures, refl, refl, refl, refl, refl)

pub returns-in_default-clause-serves : goal.returns-in_default-clause-serves
returns-in_default-clause-serves g c = λ asked asks. absurd (c.in_default.ensures.asked asked asks)

pub returns-clause-serves : goal.returns-clause-serves
returns-clause-serves g c = λ asked asks.
    let same = asked_once (map string_bytes c.args.words.now) asked (service c.in-Some.asked) asks c.in-Some.ensures.asked in
    rw same (record {
      end = c.run_server-end.result;
      ends = c.run_server-end.ensures.ends;
      one = λ input served.
          let loads = served.serves.serves in
          c.runs_are_of_one_server.ensures (state_over (document_edits input.document) loads.rows) (service c.in-Some.asked) input.config.workers
          loads.rows loads.serves.opened served.summary served.entries served.serves.left loads.serves.run;
      legal = λ journal input served.
          c.served_journals_are_legal.ensures (service c.in-Some.asked) input c.run_server-end.result _ _ _ _ _ _ served journal (c.in-Some.ensures.asked.apart journal);
      runs = c.run_server-end.ensures.runs;
      reads = c.run_server-end.ensures.reads;
      writes = c.run_server-end.ensures.writes;
      reports = c.report_server.ensures;
    })

-- the words ask for a run, so they are no other words
pub returns-clause-usage : goal.returns-clause-usage
returns-clause-usage g c = λ begins never. absurd (never (service c.in-Some.asked) c.in-Some.ensures.asked)

pub returns-clause-keeper_fault : goal.returns-clause-keeper_fault
returns-clause-keeper_fault g c = λ twelve.
    let is : c.run_server-end.result ≡ KeeperFault =
    fails_at_twelve c.run_server-end.result c.report_server.result (g.E.Sink.written c.args.errors.now) (g.E.Sink.written c.report_server.new.errors) (Rose (g.E.Sink.faults c.args.errors.now) (g.E.Sink.faults c.report_server.new.errors))
    c.report_server.ensures twelve in
    keeper_failed g.D.Conn.Link.facts g.D.Door.facts g.K.Clock.last g.K.Clock.calls g.P.Keeper.facts (service c.in-Some.asked)
    (g.I.Source.left c.args.input.now) c.run_server-end.result
    (record { door = c.args.door.now; view = c.args.view.now; clock = c.args.clock.now; keeper = c.args.keeper.now })
    (record { door = c.run_server-end.new.door; view = c.run_server-end.new.view; clock = c.run_server-end.new.clock; keeper = c.run_server-end.new.keeper })
    (g.O.Sink.written c.args.output.now) (g.O.Sink.written c.run_server-end.new.output) (g.C.Crew.counts c.args.crew.now) (g.C.Crew.counts c.run_server-end.new.crew)
    is c.run_server-end.ensures.ends

pub returns-clause-bad_store : goal.returns-clause-bad_store
returns-clause-bad_store g c = λ thirteen.
    let is : c.run_server-end.result ≡ BadStore =
    bad_at_thirteen c.run_server-end.result c.report_server.result (g.E.Sink.written c.args.errors.now) (g.E.Sink.written c.report_server.new.errors) (Rose (g.E.Sink.faults c.args.errors.now) (g.E.Sink.faults c.report_server.new.errors))
    c.report_server.ensures thirteen in
    rows_were_bad g.D.Conn.Link.facts g.D.Door.facts g.K.Clock.last g.K.Clock.calls g.P.Keeper.facts (service c.in-Some.asked)
    (g.I.Source.left c.args.input.now) c.run_server-end.result
    (record { door = c.args.door.now; view = c.args.view.now; clock = c.args.clock.now; keeper = c.args.keeper.now })
    (record { door = c.run_server-end.new.door; view = c.run_server-end.new.view; clock = c.run_server-end.new.clock; keeper = c.run_server-end.new.keeper })
    (g.O.Sink.written c.args.output.now) (g.O.Sink.written c.run_server-end.new.output) (g.C.Crew.counts c.args.crew.now) (g.C.Crew.counts c.run_server-end.new.crew)
    is c.run_server-end.ensures.ends

-- no end of a server has that status
pub returns-clause-audit_fault : goal.returns-clause-audit_fault
returns-clause-audit_fault g c = λ five begins.
    never_five c.run_server-end.result c.report_server.result (g.E.Sink.written c.args.errors.now) (g.E.Sink.written c.report_server.new.errors) (Rose (g.E.Sink.faults c.args.errors.now) (g.E.Sink.faults c.report_server.new.errors))
    c.report_server.ensures five
