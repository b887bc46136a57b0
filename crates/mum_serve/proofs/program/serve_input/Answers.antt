-- Where nobody was served nothing is written.
use Rattle.mum_serve.proofs.Common.{ℕ, List, Option, inr, subst, DoorFacts, LinkFacts, KeeperFacts, document_edits, edits_are, Journal, Lent, Service, service, DescribesConfig, WritesText, text_of, ServesOver, Input, Served, Edit}
use Rattle.mum_serve.proofs.{Ending.as_many_lists, Refused.keeps_same, Written.all_served}
use Rattle.mum_serve.proofs.program.serve_input.Goals as goal

-- the edits that were read are those of the document
opens_so : {D K P L : Type 0} (facts : L → LinkFacts) (door_facts : D → DoorFacts) (last calls : K → ℕ) (keeper_facts : P → KeeperFacts) (asked : Service) (input : Input) (objects left : Lent D K P) (served : Served) → DescribesConfig input.document input.config
    → ServesOver facts door_facts last calls keeper_facts input.config.edits asked input.config.workers objects served left
    → ServesOver facts door_facts last calls keeper_facts (document_edits input.document) asked input.config.workers objects served left
opens_so facts door_facts last calls keeper_facts asked input objects left served describes serves =
    subst (λ (edits : List Edit). ServesOver facts door_facts last calls keeper_facts edits asked input.config.workers objects served left)
    (edits_are input.document input.config describes.1) serves

pub returns-in-KeeperFault-clause-ends : goal.returns-in-KeeperFault-clause-ends
returns-in-KeeperFault-clause-ends g c =
    inr (record {
      serves = opens_so g.D.Conn.Link.facts g.D.Door.facts g.K.Clock.last g.K.Clock.calls g.P.Keeper.facts (service c.args.asked.now) c.args.said _ _ _ c.requires.described c.in-KeeperFault.ensures.serves;
      counted = c.in-KeeperFault.ensures.counts;
      keeps = keeps_same (g.O.Sink.written c.args.output.now);
    })

pub returns-in-BadStore-clause-ends : goal.returns-in-BadStore-clause-ends
returns-in-BadStore-clause-ends g c =
    record {
      serves = opens_so g.D.Conn.Link.facts g.D.Door.facts g.K.Clock.last g.K.Clock.calls g.P.Keeper.facts (service c.args.asked.now) c.args.said _ _ _ c.requires.described c.in-BadStore.ensures.serves;
      counted = c.in-BadStore.ensures.counts;
      keeps = keeps_same (g.O.Sink.written c.args.output.now);
    }

pub returns-in-DoorFault-clause-ends : goal.returns-in-DoorFault-clause-ends
returns-in-DoorFault-clause-ends g c =
    inr (record {
      serves = opens_so g.D.Conn.Link.facts g.D.Door.facts g.K.Clock.last g.K.Clock.calls g.P.Keeper.facts (service c.args.asked.now) c.args.said _ _ _ c.requires.described c.in-DoorFault.ensures.serves;
      counted = c.in-DoorFault.ensures.counts;
      keeps = keeps_same (g.O.Sink.written c.args.output.now);
    })

pub returns-in-CrewFault-clause-ends : goal.returns-in-CrewFault-clause-ends
returns-in-CrewFault-clause-ends g c =
    record {
      serves = opens_so g.D.Conn.Link.facts g.D.Door.facts g.K.Clock.last g.K.Clock.calls g.P.Keeper.facts (service c.args.asked.now) c.args.said _ _ _ c.requires.described c.in-CrewFault.ensures.serves;
      counted = c.in-CrewFault.ensures.counts;
      keeps = keeps_same (g.O.Sink.written c.args.output.now);
    }

pub returns-clause-ends : goal.returns-clause-ends
returns-clause-ends g c =
    inr (record {
      serves = opens_so g.D.Conn.Link.facts g.D.Door.facts g.K.Clock.last g.K.Clock.calls g.P.Keeper.facts (service c.args.asked.now) c.args.said _ _ _ c.requires.described c.in-OutOfMemory.ensures.serves;
      counted = c.in-OutOfMemory.ensures.counts;
      keeps = keeps_same (g.O.Sink.written c.args.output.now);
    })

-- where all were served, this is what was written of it

pub returns-in-Whole-clause-ends : goal.returns-in-Whole-clause-ends
returns-in-Whole-clause-ends g c =
    let old = g.O.Sink.written c.args.output.now in
    let new = g.O.Sink.written c.write_out.new.output in
    let whole = c.in-Whole in
    all_served g.D.Conn.Link.facts g.D.Door.facts g.K.Clock.last g.K.Clock.calls g.P.Keeper.facts (service c.args.asked.now) c.args.said c.write_out.result _ _ old new (g.C.Crew.counts c.args.crew.now) (g.C.Crew.counts c.serve.new.crew)
    (record {
      summary = whole.summary;
      entries = whole.entries;
      serves = opens_so g.D.Conn.Link.facts g.D.Door.facts g.K.Clock.last g.K.Clock.calls g.P.Keeper.facts (service c.args.asked.now) c.args.said _ _ _ c.requires.described whole.ensures.serves;
      ran = whole.ensures.counts;
      writes =
          subst (λ (asked : Option Journal). WritesText (text_of asked whole.summary) whole.summary c.write_out.result old new)
          c.journal_asked-journal.ensures.journal c.write_out.ensures.writes;
    })

-- there is a list of each worker
pub journal_asked-journal-requires-clause-lists : goal.journal_asked-journal-requires-clause-lists
journal_asked-journal-requires-clause-lists g c =
    let run = c.in-Whole.ensures.serves.serves.serves.run in
    as_many_lists g.D.Conn.Link.facts g.D.Door.facts run.began _ _ c.args.asked.now.journal c.args.asked.now.connections c.args.said.config.workers run.owner run.crew c.in-Whole.entries.by_worker run.came.by_worker run.turned
