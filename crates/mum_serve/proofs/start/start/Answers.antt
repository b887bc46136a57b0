-- The owner and the workers are joined by the queues that were made.
use Rattle.mum_serve.proofs.Common.{Option, ap, subst, sym, All, ControlFacts, queue_of, pass_below, queues, OwnerFacts, HasOwnNumber, AreOpened}
use Rattle.mum_serve.proofs.{Numbering.workers_numbered, Joining.are_joined, Clocking.clock_begins, Opening.archive_is, Opening.owner_begins}
use Rattle.mum_serve.proofs.start.start.Goals as goal

pub returns-in-Ok-open-clause-begun : goal.returns-in-Ok-open-clause-begun
returns-in-Ok-open-clause-begun g c =
    let parts = c.in-Ok in
    let owner = c.in-Ok-open in
    let workers = c.in-Ok-open_workers in
    record {
      owner_begins =
          owner_begins g.N.Naming.opening parts.parts.control c.args.door _ c.args.asked.now.journal c.args.asked.now.connections (queues parts.parts.bells.items) (queue_of c.args.store) parts.parts.desk owner.owner
          parts.ensures.control owner.ensures.owner owner.ensures.desk (clock_begins g.K.Clock.last g.K.Clock.calls c.args.clock owner.owner owner.ensures.clock);
      crew_begins =
          subst (λ (closings : Option _). AreOpened g.N.Naming.opening closings c.args.beginning.workers workers.workers.items) c.closing_room-closings.ensures workers.ensures.opened;
      joined =
          are_joined parts.parts.control c.args.door c.args.asked.now.connections c.args.asked.now.journal parts.parts.bells.items (queue_of c.args.store) parts.parts.desk owner.owner parts.parts.shared.items workers.workers.items
          owner.ensures.owner owner.ensures.desk parts.ensures.joined workers.ensures.over;
      numbered = record {
        desk = pass_below parts.parts.desk owner.owner.desk.pass parts.ensures.desk owner.ensures.desk;
        posts = subst (λ (k : ControlFacts). All HasOwnNumber k.posts) (sym (ap (λ (o : OwnerFacts _ _). o.control) owner.ensures.owner)) parts.ensures.posts;
        each = workers_numbered parts.parts.shared.items workers.workers.items parts.ensures.boxes workers.ensures.over;
      };
    }

-- the owner puts into the queue of the bell that it was given
pub returns-in-Ok-open-clause-archive : goal.returns-in-Ok-open-clause-archive
returns-in-Ok-open-clause-archive g c = archive_is _ _ _ _ _ (queue_of c.args.store) c.in-Ok-open.owner c.in-Ok-open.ensures.owner
