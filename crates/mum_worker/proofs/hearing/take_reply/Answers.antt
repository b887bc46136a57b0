use Rattle.mum_worker.proofs.CommonNames.{ap, subst, ◌∙◌, ReplyFacts, TakesReply, without_room}
use Rattle.mum_worker.proofs.{Journals.after_close_bare, PassesKept.all_still, PassesKept.answers_all}
use Rattle.mum_worker.proofs.hearing.take_reply.Goals as goal

pub returns-clause-takes : goal.returns-clause-takes
returns-clause-takes g c =
    subst (λ (reply : ReplyFacts). TakesReply g.L.Link.facts reply c.args.router.now (without_room c.args.kept.now) c.args.boxes.now c.args.ports.now
    c.admit.new.self (without_room c.closed.new.self) c.passes_for-passes.new.self c.answered-closed.new.self) c.reply.view_is
    (record {
      admitted = c.reply.invariant.2;
      noted_by = c.learn_given.new.router;
      learns = c.learn_given.ensures;
      admits = (c.admit.ensures.admitted, c.admit.ensures.same);
      passes = c.passes_for-passes.result;
      given = c.passes_for-passes.ensures.passes;
      same = c.passes_for-passes.ensures.same;
      closed = c.answered-closed.result;
      answers = c.answered-closed.ensures;
      noted = ap without_room c.closed.ensures ∙ after_close_bare c.reply.inside.connection c.answered-closed.result c.args.kept.now;
    })

pub returns-clause-owned : goal.returns-clause-owned
returns-clause-owned g c =
    all_still _ _ _ c.passes_for-passes.ensures.same
    (answers_all g.L.Link.facts c.args.boxes.now _ _ _ _ _ _ _ c.passes_for-passes.ensures.passes c.requires c.answered-closed.ensures)
