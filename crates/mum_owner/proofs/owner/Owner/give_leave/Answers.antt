use Rattle.mum_owner.proofs.Common.{◌∙◌, ap, sym, Command}
use Rattle.mum_owner.proofs.{Counting.emptied_count, Counting.given_count, Counting.prepared_count, Deciding.emptied_written, Deciding.given_written, Deciding.prepared_ok}
use Rattle.mum_owner.proofs.owner.Owner.give_leave.Goals as goal

pub invariant_of-self-2 : goal.invariant_of-self-2
invariant_of-self-2 g c =
    let reply = c.command-reply.result in
    let same = emptied_count c.self.inside.control c.session_of-session.result c.empty_for.new.control c.empty_for.ensures in
    let edits =
    given_count c.empty_for.new.control c.leave_of-command.result reply c.command-reply.new.self c.self.inside.scribe c.prepare.new.self c.settle.new.self
    c.mark-mark.result c.args.connection c.reply.inside.no_memory (c.self.invariant.0 ∙ sym same) c.command-reply.ensures
    (prepared_count c.prepare.result c.self.inside.scribe c.prepare.new.self _ c.prepare.ensures.ok c.prepare.ensures.err) c.mark-mark.ensures c.settle.ensures
    in
    let written =
    given_written c.empty_for.new.control c.leave_of-command.result reply c.command-reply.new.self c.self.inside.scribe c.prepare.new.self c.settle.new.self
    c.mark-mark.result c.args.connection c.reply.inside.no_memory
    (emptied_written c.self.inside.control c.session_of-session.result c.empty_for.new.control c.self.inside.scribe c.empty_for.ensures c.self.invariant.2)
    c.command-reply.ensures
    (prepared_ok c.prepare.result c.self.inside.scribe c.prepare.new.self _ (sym c.is_err.ensures.value ∙ c.if-is_err.false) c.prepare.ensures.ok) c.mark-mark.ensures
    (sym (ap (λ (l : Command). l.connection) c.leave_of-command.ensures)) c.settle.ensures
    in
    (edits, c.self.invariant.1, written)
