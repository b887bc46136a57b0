use Rattle.mum_owner.proofs.Common.{ap, refl, ScribeFacts}
use Rattle.mum_owner.proofs.{Counting.given_count, Counting.seated_count, Deciding.given_written}
use Rattle.mum_owner.proofs.owner.Owner.give.Goals as goal

pub invariant_of-self : goal.invariant_of-self
invariant_of-self g c =
    let reply = c.command-reply.result in
    let edits =
    given_count c.self.inside.control c.args.command reply c.command-reply.new.self c.self.inside.scribe c.prepare.new.self c.settle.new.self c.mark-mark.result
    c.args.command.connection c.reply.inside.no_memory c.self.invariant.0 c.command-reply.ensures (ap (λ (s : ScribeFacts). s.accepted) c.in-Ok.ensures.ok) c.mark-mark.ensures c.settle.ensures
    in
    let written =
    given_written c.self.inside.control c.args.command reply c.command-reply.new.self c.self.inside.scribe c.prepare.new.self c.settle.new.self c.mark-mark.result
    c.args.command.connection c.reply.inside.no_memory c.self.invariant.2 c.command-reply.ensures c.in-Ok.ensures.ok c.mark-mark.ensures refl c.settle.ensures
    in
    (edits, seated_count c.reply.inside.end c.args.command.connection c.self.inside.guests c.seat.new.guests g.N.Doorside.door.given _ c.self.invariant.1 c.seat.ensures, written)
