use Rattle.mum_owner.proofs.Common.{inl, inr}
use Rattle.mum_owner.proofs.Warding.{lacked, removed}
use Rattle.mum_owner.proofs.owner.Owner.remove.Goals as goal

pub returns-in-Ok : goal.returns-in-Ok
returns-in-Ok g c =
    inr (removed _ _ c.args.banned c.args.command c.prepare.new.self c.with_session-guest.result c.reason_in.result.now c.give.new.self _ c.self.view_is
    c.with_session-guest.ensures c.reason_in.ensures c.prepare.ensures.asked c.in-Ok.ensures.ok c.give.ensures c.note_ban.ensures)

pub returns-in-Err : goal.returns-in-Err
returns-in-Err g c =
    inl (lacked _ _ c.args.command.connection c.prepare.new.self _ c.self.view_is c.in-Err.ensures.err c.prepare.ensures.asked c.starve.ensures)
