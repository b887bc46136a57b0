use Rattle.mum_notify.proofs.Common.{sym, arith, partners}
use Rattle.mum_notify.proofs.Pieces.{next_front, whole_front}
use Rattle.mum_notify.proofs.channels.partners.Goals as goal

pub loop-partner-preserved : goal.loop-partner-preserved
loop-partner-preserved c =
    let read = next_front (partners c.args.tree.now c.args.id) c.loop-partner.found.items c.push.new.self.items c.len.result c.in-Some.partner (omega arith) (sym c.in-Some.ensures) c.loop-partner.invariant.front c.in_ok-push.ensures.items in
    record { front = read.front; within = read.within }

pub returns : goal.returns
returns c = whole_front (partners c.args.tree.now c.args.id) c.loop-partner.found.items c.len.result c.link_at.result (omega arith) (sym c.link_at.ensures) c.in_default.not-Some c.loop-partner.invariant.front
