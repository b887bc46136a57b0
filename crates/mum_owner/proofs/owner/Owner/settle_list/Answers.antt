use Rattle.mum_owner.proofs.Common.{◌∙◌, List, ap, inr, Login, list_reply}
use Rattle.mum_owner.proofs.Warding.{decided, settled}
use Rattle.mum_owner.proofs.owner.Owner.settle_list.Goals as goal

pub returns-in-Ok : goal.returns-in-Ok
returns-in-Ok g c =
    decided _ _ c.args.connection c.args.session c.args.payload c.as_slice.result.now c.holds-allowed.result c.settle.new.self c.in-Ok.wire c.list_reply.result c.keep_reply.new.self
    c.self.view_is c.holds-allowed.ensures c.settle.ensures.asked c.as_slice.ensures c.in-Ok.ensures.sent c.in-Ok.ensures.bans c.settle.ensures.reserved
    (c.list_reply.ensures ∙ ap (λ (roll : List Login). list_reply roll c.args.connection c.in-Ok.wire) c.roll-roll.ensures.log) c.keep_reply.ensures

pub returns : goal.returns
returns g c =
    settled _ _ c.args.connection c.args.session c.args.payload c.holds-allowed.result c.settle.new.self _ c.self.view_is c.holds-allowed.ensures c.settle.ensures.asked
    (inr (c.in-Err.ensures.err, c.starve.ensures))
