use Rattle.mum_owner.proofs.Common.{false, true}
use Rattle.mum_owner.proofs.Warding.{tested}
use Rattle.mum_owner.proofs.owner.Owner.test_login.Goals as goal

pub returns-then-refuses : goal.returns-then-refuses
returns-then-refuses g c =
    tested _ _ c.args.login c.refuses.new.self c.address_of-address.result c.refuses.result true _ c.self.view_is c.address_of-address.ensures
    c.refuses.ensures.refused c.refuses.ensures.book c.refuses.ensures.asked c.if-refuses.true c.refuse_login.ensures

pub returns-else-refuses : goal.returns-else-refuses
returns-else-refuses g c =
    tested _ _ c.args.login c.refuses.new.self c.address_of-address.result c.refuses.result false _ c.self.view_is c.address_of-address.ensures
    c.refuses.ensures.refused c.refuses.ensures.book c.refuses.ensures.asked c.if-refuses.false c.give.ensures
