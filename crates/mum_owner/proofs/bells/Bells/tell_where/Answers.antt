use Rattle.mum_owner.proofs.Common.{◌<◌, length, arith}
use Rattle.mum_owner.proofs.Telling.{same_length}
use Rattle.mum_owner.proofs.bells.Bells.tell_where.Goals as goal

pub invariant_of-self : goal.invariant_of-self
invariant_of-self g c =
    let same = same_length c.self.inside.sides.items c.tell_sides.result c.tell_sides.new.sides.items c.tell_sides.ensures in
    let was : 0 < length c.self.inside.sides.items = c.self.invariant in
    omega (arith, same, was)
