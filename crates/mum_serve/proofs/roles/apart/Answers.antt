-- The owner is taken from the front, and then the others.
use Rattle.mum_serve.proofs.Common.{arith}
use Rattle.mum_serve.proofs.Together.{all_apart, first_is, others_left, some_role}
use Rattle.mum_serve.proofs.roles.apart.Goals as goal

pub remove-requires : goal.remove-requires
remove-requires g c =
    let some = some_role c.args.roles.items c.requires.roles in
    let is = c.args.roles.ok.0 in
    omega (arith, some, is)

pub unreachable-requires : goal.unreachable-requires
unreachable-requires g c = c.in_default.not-Owner c.requires.roles.owner (first_is c.args.roles.items c.remove.result c.requires.roles c.remove.ensures.value)

pub take_apart-requires-clause-roles : goal.take_apart-requires-clause-roles
take_apart-requires-clause-roles g c = others_left c.args.roles.items c.remove.new.self.items c.requires.roles c.remove.ensures.by_index.2

pub take_apart-requires-clause-room : goal.take_apart-requires-clause-room
take_apart-requires-clause-room g c =
    let is = c.remove.new.self.ok.0 in
    let were = c.args.roles.ok.0 in
    let one_less = c.remove.ensures.len in
    let room = c.requires.room in
    let long = room.1 in
    let capacity = room.2.1 in
    (room.2.0, omega (arith, is, one_less, were, long, capacity))

pub returns : goal.returns
returns g c =
    all_apart c.args.roles.items c.remove.new.self.items c.remove.result c.in-Owner.owner _ _ _ c.requires.roles c.remove.ensures.value c.in-Owner.is c.remove.ensures.by_index.2 c.take_apart.ensures
