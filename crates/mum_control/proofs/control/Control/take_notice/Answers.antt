use Rattle.mum_control.proofs.Common.{vec_capacity, ControlFacts}
use Rattle.mum_control.proofs.Keeping.{kept_front, taken_so}
use Rattle.mum_control.proofs.control.Control.take_notice.Goals as goal

pub invariant_of-self : goal.invariant_of-self
invariant_of-self g c =
    let inside = c.self.inside in
    (kept_front c.take_front.result g.N.Naming.opening inside.edits inside.posts.items inside.pending c.take_front.new.self inside.lagged.items
    (vec_capacity inside.lagged) c.self.invariant c.take_front.ensures).0

pub returns : goal.returns
returns g c =
    let inside = c.self.inside in
    let control : ControlFacts = record { publisher = inside.edits; posts = inside.posts.items; pending = inside.pending; lagged = inside.lagged.items; mark = inside.mark } in
    taken_so c.take_front.result g.N.Naming.opening c.args.self.now control c.take_front.new.self c.self.view_is c.take_front.ensures
    (kept_front c.take_front.result g.N.Naming.opening inside.edits inside.posts.items inside.pending c.take_front.new.self inside.lagged.items
    (vec_capacity inside.lagged) c.self.invariant c.take_front.ensures).1
