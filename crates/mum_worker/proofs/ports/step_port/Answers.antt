-- What came with the parcels that the port took is learnt.
use Rattle.mum_worker.proofs.CommonNames.{◌≡◌, Option, subst, sym, ForSome, NoteFacts, LearnsGiven, CommonFacts, bare, MakesStep, Shares}
use Rattle.mum_worker.proofs.Learning.{learnt_too, told_named}
use Rattle.mum_worker.proofs.ports.step_port.Goals as goal

pub learn_given-requires : goal.learn_given-requires
learn_given-requires g c =
    let passes = c.make_step-worked.new.port.passes in
    subst (λ (told : Option NoteFacts). ForSome told (λ (note : NoteFacts). note.book ≡ g.N.Naming.opening.book)) (sym c.told.ensures.note)
    (told_named g.N.Naming.opening passes c.told.ensures.taken)

pub returns-clause-steps : goal.returns-clause-steps
returns-clause-steps g c =
    let facts = g.L.Link.facts in
    let opening = g.N.Naming.opening in
    let boxes = c.args.boxes.now in
    let old = c.args.port.now in
    let new = c.make_step-worked.new.port in
    let before : Shares = record { common = bare c.args.common.now; desk = c.args.desk.now; worked = c.args.worked } in
    let inside : CommonFacts = record { router = c.common.inside.router; kept = c.common.inside.kept } in
    let mid : Shares = record { common = bare inside; desk = c.make_step-worked.new.desk; worked = c.make_step-worked.result } in
    learnt_too facts opening boxes old before new mid c.learn_given.new.router
    (subst (λ (common : CommonFacts). MakesStep facts opening boxes old before new (record mid { common = bare common })) (sym c.common.view_is) c.make_step-worked.ensures.steps)
    c.told.ensures.taken
    (subst (λ (told : Option NoteFacts). LearnsGiven told c.common.inside.router c.learn_given.new.router) c.told.ensures.note c.learn_given.ensures)
