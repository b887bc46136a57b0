use Rattle.mum_port.proofs.Common.{ap, inr, refl, subst, None, Some, POST_CAPACITY, PassFacts, PostFacts, PassesFacts, Nothing, TakesPost}
use Rattle.mum_port.proofs.Noting.{took_notice, took_nothing}
use Rattle.mum_port.proofs.outbound.take_post.Goals as goal

pub invariant_of-passes : goal.invariant_of-passes
invariant_of-passes g c =
    let inside = c.passes.inside in
    took_nothing g.N.Naming.opening (record { slot = inside.slot; post = inside.post; voice = inside.voice; told = inside.told }) c.take_as.new.pass inside.voice
    c.passes.invariant (ap (λ (p : PassFacts PostFacts). p.taken) c.in-None.ensures.0) refl

pub invariant_of-passes-in-Some-take_as : goal.invariant_of-passes-in-Some-take_as
invariant_of-passes-in-Some-take_as g c =
    let inside = c.passes.inside in
    let note = c.note_of_notice.ensures in
    took_notice POST_CAPACITY g.N.Naming.opening (record { slot = inside.slot; post = inside.post; voice = inside.voice; told = inside.told })
    c.note_of_notice.result c.note_parcel.new.told c.in-Some-take_as.parcel c.take_as.new.pass
    c.passes.invariant c.note_parcel.ensures note.book note.edits note.rules c.in-Some-take_as.ensures

pub returns-in-None : goal.returns-in-None
returns-in-None g c =
    let inside = c.passes.inside in
    let after : PassesFacts = record { slot = inside.slot; post = c.take_as.new.pass; voice = inside.voice; told = inside.told } in
    inr (subst (λ (passes : PassesFacts). TakesPost c.args.session passes c.args.stage.now Nothing after c.args.out.now c.args.stage.now) c.passes.view_is (record {
      pass = c.take_as.new.pass;
      parcel = None;
      after = refl;
      takes = c.in-None.ensures;
      posted = (refl, c.requires.empty, refl);
    }))

pub returns-in-Some-take_as : goal.returns-in-Some-take_as
returns-in-Some-take_as g c =
    let inside = c.passes.inside in
    let after : PassesFacts = record { slot = inside.slot; post = c.take_as.new.pass; voice = inside.voice; told = c.note_parcel.new.told } in
    inr (subst (λ (passes : PassesFacts). TakesPost c.args.session passes c.args.stage.now c.post.result after c.post.new.out c.post.new.stage) c.passes.view_is (record {
      pass = c.take_as.new.pass;
      parcel = Some c.in-Some-take_as.parcel;
      after = refl;
      takes = c.in-Some-take_as.ensures;
      posted = c.post.ensures;
    }))
