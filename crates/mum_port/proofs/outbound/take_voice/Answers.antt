use Rattle.mum_port.proofs.Common.{ap, inr, refl, subst, None, Some, VOICE_CAPACITY, PassFacts, VoiceFacts, PassesFacts, Nothing, TakesVoice}
use Rattle.mum_port.proofs.Noting.{took_copy, took_nothing}
use Rattle.mum_port.proofs.outbound.take_voice.Goals as goal

pub invariant_of-passes : goal.invariant_of-passes
invariant_of-passes g c =
    let inside = c.passes.inside in
    took_nothing g.N.Naming.opening (record { slot = inside.slot; post = inside.post; voice = inside.voice; told = inside.told }) inside.post c.take_as.new.pass
    c.passes.invariant refl (ap (λ (p : PassFacts VoiceFacts). p.taken) c.in-None.ensures.0)

pub invariant_of-passes-in-Some-take_as : goal.invariant_of-passes-in-Some-take_as
invariant_of-passes-in-Some-take_as g c =
    let inside = c.passes.inside in
    let note = c.note_of_copy.ensures in
    took_copy VOICE_CAPACITY g.N.Naming.opening (record { slot = inside.slot; post = inside.post; voice = inside.voice; told = inside.told })
    c.note_of_copy.result c.note_parcel.new.told c.in-Some-take_as.parcel c.take_as.new.pass
    c.passes.invariant c.note_parcel.ensures note.book note.edits note.rules c.in-Some-take_as.ensures

pub returns-in-None : goal.returns-in-None
returns-in-None g c =
    let inside = c.passes.inside in
    let after : PassesFacts = record { slot = inside.slot; post = inside.post; voice = c.take_as.new.pass; told = inside.told } in
    inr (subst (λ (passes : PassesFacts). TakesVoice c.args.session passes Nothing after c.args.out.now) c.passes.view_is (record {
      pass = c.take_as.new.pass;
      parcel = None;
      after = refl;
      takes = c.in-None.ensures;
      heard = (refl, c.requires.empty);
    }))

pub returns-in-Some-take_as : goal.returns-in-Some-take_as
returns-in-Some-take_as g c =
    let inside = c.passes.inside in
    let after : PassesFacts = record { slot = inside.slot; post = inside.post; voice = c.take_as.new.pass; told = c.note_parcel.new.told } in
    inr (subst (λ (passes : PassesFacts). TakesVoice c.args.session passes c.hear.result after c.hear.new.out) c.passes.view_is (record {
      pass = c.take_as.new.pass;
      parcel = Some c.in-Some-take_as.parcel;
      after = refl;
      takes = c.in-Some-take_as.ensures;
      heard = c.hear.ensures;
    }))
