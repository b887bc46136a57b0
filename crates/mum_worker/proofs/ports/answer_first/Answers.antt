use Rattle.mum_worker.proofs.CommonNames.{length, refl, sym, inr, position-Some, slice_get_read, is_of}
use Rattle.mum_worker.proofs.ports.answer_first.Goals as goal

pub returns-in-Some-clause-answers : goal.returns-in-Some-clause-answers
returns-in-Some-clause-answers g c =
    let ports = c.args.list.now.items in
    let within = (position-Some (is_of c.args.connection) ports c.in-Some.place c.index_mut.result.now (sym c.in-Some.ensures)).0 in
    inr (record {
      place = c.in-Some.place;
      old = c.index_mut.result.now;
      new = c.answered.new.self;
      first = sym c.in-Some.ensures;
      there = slice_get_read ports (length ports) c.in-Some.place c.index_mut.result.now refl within c.index_mut.ensures.value;
      answers = c.answered.ensures;
      others = refl;
    })
