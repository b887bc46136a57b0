use Rattle.mum_viewer.proofs.Common.{◌<◌, ◌∙◌, length, rules, arith, sym, length-set, along_more, ViewMoves}
use Rattle.mum_viewer.proofs.list.step_all.Goals as goal

pub loop-done-preserved : goal.loop-done-preserved
loop-done-preserved g c =
    let views = c.loop-done.list.items in
    let view = c.go-counted.new.self in
    let same = c.loop-done.invariant.same in
    let test = c.loop-done-test.true in
    let within : c.loop-done.done < length views = omega (arith, same, test) in
    let on = along_more (ViewMoves g.L.Link.facts) c.args.list.now.items views
    c.args.before c.loop-done.counted c.go-counted.result
    c.loop-done.done c.index_mut-view.result.now view within c.loop-done.invariant.rest c.loop-done.invariant.along
    c.index_mut-view.ensures.value c.go-counted.ensures in
    record {
      within = omega (arith, test);
      all = c.loop-done.invariant.all;
      same = same ∙ sym (length-set views c.loop-done.done view);
      along = on.0;
      rest = on.1;
      capacity = search rules;
    }
