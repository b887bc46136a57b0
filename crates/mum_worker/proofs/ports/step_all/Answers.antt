use Rattle.mum_worker.proofs.CommonNames.{◌<◌, ◌∙◌, length, rules, arith, sym, length-set, All-set, along_more, stays, bare, OwnsPasses, PortSteps}
use Rattle.mum_worker.proofs.Lists.{all_stay_on}
use Rattle.mum_worker.proofs.ports.step_all.Goals as goal

pub loop-done-preserved : goal.loop-done-preserved
loop-done-preserved g c =
    let ports = c.loop-done.list.items in
    let port = c.step_port-worked.new.port in
    let same = c.loop-done.invariant.same in
    let test = c.loop-done-test.true in
    let within : c.loop-done.done < length ports = omega (arith, same, test) in
    let on = along_more (PortSteps g.L.Link.facts g.N.Naming.opening c.args.boxes.now) c.args.list.now.items ports
    (record { common = bare c.args.common.now; desk = c.args.desk.now; worked = c.args.heard })
    (record { common = bare c.loop-done.common; desk = c.loop-done.desk; worked = c.loop-done.worked })
    (record { common = bare c.step_port-worked.new.common; desk = c.step_port-worked.new.desk; worked = c.step_port-worked.result })
    c.loop-done.done c.index_mut-port.result.now port within c.loop-done.invariant.rest c.loop-done.invariant.along
    c.index_mut-port.ensures.value c.step_port-worked.ensures.steps in
    record {
      within = omega (arith, test);
      all = c.loop-done.invariant.all;
      same = same ∙ sym (length-set ports c.loop-done.done port);
      along = on.0;
      rest = on.1;
      staying = all_stay_on stays ports c.loop-done.done port c.loop-done.gone c.is_gone_too-gone.result within c.loop-done.invariant.staying c.is_gone_too-gone.ensures;
      owned = All-set (OwnsPasses c.args.boxes.now) ports c.loop-done.done port c.step_port-worked.ensures.owned c.loop-done.invariant.owned;
      capacity = search rules;
    }
