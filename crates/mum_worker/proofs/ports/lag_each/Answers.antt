use Rattle.mum_worker.proofs.CommonNames.{◌≡◌, ◌+◌, ◌<◌, length, rules, arith, refl, goes_on, starts, stays, LagsWhereIts, without_room}
use Rattle.mum_worker.proofs.ports.lag_each.Goals as goal

pub loop-done-init : goal.loop-done-init
loop-done-init g c =
    let count : c.len-count.result ≡ length c.args.list.now.items = search rules in
    record {
      within = omega arith;
      all = count;
      some = starts (LagsWhereIts g.L.Link.facts c.args.session) stays c.args.list.now.items (without_room c.args.kept.now);
      capacity = refl;
    }

pub loop-done-preserved : goal.loop-done-preserved
loop-done-preserved g c =
    let all = c.loop-done.invariant.all in
    let test = c.loop-done-test.true in
    let within : c.loop-done.done < length c.args.list.now.items = omega (arith, all, test) in
    record {
      within = omega (arith, test);
      all = all;
      some = goes_on (LagsWhereIts g.L.Link.facts c.args.session) stays c.args.list.now.items
          (without_room c.args.kept.now) (without_room c.loop-done.kept) (without_room c.lag_port.new.kept) c.loop-done.done (c.loop-done.done + 1)
          c.loop-done.list.items c.pop_front.new.self.items c.put_back.new.list.items
          c.in-Some.port c.lag_port.new.port within refl c.loop-done.invariant.some (search rules) c.lag_port.ensures c.put_back.ensures.items;
      capacity = search rules;
    }
