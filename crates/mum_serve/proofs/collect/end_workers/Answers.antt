-- Each worker is ended, what it came to is added, and what it wrote down is pushed.
use Rattle.mum_serve.proofs.Common.{◌∙◌, List, [], ◌∷◌, length, length-append, map, ap, arith, into_iter_items, WorkerEntry, entries_of, with_workers, nothing}
use Rattle.mum_serve.proofs.Ending.{all_taken, each_more, entries_taken, took_entries, took_worker}
use Rattle.mum_serve.proofs.collect.end_workers.Goals as goal

pub loop-worker-preserved : goal.loop-worker-preserved
loop-worker-preserved g c =
    let steps = c.in-Some.ensures.steps in
    let short = ap length steps.0 in
    let was = c.loop-worker.invariant.1 in
    let gone = steps.1 in
    let rest = into_iter_items c.next.new.self in
    let pushed = c.push_reserved.ensures.items in
    let longer = ap (λ (xs : List (List WorkerEntry)). length xs) pushed in
    let one_more = length-append c.loop-worker.by_worker.items (c.add.result ∷ []) in
    let room = c.loop-worker.invariant.4 in
    let same = c.push_reserved.ensures.capacity in (
      took_worker _ rest c.in-Some.worker c.loop-worker.totals c.add.new.self (with_workers c.args.workers.items nothing) steps.0 c.add.ensures.totals c.loop-worker.invariant.0,
      omega (arith, was, gone, short),
      took_entries _ rest c.in-Some.worker c.add.result c.loop-worker.by_worker.items c.push_reserved.new.self.items (map entries_of c.args.workers.items)
          steps.0 c.add.ensures.entries pushed c.loop-worker.invariant.2,
      each_more c.loop-worker.by_worker.items c.push_reserved.new.self.items c.add.result pushed c.add.ensures.writable c.loop-worker.invariant.3,
      omega (arith, longer, one_more, short, room, same),
    )

pub returns-clause-totals : goal.returns-clause-totals
returns-clause-totals g c =
    let was = c.loop-worker.invariant.1 in
    let none = c.in-None.ensures.steps.0 in
    all_taken (into_iter_items c.loop-worker.worker-iterator) c.loop-worker.totals _ (omega (arith, was, none)) c.loop-worker.invariant.0

pub returns-clause-entries : goal.returns-clause-entries
returns-clause-entries g c =
    let was = c.loop-worker.invariant.1 in
    let none = c.in-None.ensures.steps.0 in
    c.from_vec.ensures ∙ entries_taken (into_iter_items c.loop-worker.worker-iterator) c.loop-worker.by_worker.items _ (omega (arith, was, none)) c.loop-worker.invariant.2

pub returns-clause-writable : goal.returns-clause-writable
returns-clause-writable g c = rw c.from_vec.ensures c.loop-worker.invariant.3
