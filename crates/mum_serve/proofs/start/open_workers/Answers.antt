-- One worker more takes the next pass and the next ends.
use Rattle.mum_serve.proofs.Common.{◌≡◌, ◌∙◌, List, Option, is_some, length, ap, subst, sym, arith, All, AllByRecursion, into_iter_items, All-head, All-rest, IsFresh, PassFacts, AreOpenedFrom, HasBoxes, WorkerFacts}
use Rattle.mum_serve.proofs.{Opening.among_more, Opening.many_more, Opening.opened_more, Opening.over_more, Opening.over_nobody, Opening.worker_begins, start.open_workers.Goals.in_default-2-via-in-Some+in_default, start.open_workers.Goals.in_default-2-via-in_default}
use Rattle.mum_serve.proofs.start.open_workers.Goals as goal

pub workers-init : goal.workers-init
workers-init g c =
    let passes = c.into_iter-passes.ensures in
    let shared = c.into_iter-shared.ensures in
    let room = c.in-Ok.ensures in
    let many_passes = ap (λ (xs : List _). length xs) passes.rest in
    let many_shared = ap (λ (xs : List _). length xs) shared.rest in
    let pass_len = passes.len in
    let shared_len = shared.len in
    let one_each = c.requires.one_each in
    let each = c.requires.shared in
    let pass_ok = c.args.passes.ok.0 in
    let shared_ok = c.args.shared.ok.0 in
    let capacity = room.capacity in
    let asked = c.from.ensures in
    let nobody = ap (λ (xs : List _). length xs) room.items in (
      omega (arith, many_passes, one_each),
      omega (arith, many_shared, each),
      omega (arith, many_passes, pass_len, pass_ok),
      omega (arith, many_shared, shared_len, shared_ok),
      subst (All (IsFresh g.N.Naming.opening)) (sym passes.rest) c.requires.passes,
      subst (All HasBoxes) (sym shared.rest) c.requires.boxes,
      over_nobody c.args.shared.items (into_iter_items c.into_iter-shared.result) c.in-Ok.workers.items room.items (sym shared.rest),
      subst (λ (workers : List (WorkerFacts _)). AreOpenedFrom g.N.Naming.opening c.args.closings 0 workers) (sym room.items) tt,
      nobody,
      omega (arith, capacity, asked),
      subst (AllByRecursion (λ (worker : WorkerFacts _). worker.workers ≡ c.args.count)) (sym room.items) tt,
    )

pub unreachable-requires : goal.unreachable-requires
unreachable-requires g c =
    let was = c.workers.invariant in
    let pass_count = was.0 in
    let end_count = was.1 in
    let pass_len = was.2 in
    let end_len = was.3 in
    let more = c.workers-test.true in
    let pass = c.next.ensures.variant.1 (omega (arith, pass_count, pass_len, more)) in
    let ends = c.next-in-workers.ensures.variant.1 (omega (arith, end_count, end_len, more)) in
    elim c.in_default-2.branch [
      | in_default-2-via-in-Some+in_default w ↦ let no = sym (ap (λ (one : Option _). is_some one) w.in_default-2.is-1) ∙ ends in absurd (cc no)
      | in_default-2-via-in_default w ↦ let no = sym (ap (λ (one : Option _). is_some one) w.in_default-2.is-0) ∙ pass in absurd (cc no)
    ]

pub open-requires-clause-opening : goal.open-requires-clause-opening
open-requires-clause-opening g c =
    ap (λ (p : PassFacts). p.opening)
    (All-head (IsFresh g.N.Naming.opening) c.in-Some-Some.pass (into_iter_items c.next.new.self) (subst (All (IsFresh g.N.Naming.opening)) c.in-Some-Some.ensures.cases.0 c.workers.invariant.4))

pub open-requires-clause-no_look : goal.open-requires-clause-no_look
open-requires-clause-no_look g c =
    ap (λ (p : PassFacts). p.asks)
    (All-head (IsFresh g.N.Naming.opening) c.in-Some-Some.pass (into_iter_items c.next.new.self) (subst (All (IsFresh g.N.Naming.opening)) c.in-Some-Some.ensures.cases.0 c.workers.invariant.4))

pub open-requires-clause-voice : goal.open-requires-clause-voice
open-requires-clause-voice g c = (All-head HasBoxes c.in-Some-Some.ends (into_iter_items c.next-in-workers.new.self) (subst (All HasBoxes) c.in-Some-Some.ensures'.cases.0 c.workers.invariant.5)).voice

pub open-requires-clause-posts : goal.open-requires-clause-posts
open-requires-clause-posts g c = (All-head HasBoxes c.in-Some-Some.ends (into_iter_items c.next-in-workers.new.self) (subst (All HasBoxes) c.in-Some-Some.ensures'.cases.0 c.workers.invariant.5)).posts

pub workers-preserved : goal.workers-preserved
workers-preserved g c =
    let was = c.workers.invariant in
    let passes = c.in-Some-Some.ensures.cases in
    let ends = c.in-Some-Some.ensures'.cases in
    let fewer_passes = ap length passes.0 in
    let fewer_ends = ap length ends.0 in
    let pass_count = was.0 in
    let end_count = was.1 in
    let pass_len = was.2 in
    let end_len = was.3 in
    let pass_gone = passes.1 in
    let end_gone = ends.1 in
    let room = was.9 in
    let same = c.push_reserved.ensures.capacity in
    let pushed = c.push_reserved.ensures.items in
    let worker = c.in-Ok-open in
    let fresh = All-head (IsFresh g.N.Naming.opening) c.in-Some-Some.pass (into_iter_items c.next.new.self) (subst (All (IsFresh g.N.Naming.opening)) passes.0 was.4) in (
      omega (arith, fewer_passes, pass_count),
      omega (arith, fewer_ends, end_count),
      omega (arith, pass_len, pass_gone, fewer_passes),
      omega (arith, end_len, end_gone, fewer_ends),
      All-rest (IsFresh g.N.Naming.opening) c.in-Some-Some.pass (into_iter_items c.next.new.self) (into_iter_items c.workers.passes) passes.0 was.4,
      All-rest HasBoxes c.in-Some-Some.ends (into_iter_items c.next-in-workers.new.self) (into_iter_items c.workers.shared) ends.0 was.5,
      over_more (into_iter_items c.workers.shared) (into_iter_items c.next-in-workers.new.self) c.args.shared.items c.in-Some-Some.ends c.workers.workers.items c.push_reserved.new.self.items worker.worker
          ends.0 pushed worker.ensures.joins was.6,
      opened_more g.N.Naming.opening c.args.closings c.workers.number c.workers.workers.items c.push_reserved.new.self.items worker.worker was.8 pushed
          (worker_begins g.N.Naming.opening c.in-Some-Some.pass c.args.closings c.workers.number c.in-Some-Some.ends worker.worker fresh worker.ensures.opened worker.ensures.joins) was.7,
      many_more c.workers.number c.workers.workers.items c.push_reserved.new.self.items worker.worker was.8 pushed,
      omega (arith, room, same),
      among_more c.args.count c.workers.workers.items c.push_reserved.new.self.items worker.worker pushed worker.ensures.workers was.10,
    )
