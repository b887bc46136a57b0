-- Each worker comes after those before it.
use Rattle.mum_serve.proofs.Common.{length, ap, arith, into_iter_items}
use Rattle.mum_serve.proofs.Together.{put_all, put_later, put_one, room_behind}
use Rattle.mum_serve.proofs.roles.together.Goals as goal

pub loop-worker-preserved : goal.loop-worker-preserved
loop-worker-preserved g c =
    let steps = c.in-Some.ensures.steps in
    let short = ap length steps.0 in
    let gone = steps.1 in
    let was = c.loop-worker.invariant.1 in
    let room = c.loop-worker.invariant.2 in
    let pushed = c.push_reserved-in-loop-worker.ensures.items in
    let longer = ap length pushed in
    let same = c.push_reserved-in-loop-worker.ensures.capacity in (
      put_one _ c.loop-worker.list.items c.push_reserved-in-loop-worker.new.self.items _ (into_iter_items c.next.new.self) c.in-Some.worker steps.0 pushed c.loop-worker.invariant.0,
      omega (arith, was, gone, short),
      omega (arith, longer, short, room, same),
    )

pub returns : goal.returns
returns g c =
    let was = c.loop-worker.invariant.1 in
    let none = c.in-None.ensures.steps.0 in
    let all = put_all _ c.loop-worker.list.items (into_iter_items c.loop-worker.worker-iterator) (omega (arith, was, none)) c.loop-worker.invariant.0 in
    put_later c.loop-worker.list.items c.push_viewer.new.list.items c.push_store.new.list.items c.args.roles.owner c.args.roles.workers.items c.args.roles.viewer c.args.roles.store all c.push_viewer.ensures.items c.push_store.ensures

pub push_store-requires : goal.push_store-requires
push_store-requires g c =
    let room = c.loop-worker.invariant.2 in
    let long = room_behind c.loop-worker.list.items c.push_viewer.new.list.items c.args.roles.viewer c.push_viewer.ensures.items in
    let same = c.push_viewer.ensures.capacity in
    omega (arith, room, long, same)
