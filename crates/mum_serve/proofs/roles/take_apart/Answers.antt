-- One worker is taken after another, and then the viewer.
use Rattle.mum_serve.proofs.Common.{List, [], ◌∷◌, length, length-append, ap, arith, into_iter_items}
use Rattle.mum_serve.proofs.Together.{all_taken, no_owner_left, none_taken, took_one, took_store, took_viewer}
use Rattle.mum_serve.proofs.roles.take_apart.Goals as goal

pub loop-role-init : goal.loop-role-init
loop-role-init g c =
    let gives = c.into_iter-role-iterator.ensures.into_iter_gives in
    let items = gives.0 in
    let len = gives.1 in
    let same = ap (λ (xs : List _). length xs) items in
    let is = c.args.roles.ok.0 in
    let nobody = c.requires.room.0 in
    let none = ap (λ (xs : List _). length xs) nobody in
    let capacity = c.requires.room.1 in (
      none_taken c.args.roles.items (into_iter_items c.into_iter-role-iterator.result) _ _ _ c.requires.roles items nobody c.requires.no_viewer c.requires.no_store,
      omega (arith, len, same, is),
      omega (arith, none, same, capacity),
    )

pub loop-role-preserved-in-Worker : goal.loop-role-preserved-in-Worker
loop-role-preserved-in-Worker g c =
    let steps = c.in-Some.ensures.steps in
    let short = ap (λ (xs : List _). length xs) steps.0 in
    let was = c.loop-role.invariant.1 in
    let gone = steps.1 in
    let pushed = c.push_reserved.ensures.items in
    let longer = ap (λ (xs : List _). length xs) pushed in
    let one_more = length-append c.loop-role.workers.items (c.in-Worker.worker ∷ []) in
    let room = c.loop-role.invariant.2 in
    let same = c.push_reserved.ensures.capacity in (
      took_one _ _ (into_iter_items c.next.new.self) c.loop-role.workers.items c.push_reserved.new.self.items c.loop-role.viewer c.loop-role.store c.in-Some.role c.in-Worker.worker steps.0 c.in-Worker.is pushed c.loop-role.invariant.0,
      omega (arith, was, gone, short),
      omega (arith, longer, one_more, short, room, same),
    )

pub loop-role-preserved-in-Viewer : goal.loop-role-preserved-in-Viewer
loop-role-preserved-in-Viewer g c =
    let steps = c.in-Some.ensures.steps in
    let short = ap (λ (xs : List _). length xs) steps.0 in
    let was = c.loop-role.invariant.1 in
    let gone = steps.1 in
    let room = c.loop-role.invariant.2 in (
      took_viewer _ _ (into_iter_items c.next.new.self) c.loop-role.workers.items c.loop-role.viewer c.replace.new.self c.loop-role.store c.in-Some.role c.in-Viewer.one steps.0 c.in-Viewer.is c.replace.ensures.after c.loop-role.invariant.0,
      omega (arith, was, gone, short),
      omega (arith, short, room),
    )

pub loop-role-preserved : goal.loop-role-preserved
loop-role-preserved g c =
    let steps = c.in-Some.ensures.steps in
    let short = ap (λ (xs : List _). length xs) steps.0 in
    let was = c.loop-role.invariant.1 in
    let gone = steps.1 in
    let room = c.loop-role.invariant.2 in (
      took_store _ _ (into_iter_items c.next.new.self) c.loop-role.workers.items c.loop-role.viewer c.loop-role.store c.replace-in-Store.new.self c.in-Some.role c.in-Store.one steps.0 c.in-Store.is c.replace-in-Store.ensures.after c.loop-role.invariant.0,
      omega (arith, was, gone, short),
      omega (arith, short, room),
    )

pub unreachable-requires : goal.unreachable-requires
unreachable-requires g c =
    no_owner_left _ _ (into_iter_items c.next.new.self) c.loop-role.workers.items c.loop-role.viewer c.loop-role.store c.in-Some.role c.in-Owner.field-0 c.in-Some.ensures.steps.0 c.in-Owner.is c.loop-role.invariant.0

pub returns : goal.returns
returns g c =
    let was = c.loop-role.invariant.1 in
    let none = c.in-None.ensures.steps.0 in
    all_taken c.args.roles.items (into_iter_items c.loop-role.role-iterator) c.loop-role.workers.items c.loop-role.viewer c.loop-role.store c.requires.roles (omega (arith, was, none)) c.loop-role.invariant.0
