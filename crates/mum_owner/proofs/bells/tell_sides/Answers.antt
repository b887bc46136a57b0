use Rattle.mum_owner.proofs.Common.{◌≡◌, ◌+◌, ◌<◌, ℕ, Bool, List, drop, length, get_or, set, refl, sym, subst, arith, SideFacts, TellsEach}
use Rattle.mum_owner.proofs.Telling.{ToldSoFar, front_of, same_length, told_all, told_more, told_none}
use Rattle.mum_owner.proofs.bells.tell_sides.Goals as goal

pub loop-side-init : goal.loop-side-init
loop-side-init g c = told_none _

pub loop-side-preserved : goal.loop-side-preserved
loop-side-preserved g c =
    let sides : List (SideFacts g.row.L.Denot) = c.deref_mut-side-items.result.now in
    let i : ℕ = c.loop-side.side-index in
    let side : SideFacts g.row.L.Denot = get_or c.loop-side.side-items i c.side-item.result in
    let within : i < length sides = omega arith in
    subst (λ (b : Bool). ToldSoFar sides (i + 1) b (set c.loop-side.side-items i c.tell-one.new.self)) (sym c.either-told.ensures)
    (told_more sides c.loop-side.side-items i c.loop-side.told c.tell-one.result side c.tell-one.new.self c.side-item.result within c.loop-side.invariant refl c.tell-one.ensures)

pub returns : goal.returns
returns g c =
    let sides : List (SideFacts g.row.L.Denot) = c.args.sides.now.items in
    let now : List (SideFacts g.row.L.Denot) = c.loop-side.side-items in
    let all : TellsEach sides c.loop-side.told now =
    subst (λ (l : List (SideFacts g.row.L.Denot)). TellsEach l c.loop-side.told now) c.deref_mut-side-items.ensures.value
    (told_all _ _ _ _ (omega arith) c.loop-side.invariant) in
    let many : length now ≡ length sides = same_length sides c.loop-side.told now all in
    let ok = c.args.sides.now.ok.0 in
    subst (λ (l : List (SideFacts g.row.L.Denot)). TellsEach sides c.loop-side.told l)
    (sym (front_of now (drop (length now) sides) c.args.sides.now.len (omega (arith, many, ok)))) all
