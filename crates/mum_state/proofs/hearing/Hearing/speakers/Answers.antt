use Rattle.mum_state.proofs.Common.{◌≡◌, ◌∙◌, ◌<◌, ◌==◌, ◌&&◌, List, get_or, length, refl, ap, arith, list_any, take_all, SLOTS, User, is_speaker}
use Rattle.mum_state.proofs.{Marking.marked_more, Marking.none_marked, Marking.slots_within, Speaking.same_row}
use Rattle.mum_state.proofs.hearing.Hearing.speakers.Goals as goal

pub loop-place-init : goal.loop-place-init
loop-place-init c = (refl, λ slot. none_marked SLOTS slot)

pub is_speaker-speaks-requires-clause-so_far : goal.is_speaker-speaks-requires-clause-so_far
is_speaker-speaks-requires-clause-so_far c = c.loop-place.invariant.1

pub mark_where-requires : goal.mark_where-requires
mark_where-requires c =
    let at : (get_or c.args.users.now c.loop-place.place c.index-users-place.result).slot.0 < SLOTS =
    slots_within SLOTS 0 c.args.users.now c.requires c.loop-place.place c.index-users-place.result c.loop-place-test.true in
    let whole : length c.loop-place.speakers ≡ SLOTS = c.loop-place.invariant.0 in
    omega arith

pub loop-place-preserved : goal.loop-place-preserved
loop-place-preserved c =
    let at : (get_or c.args.users.now c.loop-place.place c.index-users-place.result).slot.0 < SLOTS =
    slots_within SLOTS 0 c.args.users.now c.requires c.loop-place.place c.index-users-place.result c.loop-place-test.true in
    let user : User = get_or c.args.users.now c.loop-place.place c.index-users-place.result in
    let whole : length c.loop-place.speakers ≡ SLOTS = c.loop-place.invariant.0 in
    marked_more (is_speaker c.args.self.now.renewed.now c.args.self.now.all c.args.self.now.channels.now) c.args.users.now c.loop-place.place user c.loop-place.speakers c.mark_where.new.marks c.is_speaker-speaks.result
    c.loop-place-test.true (same_row c.args.users.now c.loop-place.place c.index-users-place.result user c.loop-place-test.true) (omega arith) whole c.loop-place.invariant.1 (c.is_speaker-speaks.ensures c.index-users-place.result) c.mark_where.ensures

pub returns : goal.returns
returns c slot =
    c.loop-place.invariant.1 slot
    ∙ ap (λ (users : List User). list_any (λ (user : User). (user.slot.0 == slot) && is_speaker c.args.self.now.renewed.now c.args.self.now.all c.args.self.now.channels.now user) users)
    (take_all c.loop-place.place c.args.users.now c.loop-place-test.false)
