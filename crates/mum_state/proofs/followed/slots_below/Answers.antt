use Rattle.mum_state.proofs.Common.{◌≡◌, ◌<◌, get_or, length, refl, ap, arith, SLOTS, is_below, User}
use Rattle.mum_state.proofs.Marking.{marked_more, none_marked, slots_within}
use Rattle.mum_state.proofs.followed.slots_below.Goals as goal

pub loop-user-init : goal.loop-user-init
loop-user-init c = (refl, λ slot. none_marked SLOTS slot)

pub mark_where-requires : goal.mark_where-requires
mark_where-requires c =
    let at : (get_or c.args.users.now c.loop-user.user-index c.user-item.result).slot.0 < SLOTS =
    slots_within SLOTS 0 c.args.users.now c.requires c.loop-user.user-index c.user-item.result (omega arith) in
    let is : c.user-item.result.slot.0 ≡ (get_or c.args.users.now c.loop-user.user-index c.user-item.result).slot.0 = ap (λ (user : User). user.slot.0) c.user-item.is in
    let whole : length c.loop-user.marks ≡ SLOTS = c.loop-user.invariant.0 in
    omega arith

pub loop-user-preserved : goal.loop-user-preserved
loop-user-preserved c =
    let at : (get_or c.args.users.now c.loop-user.user-index c.user-item.result).slot.0 < SLOTS =
    slots_within SLOTS 0 c.args.users.now c.requires c.loop-user.user-index c.user-item.result (omega arith) in
    let is : c.user-item.result.slot.0 ≡ (get_or c.args.users.now c.loop-user.user-index c.user-item.result).slot.0 = ap (λ (user : User). user.slot.0) c.user-item.is in
    let whole : length c.loop-user.marks ≡ SLOTS = c.loop-user.invariant.0 in
    marked_more (λ user. is_below c.args.tree.now.channels c.args.id user.channel) c.args.users.now c.loop-user.user-index c.user-item.result c.loop-user.marks c.mark_where.new.marks c.is_below-below.result
    (omega arith) c.user-item.is (omega arith) whole c.loop-user.invariant.1 c.is_below-below.ensures c.mark_where.ensures
