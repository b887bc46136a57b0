use Rattle.mum_state.proofs.Common.{◌≡◌, ◌∙◌, ◌<◌, get_or, length, ap, arith, SLOTS, User, speaks_where_in}
use Rattle.mum_state.proofs.{Marking.slots_within, Speaking.same_row, Speaking.speaks_alike}
use Rattle.mum_state.proofs.hearing.Hearing.speaks_at.Goals as goal

pub bounds-speakers-users : goal.bounds-speakers-users
bounds-speakers-users c =
    let at : (get_or c.args.users.now c.in-Some.first c.index-users-first.result).slot.0 < SLOTS =
    slots_within SLOTS 0 c.args.users.now c.requires.slots c.in-Some.first c.index-users-first.result (omega (arith, c.if-first-place.true, c.requires.within)) in
    let whole : length c.args.speakers.now ≡ SLOTS = c.requires.whole in
    omega arith

pub returns-then-first-place : goal.returns-then-first-place
returns-then-first-place c d =
    speaks_alike c.args.self.now.renewed.now c.args.self.now.all c.args.self.now.channels.now c.args.users.now c.args.speakers.now c.args.place c.in-Some.first c.index-users-place.result c.index-users-first.result
    c.requires.slots c.requires.so_far c.in-Some.ensures c.if-first-place.true
    ∙ ap (λ (user : User). speaks_where_in c.args.self.now.channels.now user) (c.index-users-place.is ∙ same_row c.args.users.now c.args.place c.index-users-place.result d c.requires.within)
