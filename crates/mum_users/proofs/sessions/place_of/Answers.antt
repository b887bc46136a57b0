use Rattle.mum_users.proofs.Common.{Ok, Err, rules, answers_always, SLOTS}
use Rattle.mum_users.proofs.Slots.{place_of_slot}
use Rattle.mum_users.proofs.sessions.place_of.Goals as goal

pub returns-in-Ok : goal.returns-in-Ok
returns-in-Ok c =
    let facts = c.in-Ok.ensures in
    let by_slot = facts.position (λ user. user.slot.0) (answers_always _ _ _ (λ f a r g called. search rules)) in
    place_of_slot SLOTS c.args.users.now c.requires c.args.slot (Ok c.in-Ok.index) facts.bound by_slot

pub returns-in-Err : goal.returns-in-Err
returns-in-Err c =
    let facts = c.in-Err.ensures in
    let by_slot = facts.position (λ user. user.slot.0) (answers_always _ _ _ (λ f a r g called. search rules)) in
    place_of_slot SLOTS c.args.users.now c.requires c.args.slot (Err c.in-Err.field-0) facts.bound by_slot
