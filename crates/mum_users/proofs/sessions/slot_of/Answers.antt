use Rattle.mum_users.proofs.Common.{Ok, Err, rules, answers_always}
use Rattle.mum_users.proofs.{Numbers.found_slot, Numbers.no_slot, Numbers.numbers_rise, Search.found_by_halving}
use Rattle.mum_users.proofs.sessions.slot_of.Goals as goal

pub returns-in-Ok : goal.returns-in-Ok
returns-in-Ok c =
    let facts = c.in-Ok.ensures in
    let by_number = facts.position (λ own. own.session.0) (answers_always _ _ _ (λ f a r g called. search rules)) in
    let slots = c.args.slots.now in
    found_slot c.args.session slots c.in-Ok.index _ c.requires facts.bound
    (found_by_halving (λ own. own.session.0) c.args.session.0 slots (numbers_rise slots c.requires) (Ok c.in-Ok.index) facts.bound by_number _)

pub returns-in-Err : goal.returns-in-Err
returns-in-Err c =
    let facts = c.in-Err.ensures in
    let by_number = facts.position (λ own. own.session.0) (answers_always _ _ _ (λ f a r g called. search rules)) in
    let slots = c.args.slots.now in
    no_slot c.args.session slots (found_by_halving (λ own. own.session.0) c.args.session.0 slots (numbers_rise slots c.requires) (Err c.in-Err.field-0) facts.bound by_number)
