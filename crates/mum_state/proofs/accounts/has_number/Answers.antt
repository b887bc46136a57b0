use Rattle.mum_state.proofs.Common.{Ok, Err, ◌==◌, sym, rules, eq-eqb, answers_always, list_any_at, AccountId, found_by_halving}
use Rattle.mum_state.proofs.Insertion.{none_of_number, numbers_rise}
use Rattle.mum_state.proofs.accounts.has_number.Goals as goal

pub returns-in-Ok : goal.returns-in-Ok
returns-in-Ok c =
    let facts = c.in-Ok.ensures in
    let by_number = facts.position (λ (one : AccountId). one.0) (answers_always _ _ _ (λ f a r g called. search rules)) in
    let found = found_by_halving (λ (one : AccountId). one.0) c.args.number.0 c.args.numbers.now (numbers_rise c.args.numbers.now c.requires) (Ok c.in-Ok.field-0) facts.bound by_number in
    sym (list_any_at (λ (one : AccountId). one.0 == c.args.number.0) c.args.numbers.now c.in-Ok.field-0 c.args.number facts.bound (eq-eqb _ _ (found c.args.number)))

pub returns-in-Err : goal.returns-in-Err
returns-in-Err c =
    let facts = c.in-Err.ensures in
    let by_number = facts.position (λ (one : AccountId). one.0) (answers_always _ _ _ (λ f a r g called. search rules)) in
    sym (none_of_number c.args.number c.args.numbers.now (found_by_halving (λ (one : AccountId). one.0) c.args.number.0 c.args.numbers.now (numbers_rise c.args.numbers.now c.requires) (Err c.in-Err.field-0) facts.bound by_number))
