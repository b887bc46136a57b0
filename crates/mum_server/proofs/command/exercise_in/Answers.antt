-- Three words ask for an exercise where each of them is as it is to be.
use Rattle.mum_server.proofs.Common.{◌^◌, ◌-◌, sym, ap, ◌∙◌, arith, map, string_bytes, number_within-found, number_within, ROUNDS_LIMIT}
use Rattle.mum_server.proofs.Asked.{asks_exercise, map_three, none_said, three_asked}
use Rattle.mum_server.proofs.command.exercise_in.Goals as goal

pub returns-then-not-is_word-clause-asked : goal.returns-then-not-is_word-clause-asked
returns-then-not-is_word-clause-asked c = λ seed rounds asks.
    let low = c.in-len3.len_at_least in
    let high = c.in-len3.len_below in
    let asked = three_asked string_bytes c.args.words.now c.name-item.result c.seed-item.result c.rounds-item.result (omega (arith, low)) (omega (arith, high)) c.name-item.is c.seed-item.is c.rounds-item.is seed rounds asks in
    let yes = c.is_word.ensures.1 (c.as_str.ensures.value ∙ asked.named) in
    let never = c.if-not-is_word.true in
    cc

pub returns-in_err-seed-clause-asked : goal.returns-in_err-seed-clause-asked
returns-in_err-seed-clause-asked c =
    rw c.from_residual.ensures (λ seed rounds asks.
    let low = c.in-len3.len_at_least in
    let high = c.in-len3.len_below in
    let asked = three_asked string_bytes c.args.words.now c.name-item.result c.seed-item.result c.rounds-item.result (omega (arith, low)) (omega (arith, high)) c.name-item.is c.seed-item.is c.rounds-item.is seed rounds asks in
    none_said (2 ^ 64 - 1) c.as_str-2.result.now (string_bytes c.seed-item.result) seed c.as_str-2.ensures.value (sym c.number_within.ensures ∙ c.in_err-seed.was) asked.seeded)

pub returns-in_err-rounds-clause-asked : goal.returns-in_err-rounds-clause-asked
returns-in_err-rounds-clause-asked c =
    rw c.from_residual-in_err-rounds.ensures (λ seed rounds asks.
    let low = c.in-len3.len_at_least in
    let high = c.in-len3.len_below in
    let asked = three_asked string_bytes c.args.words.now c.name-item.result c.seed-item.result c.rounds-item.result (omega (arith, low)) (omega (arith, high)) c.name-item.is c.seed-item.is c.rounds-item.is seed rounds asks in
    none_said ROUNDS_LIMIT c.as_str-3.result.now (string_bytes c.rounds-item.result) rounds c.as_str-3.ensures.value (sym c.number_within-2.ensures ∙ c.in_err-rounds.was) asked.counted)

pub overflow_cast-result : goal.overflow_cast-result
overflow_cast-result c =
    let found = number_within-found 0 ROUNDS_LIMIT c.as_str-3.result.now c.in_ok-rounds.rounds (sym c.number_within-2.ensures ∙ c.in_ok-rounds.was) in
    let most = found.1 in
    omega arith

pub returns-clause-asked : goal.returns-clause-asked
returns-clause-asked c =
    let low = c.in-len3.len_at_least in
    let high = c.in-len3.len_below in
    let three = map_three string_bytes c.args.words.now c.name-item.result c.seed-item.result c.rounds-item.result (omega (arith, low)) (omega (arith, high)) c.name-item.is c.seed-item.is c.rounds-item.is in
    asks_exercise (map string_bytes c.args.words.now) (string_bytes c.name-item.result) (string_bytes c.seed-item.result) (string_bytes c.rounds-item.result) c.in_ok-seed.seed c.in_ok-rounds.rounds three
    (sym c.as_str.ensures.value ∙ c.is_word.ensures.0 c.if-not-is_word.false)
    (ap (number_within 0 (2 ^ 64 - 1)) (sym c.as_str-2.ensures.value) ∙ (sym c.number_within.ensures ∙ c.in_ok-seed.was))
    (ap (number_within 0 ROUNDS_LIMIT) (sym c.as_str-3.ensures.value) ∙ (sym c.number_within-2.ensures ∙ c.in_ok-rounds.was))
