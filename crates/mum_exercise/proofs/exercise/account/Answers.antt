use Rattle.mum_exercise.proofs.Common.{◌≡◌, ◌∷◌, ◌++◌, [], ap, ◌∙◌, string_bytes, IfOk-weaker, CoreState, line_of_words, account, numbers_words, exercised}
use Rattle.mum_exercise.proofs.Turns.{accounts}
use Rattle.mum_exercise.proofs.exercise.account.Goals as goal

pub returns : goal.returns
returns c =
    let course = c.in_ok-course.course in
    IfOk-weaker c.account-line.result
    (λ line. string_bytes line ≡ line_of_words (numbers_words c.args.seed c.args.rounds course.tally course.core.totals) ++ 10 ∷ [])
    (λ line. string_bytes line ≡ account c.args.seed c.args.rounds)
    (λ line is.
    is
    ∙ accounts c.args.seed c.args.rounds course.tally course.core.totals (exercised c.args.seed c.args.rounds)
    c.in_ok-course.ensures.tally (ap (λ (core : CoreState). core.totals) c.in_ok-course.ensures.core))
    c.account-line.ensures
