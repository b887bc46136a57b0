use Rattle.mum_fields.proofs.Common.{number_of, ◌≡◌, sym, ◌∙◌}
use Rattle.mum_fields.proofs.Passes.{own-set, later-set, set-in, in-set}
use Rattle.mum_fields.proofs.pass.+is_set.Goals as goal

pub returns-then-number : goal.returns-then-number
returns-then-number g t c =
    let slot = g.S.Row.slot in
    set-in slot c.args.rows.now c.args.parts.now c.args.number _ (own-set slot c.args.rows.now c.in-Some.others.now c.args.parts.now c.in-Some-split_first.behind.now c.in-Some.row.now c.in-Some-split_first.part.now c.args.number c.in-Some.ensures.cases.0 c.in-Some-split_first.ensures.cases.0 (sym c.number.ensures ∙ c.if-number.true))

pub returns : goal.returns
returns g t c =
    let slot = g.S.Row.slot in
    set-in slot c.args.rows.now c.args.parts.now c.args.number _ (later-set slot c.args.rows.now c.in-Some.others.now c.args.parts.now c.in-Some-split_first.behind.now c.in-Some.row.now c.in-Some-split_first.part.now c.args.number c.is_set.result c.in-Some.ensures.cases.0 c.in-Some-split_first.ensures.cases.0 (λ is. c.if-number.false (c.number.ensures ∙ is)) (in-set slot c.in-Some.others.now c.in-Some-split_first.behind.now c.args.number c.is_set.result c.is_set.ensures))
