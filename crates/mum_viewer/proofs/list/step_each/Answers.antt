use Rattle.mum_viewer.proofs.Common.{length, arith, ap, fewer, is_open}
use Rattle.mum_viewer.proofs.list.step_each.Goals as goal

pub returns-clause-few : goal.returns-clause-few
returns-clause-few g c =
    let all = c.step_all-counted.new.list.items in
    let less = fewer is_open all in
    let is = ap (λ l. length l) c.let_go.ensures.items in
    let same = c.step_all-counted.ensures.same in
    omega (arith, less, is, same)
