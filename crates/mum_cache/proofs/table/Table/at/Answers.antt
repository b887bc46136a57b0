use Rattle.mum_cache.proofs.Common.{◌≡◌, ◌<◌, ◌≤◌, ◌∙◌, length, get_or, vec_capacity, sym, ap, arith}
use Rattle.mum_cache.proofs.Padded.{padded_behind, padded_length, padded_written}
use Rattle.mum_cache.proofs.table.Table.at.Goals as goal

pub returns-then-number-len : goal.returns-then-number-len
returns-then-number-len g c =
    let written = c.self.inside.written in
    let blank = c.self.inside.blank in
    let below = c.if-number-len.true in
    let within : c.args.number < length written.items = omega (arith, written.ok.0, c.len.ensures, below) in
    c.index.ensures
    ∙ sym (padded_written (vec_capacity written) blank written.items c.args.number c.index.result.now within)
    ∙ ap (λ xs. get_or xs c.args.number c.index.result.now) c.self.view_is

pub returns-else-number-len : goal.returns-else-number-len
returns-else-number-len g c =
    let written = c.self.inside.written in
    let blank = c.self.inside.blank in
    let above = c.if-number-len.false in
    let few : length written.items ≤ vec_capacity written = omega (arith, written.ok.0, written.ok.1) in
    let whole : length c.args.self.now ≡ vec_capacity written =
    ap length (sym c.self.view_is) ∙ padded_length (vec_capacity written) blank written.items few in
    let past : length written.items ≤ c.args.number = omega (arith, written.ok.0, c.len.ensures, above) in
    let within : c.args.number < vec_capacity written = omega (arith, whole, c.requires) in
    sym (padded_behind (vec_capacity written) blank written.items c.args.number blank past within)
    ∙ ap (λ xs. get_or xs c.args.number blank) c.self.view_is
