use Rattle.mum_fields.proofs.Common.{◌++◌, ◌∙◌, ap, written, layout, parts, items, decoded}
use Rattle.mum_fields.proofs.ReadBack.{read_back, reads-as}
use Rattle.mum_fields.proofs.message.Message.encode.Goals as goal

pub returns-clause-read_back : goal.returns-clause-read_back
returns-clause-read_back g c = λ none.
    let rows = g.Self.Message.rows in
    let message = c.args.self.now in
    let laws = g.met.Self.Message in
    let spelled = c.finish.ensures ∙ c.in_ok-put.ensures.ok ∙ ap (λ before. before ++ written (items (layout rows) (parts rows message))) c.new.ensures in
    reads-as rows message _ laws.told_by_parts (ap (decoded rows) spelled ∙ read_back rows message laws.in_order c.in_ok-put.ensures.typed none)
