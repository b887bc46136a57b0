use Rattle.mum_fields.proofs.Common.{◌≡◌, Ok, refl, sym, ap, ◌∙◌, entry_of, fields, ended, first, layout, parts, values_after, rules}
use Rattle.mum_fields.proofs.{Decoding.outcome-next, Decoding.outcome-end, Steps.after-nothing, Steps.after-next}
use Rattle.mum_fields.proofs.message.gather.Goals as goal

pub loop-message-init : goal.loop-message-init
loop-message-init g c = rw c.new-message.ensures refl

pub loop-message-preserved : goal.loop-message-preserved
loop-message-preserved g c =
    let form = layout g.M.Message.rows in
    let before = parts g.M.Message.rows c.loop-message.message in
    let now = parts g.M.Message.rows c.take.new.self in
    let e = entry_of c.in-Some.placed in
    let others = fields c.next_placed.new.self in
    let takes : fields c.loop-message.reader ≡ first e others = rw c.in-Some.is at c.in_ok-placed.ensures.takes in
    sym (outcome-next (rules form) (values_after form before) (values_after form now) (fields c.loop-message.reader) others e takes c.in_ok-take.ensures.clean (λ es. after-next form before e es ∙ ap (λ v. values_after form v es) (sym c.in_ok-take.ensures.ok))) ∙ c.loop-message.invariant

pub returns : goal.returns
returns g c =
    let form = layout g.M.Message.rows in
    let values = parts g.M.Message.rows c.loop-message.message in
    let left = fields c.loop-message.reader in
    let ends : left ≡ ended = rw c.in_default.is at c.in_ok-placed.ensures.takes in
    sym c.loop-message.invariant ∙ outcome-end (rules form) (values_after form values) left ends ∙ ap Ok (after-nothing form values)
