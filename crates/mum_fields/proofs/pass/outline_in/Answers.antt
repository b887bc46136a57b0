use Rattle.mum_fields.proofs.Common.{◌≡◌, [], ◌∷◌, map, refl, ◌∙◌, entry_of, fields, first, ended, form_of, no_values, values_after}
use Rattle.mum_fields.proofs.Passes.{outline-more, outline-ends}
use Rattle.mum_fields.proofs.pass.outline_in.Goals as goal

pub loop-placed-init : goal.loop-placed-init
loop-placed-init g c = (no_values (form_of (map g.S.Row.slot c.args.rows.now)), c.requires.empty, refl)

pub loop-placed-preserved : goal.loop-placed-preserved
loop-placed-preserved g c =
    let slots = map g.S.Row.slot c.args.rows.now in
    let i = c.loop-placed.invariant in
    let takes : fields c.loop-placed.reader ≡ first (entry_of c.in-Some.placed) (fields c.next_placed.new.self) = rw c.in-Some.is at c.in_ok-placed.ensures.takes in
    let t = c.in_ok-take.ensures i.0 i.1 in
    (values_after (form_of slots) i.0 (entry_of c.in-Some.placed ∷ []), t.1, outline-more (form_of slots) i.0 (entry_of c.in-Some.placed) (fields c.loop-placed.reader) (fields c.next_placed.new.self) takes t.0 ∙ i.2)

pub returns : goal.returns
returns g c =
    let slots = map g.S.Row.slot c.args.rows.now in
    let i = c.loop-placed.invariant in
    let ends : fields c.loop-placed.reader ≡ ended = rw c.in_default.is at c.in_ok-placed.ensures.takes in
    outline-ends (form_of slots) i.0 (fields c.loop-placed.reader) (fields c.args.reader) c.sum_up.result ends i.2 (c.sum_up.ensures i.0 i.1)
