use Rattle.mum_keeper.proofs.Common.{◌∙◌, true, false, sym}
use Rattle.mum_keeper.proofs.Walking.{put_over}
use Rattle.mum_keeper.proofs.tables.put_row.Goals as goal

pub returns-then-is_taken-clause-ok : goal.returns-then-is_taken-clause-ok
returns-then-is_taken-clause-ok g c =
    put_over g.T.Row.before c.args.new c.args.rows.now.items c.as_slice.result.now c.as_slice-2.result.now c.place_of-at.result true
    c.as_slice.ensures.value c.as_slice-2.ensures.value c.place_of-at.ensures.place (sym c.is_taken.ensures.taken ∙ c.if-is_taken.true)

pub returns-clause-ok : goal.returns-clause-ok
returns-clause-ok g c =
    c.in_ok-insert.ensures.items
    ∙ put_over g.T.Row.before c.args.new c.args.rows.now.items c.as_slice.result.now c.as_slice-2.result.now c.place_of-at.result false
    c.as_slice.ensures.value c.as_slice-2.ensures.value c.place_of-at.ensures.place (sym c.is_taken.ensures.taken ∙ c.if-is_taken.false)
