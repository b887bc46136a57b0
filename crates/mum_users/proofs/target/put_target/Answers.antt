use Rattle.mum_users.proofs.Common.{◌∙◌}
use Rattle.mum_users.proofs.Places.{put_over, put_before}
use Rattle.mum_users.proofs.target.put_target.Goals as goal

pub returns-then-is_at-clause-ok : goal.returns-then-is_at-clause-ok
returns-then-is_at-clause-ok c =
    put_over c.args.new c.args.rows.now.items c.as_slice.result.now c.as_slice-2.result.now c.place_of-place.result
    c.as_slice.ensures.value c.as_slice-2.ensures.value c.place_of-place.ensures.place
    c.args.new c.if-is_at.ensures.within c.if-is_at.ensures.same

pub returns-clause-ok : goal.returns-clause-ok
returns-clause-ok c =
    c.in_ok-insert.ensures.items
    ∙ put_before c.args.new c.args.rows.now.items c.as_slice.result.now c.as_slice-2.result.now c.place_of-place.result
    c.as_slice.ensures.value c.as_slice-2.ensures.value c.place_of-place.ensures.place c.if-is_at.ensures.same
