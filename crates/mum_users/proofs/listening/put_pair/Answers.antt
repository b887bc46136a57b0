use Rattle.mum_users.proofs.Common.{◌∙◌}
use Rattle.mum_users.proofs.Pairs.{put_stays, put_goes_in}
use Rattle.mum_users.proofs.listening.put_pair.Goals as goal

pub returns-then-is_at-clause-items : goal.returns-then-is_at-clause-items
returns-then-is_at-clause-items c =
    put_stays c.args.order c.args.new c.args.pairs.now.items c.as_slice.result.now c.as_slice-2.result.now c.place_of-place.result
    c.as_slice.ensures.value c.as_slice-2.ensures.value c.place_of-place.ensures.place
    c.args.new c.if-is_at.ensures.within c.if-is_at.ensures.same

pub returns-clause-items : goal.returns-clause-items
returns-clause-items c =
    c.in-Ok.ensures.items
    ∙ put_goes_in c.args.order c.args.new c.args.pairs.now.items c.as_slice.result.now c.as_slice-2.result.now c.place_of-place.result
    c.as_slice.ensures.value c.as_slice-2.ensures.value c.place_of-place.ensures.place c.if-is_at.ensures.same
