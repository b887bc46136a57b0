use Rattle.mum_state.proofs.Common.{◌∙◌, ◌&&◌, not, false, get_or, ap, arith}
use Rattle.mum_state.proofs.Governed.{opened_all, opened_more, opened_none}
use Rattle.mum_state.proofs.channels.open_left_places.Goals as goal

pub loop-place-init : goal.loop-place-init
loop-place-init c = opened_none c.args.before.now c.args.tree.now.channels c.args.policies.now.items

pub loop-place-preserved : goal.loop-place-preserved
loop-place-preserved c =
    opened_more c.args.before.now c.args.tree.now.channels c.args.policies.now.items c.loop-place.policies.items c.open_where.new.policies.items c.loop-place.place
    c.is_left-left.result (omega arith) c.loop-place.invariant
    (c.is_left-left.ensures ∙ ap (λ b. get_or c.args.before.now c.loop-place.place false && not b) (c.taken_places-after.ensures c.loop-place.place))
    c.open_where.ensures

pub returns-clause-opened : goal.returns-clause-opened
returns-clause-opened c =
    opened_all c.args.before.now c.args.tree.now.channels c.args.policies.now.items c.loop-place.policies.items c.loop-place.place c.loop-place.invariant (omega arith)

pub returns-clause-kept : goal.returns-clause-kept
returns-clause-kept c = c.loop-place.invariant.kept
