use Rattle.mum_kept.proofs.Common.{◌≡◌, ◌-◌, ◌+◌, ℕ, ap, sym, ◌∙◌, arith, is_among, ROOT, upward, tree_row, tree_rows}
use Rattle.mum_kept.proofs.Goodness.{leads_none, leads_on, leads_root, leads_zero}
use Rattle.mum_kept.proofs.good.leads_up.Goals as goal

pub returns-in_default : goal.returns-in_default
returns-in_default c =
    sym (c.loop-step.invariant ∙ leads_none (tree_rows c.args.channels.now) (33 - c.loop-step._step) c.loop-step.id (sym (c.in_default.ensures {u = tt})))

pub returns-then-id : goal.returns-then-id
returns-then-id c =
    sym (c.loop-step.invariant
    ∙ leads_root (tree_rows c.args.channels.now) (33 - c.loop-step._step) c.loop-step.id (tree_row c.in-Some.channel.now) (omega arith) (sym (c.in-Some.ensures {u = tt})) c.if-id.true)

pub loop-step-preserved : goal.loop-step-preserved
loop-step-preserved c =
    let rows = tree_rows c.args.channels.now in
    let less : 33 - c.loop-step._step - 1 ≡ 33 - (c.loop-step._step + 1) = omega arith in
    c.loop-step.invariant
    ∙ leads_on rows (33 - c.loop-step._step) c.loop-step.id (tree_row c.in-Some.channel.now) (omega arith) (sym (c.in-Some.ensures {u = tt})) c.if-id.false
    ∙ ap (λ (n : ℕ). is_among (upward rows n c.in-Some.channel.now.parent) ROOT) less

pub returns : goal.returns
returns c =
    let rows = tree_rows c.args.channels.now in
    let none : 33 - c.loop-step._step ≡ 0 = omega arith in
    sym (c.loop-step.invariant ∙ ap (λ (n : ℕ). is_among (upward rows n c.loop-step.id) ROOT) none ∙ leads_zero rows c.loop-step.id)
