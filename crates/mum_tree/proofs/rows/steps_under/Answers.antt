use Rattle.mum_tree.proofs.Common.{◌≡◌, ◌+◌, ◌-◌, ◌<◌, ℕ, Some, arith, ap, sym, ◌∙◌, position, option_map, level, upward}
use Rattle.mum_tree.proofs.{Climb.add_none, Climb.add_one_more, Climb.climb_done, Climb.climb_missing, Climb.climb_on, Climb.climb_root, Climb.climb_top, Shrunk.is_top}
use Rattle.mum_tree.proofs.rows.steps_under.Goals as goal

pub loop-steps-init : goal.loop-steps-init
loop-steps-init c = sym (add_none (level c.args.rows.now c.args.top c.args.id))

pub returns-in_default-clause-value : goal.returns-in_default-clause-value
returns-in_default-clause-value c =
    let steps = c.loop-steps.steps in
    let none = climb_missing c.args.rows.now c.args.top c.loop-steps.at (33 - steps) (sym ((c.in_default.ensures {u = tt}).value)) in
    sym (c.loop-steps.invariant ∙ ap (option_map (λ (k : ℕ). k + steps)) none)

pub returns-then-at-top-clause-value : goal.returns-then-at-top-clause-value
returns-then-at-top-clause-value c =
    let steps = c.loop-steps.steps in
    let more : 0 < 33 - steps = omega (arith, c.loop-steps-test.true) in
    let here = climb_top c.args.rows.now c.args.top c.loop-steps.at (33 - steps) c.in-Some.row.now more (sym ((c.in-Some.ensures {u = tt}).value)) c.if-at-top.true in
    let sum : 0 + steps ≡ steps = omega arith in
    sym (c.loop-steps.invariant ∙ ap (option_map (λ (k : ℕ). k + steps)) here ∙ ap (λ (k : ℕ). Some k) sum)

pub returns-then-at-clause-value : goal.returns-then-at-clause-value
returns-then-at-clause-value c =
    let steps = c.loop-steps.steps in
    let more : 0 < 33 - steps = omega (arith, c.loop-steps-test.true) in
    let none = climb_root c.args.rows.now c.args.top c.loop-steps.at (33 - steps) c.in-Some.row.now more (sym ((c.in-Some.ensures {u = tt}).value)) c.if-at-top.false c.if-at.true in
    sym (c.loop-steps.invariant ∙ ap (option_map (λ (k : ℕ). k + steps)) none)

pub loop-steps-preserved : goal.loop-steps-preserved
loop-steps-preserved c =
    let rows = c.args.rows.now in
    let steps = c.loop-steps.steps in
    let parent = c.in-Some.row.now.channel.parent in
    let more : 0 < 33 - steps = omega (arith, c.loop-steps-test.true) in
    let less : 33 - steps - 1 ≡ 33 - (steps + 1) = omega arith in
    let on = climb_on rows c.args.top c.loop-steps.at (33 - steps) c.in-Some.row.now more (sym ((c.in-Some.ensures {u = tt}).value)) c.if-at-top.false c.if-at.false in
    c.loop-steps.invariant
    ∙ ap (option_map (λ (k : ℕ). k + steps)) on
    ∙ add_one_more steps (position (is_top c.args.top) (upward rows (33 - steps - 1) parent))
    ∙ ap (λ n. option_map (λ (k : ℕ). k + (steps + 1)) (position (is_top c.args.top) (upward rows n parent))) less

pub returns-clause-value : goal.returns-clause-value
returns-clause-value c =
    let steps = c.loop-steps.steps in
    let done = climb_done c.args.rows.now c.args.top c.loop-steps.at (33 - steps) (omega (arith, c.loop-steps-test.false)) in
    sym (c.loop-steps.invariant ∙ ap (option_map (λ (k : ℕ). k + steps)) done)
