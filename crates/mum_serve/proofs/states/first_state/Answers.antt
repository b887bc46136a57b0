-- Without rows, and without channels in them, the configuration describes the state; and else the channels are made again.
use Rattle.mum_serve.proofs.Common.{◌≡◌, ◌++◌, Some, IfOk-weaker, limits_edits, after, StateValue, state_over}
use Rattle.mum_serve.proofs.Beginning.{over_no_channels, over_no_rows}
use Rattle.mum_serve.proofs.states.first_state.Goals as goal

pub returns-in_default : goal.returns-in_default
returns-in_default c =
    IfOk-weaker c.opening_state.result (λ (state : StateValue). state ≡ after (limits_edits (Some c.greatest.result) ++ c.args.edits.now)) (λ (state : StateValue). state ≡ state_over c.args.edits.now c.args.rows.now)
    (λ state leads. over_no_rows c.args.edits.now c.args.rows.now c.greatest.result state c.greatest.ensures c.in_default.is leads)
    c.opening_state.ensures

pub returns-then-is_empty : goal.returns-then-is_empty
returns-then-is_empty c =
    IfOk-weaker c.opening_state-then-is_empty.result (λ (state : StateValue). state ≡ after (limits_edits (Some c.greatest-then-is_empty.result) ++ c.args.edits.now)) (λ (state : StateValue). state ≡ state_over c.args.edits.now c.args.rows.now)
    (λ state leads.
    over_no_channels c.args.edits.now c.args.rows.now c.in-Some.rows c.as_slice.result.now c.is_empty.result c.greatest-then-is_empty.result state c.greatest-then-is_empty.ensures c.in-Some.is c.as_slice.ensures c.is_empty.ensures c.if-is_empty.true leads)
    c.opening_state-then-is_empty.ensures
