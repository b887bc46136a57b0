use Rattle.mum_exercise.proofs.Common.{ℕ, ◌≤◌, List, length, sym, subst, arith, ◌∙◌, PAYLOAD_LIMIT}
use Rattle.mum_exercise.proofs.Asking.{frames_one}
use Rattle.mum_exercise.proofs.acts.frame_of.Goals as goal

pub returns-clause-one : goal.returns-clause-one
returns-clause-one g c =
    let short : length c.as_slice.result.now ≤ PAYLOAD_LIMIT = subst (λ (x : List ℕ). length x ≤ PAYLOAD_LIMIT) (sym (c.as_slice.ensures ∙ c.in_ok-payload.ensures.written)) c.requires in
    frames_one c.args.kind c.as_slice.result.now c.put_frame.result (omega arith) short c.put_frame.ensures
