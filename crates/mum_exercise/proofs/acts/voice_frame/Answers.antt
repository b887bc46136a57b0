use Rattle.mum_exercise.proofs.Common.{ℕ, ◌≤◌, List, length, sym, subst, arith, UDP_TUNNEL}
use Rattle.mum_exercise.proofs.Asking.{frames_one}
use Rattle.mum_exercise.proofs.acts.voice_frame.Goals as goal

pub returns-clause-one : goal.returns-clause-one
returns-clause-one c =
    let short : length c.as_slice.result.now ≤ 14 = subst (λ (x : List ℕ). length x ≤ 14) (sym c.as_slice.ensures) c.in_ok-bytes.ensures.short in
    frames_one UDP_TUNNEL c.as_slice.result.now c.put_frame.result (omega arith) (omega arith) c.put_frame.ensures
