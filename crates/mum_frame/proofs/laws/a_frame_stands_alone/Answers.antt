use Rattle.mum_frame.proofs.Common.{◌<◌, ℕ, length, get_or, inl, inr, arith, cases_lt, get_or_past}
use Rattle.mum_frame.proofs.OneFrame.{kind_of-spelling, one_frame-found, one_frame-tested, payload_of-spelling}
use Rattle.mum_frame.proofs.laws.a_frame_stands_alone.Goals as goal

pub returns-clause-parts : goal.returns-clause-parts
returns-clause-parts c frame is = (kind_of-spelling frame is, payload_of-spelling frame)

pub returns-clause-tested : goal.returns-clause-tested
returns-clause-tested c bytes are_bytes =
    let small : (k : ℕ) → get_or bytes k 0 < 256 = λ k. elim (cases_lt k (length bytes)) [
      | inl within ↦ are_bytes k 0 within
      | inr past ↦ rw (get_or_past bytes k 0 past) (omega arith)
    ] in
    (one_frame-found bytes small, one_frame-tested bytes)
