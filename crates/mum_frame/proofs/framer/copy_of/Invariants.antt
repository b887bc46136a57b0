use Rattle.mum_frame.proofs.Common.{◌≡◌, length, take, vec_capacity, vec_len}
use Rattle.mum_frame.proofs.framer.copy_of.Given as goal

abbrev pub invariant-loop-byte : goal.invariant-loop-byte
invariant-loop-byte l =
    (l.copy.items ≡ take l.byte-index l.bytes) × (vec_len l.copy ≡ l.byte-index) × (vec_capacity l.copy ≡ length l.bytes)
