use Rattle.mum_audit.proofs.Common.{◌≡◌, ◌++◌, ◌∷◌, take, string_bytes, flat_map, member_word}
use Rattle.mum_audit.proofs.finding.push_copies.Given as goal

abbrev pub invariant-loop-copy : goal.invariant-loop-copy
invariant-loop-copy l = string_bytes l.text ≡ string_bytes l.initial.text ++ flat_map (λ copy. 32 ∷ member_word (copy.session, copy.context)) (take l.copy-index l.copies)
