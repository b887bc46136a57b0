use Rattle.mum_audit.proofs.Common.{◌≡◌, ◌++◌, ◌∷◌, take, string_bytes, flat_map, member_of, member_word}
use Rattle.mum_audit.proofs.finding.push_hearers.Given as goal

abbrev pub invariant-loop-hearer : goal.invariant-loop-hearer
invariant-loop-hearer l = string_bytes l.text ≡ string_bytes l.initial.text ++ flat_map (λ hearer. 32 ∷ member_word (member_of hearer)) (take l.hearer-index l.hearers)
