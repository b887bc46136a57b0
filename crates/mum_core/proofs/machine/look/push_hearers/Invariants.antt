use Rattle.mum_core.proofs.Common.{◌≡◌, ◌++◌, ◌∷◌, take, string_bytes, flat_map, hearer_word}
use Rattle.mum_core.proofs.machine.look.push_hearers.Given as goal

abbrev pub invariant-loop-hearer : goal.invariant-loop-hearer
invariant-loop-hearer l = string_bytes l.text ≡ string_bytes l.initial.text ++ flat_map (λ hearer. 32 ∷ hearer_word hearer) (take l.hearer-index l.hearers)
