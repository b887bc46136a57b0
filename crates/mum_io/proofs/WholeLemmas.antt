-- What the reads of a whole read took together.
use Rattle.mum_io.proofs.Common.{ℕ, ◌<◌, List, ◌++◌, length, inl, inr, ap, ◌∙◌, append-nil, sym, Option, None, Some, IfSome, Result, Ok, Err, OnErr, Consumes, IsAtEnd, IsAllOrLonger}

-- the source is at its end, so all was taken
pub IsAllOrLonger-at_end : (limit : ℕ) (a b : Option (List ℕ)) (bytes : List ℕ) → Consumes a b bytes → IsAtEnd b
    → IfSome a (λ left. IsAllOrLonger limit left bytes)
IsAllOrLonger-at_end limit None b bytes taken end = tt
IsAllOrLonger-at_end limit (Some xs) None bytes taken end = absurd taken
IsAllOrLonger-at_end limit (Some xs) (Some ys) bytes taken end =
    inl (sym (taken ∙ ap (λ rest. bytes ++ rest) end ∙ append-nil bytes))

pub IsAllOrLonger-past_limit : (limit : ℕ) (a b : Option (List ℕ)) (bytes : List ℕ) → Consumes a b bytes → limit < length bytes
    → IfSome a (λ left. IsAllOrLonger limit left bytes)
IsAllOrLonger-past_limit limit None b bytes taken longer = tt
IsAllOrLonger-past_limit limit (Some xs) None bytes taken longer = absurd taken
IsAllOrLonger-past_limit limit (Some xs) (Some ys) bytes taken longer = inr (ys, taken, longer)

-- what holds anyway holds of an error
pub on_err : {A E P : Type 0} (answer : Result A E) → P → OnErr answer P
on_err (Ok value) holds = tt
on_err (Err fault) holds = holds
