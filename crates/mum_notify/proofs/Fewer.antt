-- Elements that are taken off the end of a list.
use Rattle.mum_notify.proofs.Common.{◌≡◌, ◌∙◌, ℕ, ◌+◌, ◌-◌, ◌≤◌, List, length, take, ap, arith, length-take-le, take-take}

-- one more
pub take-fewer : {X : Type 0} (xs : List X) (n : ℕ) → take (length (take (length xs - n) xs) - 1) (take (length xs - n) xs) ≡ take (length xs - (n + 1)) xs
take-fewer {X} xs n =
    let size : length (take (length xs - n) xs) ≡ length xs - n = length-take-le (length xs - n) xs (omega arith) in
    let fewer : length (take (length xs - n) xs) - 1 ≤ length xs - n = omega arith in
    let less : length (take (length xs - n) xs) - 1 ≡ length xs - (n + 1) = omega arith in
    take-take (length (take (length xs - n) xs) - 1) (length xs - n) xs fewer ∙ ap (λ (k : ℕ). take k xs) less
