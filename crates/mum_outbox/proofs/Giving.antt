-- How many numbers the owners of a queue have to give.
use Rattle.mum_outbox.proofs.Common.{◌≡◌, ℕ, ◌+◌, ◌*◌, ◌<◌, ◌≤◌, Bool, if◌then◌else◌, ap, subst, sym, arith, lt-ltb, LAST, HasNumbers, Halves, IsFirst, IsNewPass, lower_half, upper_half, PassFacts, QueueFacts, after_least, least_number}

-- the first owner has all numbers below the last
pub first_has : (name : ℕ) (owner : QueueFacts) → IsFirst name owner → HasNumbers LAST owner
first_has name owner first = let low = first.low_is in let end = first.end_is in record { enough = omega arith; below = omega arith }

-- fewer are there where more are
pub has_fewer : (count fewer : ℕ) (owner : QueueFacts) → fewer ≤ count → HasNumbers count owner → HasNumbers fewer owner
has_fewer count fewer owner less has = let enough = has.enough in record { enough = omega arith; below = has.below }

-- of an owner that has 2 n, each half has n
pub lower_has : (count : ℕ) (owner : QueueFacts) → HasNumbers (2 * count) owner → HasNumbers count (lower_half owner)
lower_has count owner has = let enough = has.enough in let below = has.below in record { enough = omega arith; below = omega arith }

pub upper_has : (count : ℕ) (owner : QueueFacts) → HasNumbers (2 * count) owner → HasNumbers count (upper_half owner)
upper_has count owner has = let enough = has.enough in let below = has.below in record { enough = omega arith; below = below }

pub halves_have : (count : ℕ) (old new other : QueueFacts) → HasNumbers (2 * count) old → Halves old new other → HasNumbers count new × HasNumbers count other
halves_have count old new other has halves =
    (subst (HasNumbers count) (sym halves.0) (lower_has count old has), subst (HasNumbers count) (sym halves.1) (upper_has count old has))

-- an owner that gave a number has one less
pub one_less : (count : ℕ) (old new : QueueFacts) → HasNumbers (count + 1) old → new ≡ record old { low = after_least old.low old.end } → HasNumbers count new
one_less count old new has is =
    let enough = has.enough in
    let left : HasNumbers count (record old { low = after_least old.low old.end }) = record { enough = omega arith; below = has.below } in
    subst (HasNumbers count) (sym is) left

-- the least number of an owner that has one is below the last
least_below : (low end : ℕ) → low + 1 ≤ end → end ≤ LAST → least_number low end < LAST
least_below low end room below =
    let is : least_number low end ≡ low = ap (λ (b : Bool). if b then low else LAST) (lt-ltb low end (omega arith)) in omega arith

-- a new pass of it has that number
pub pass_below : {I : Type 0} (owner : QueueFacts) (pass : PassFacts I) → HasNumbers 1 owner → IsNewPass owner pass → pass.number < LAST
pass_below owner pass has new =
    let is = ap (λ (p : PassFacts _). p.number) new in let below = least_below owner.low owner.end has.enough has.below in omega arith
