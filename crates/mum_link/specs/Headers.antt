-- Connections that wait for their headers: who is taken out from among them, and whose a link is.
use Rattle.std.specs.Prelude.{◌≡◌, ℕ, List, Option, Some, None, slice_get, remove}
use Rattle.std.specs.{Option.ForSome, Io.KnownBytes.Keeps}
use Rattle.mum_address.specs.Header.{IsHeader, plain, Reading.whole}
use Rattle.mum_address.specs.declared.proxy.Header.{Header}
use Rattle.mum_io.specs.Counts.{next_count}

-- where the answer is that the header is whole, who waits there holds it, and it gives that address or none
abbrev pub HoldsAnswer : {W : Type 0} → (W → List ℕ) → Header → Option W → Type 0
HoldsAnswer reader answer waiting =
    (told : Option (List ℕ)) → plain answer ≡ whole told → ForSome waiting (λ w. IsHeader (reader w) told)

-- the socket is that of the one who waited, with what was left to be read
abbrev pub IsOf : {S W : Type 0} → (S → Option (List ℕ)) → (W → S) → S → Option W → Type 0
IsOf left its_socket socket None = ⊥
IsOf left its_socket socket (Some waited) = Keeps (left (its_socket waited)) (left socket)

-- who waits at this place is the one that is taken out, and the others stay in their order
abbrev pub TakesOut : {W : Type 0} → ℕ → List W → List W → Option W → Type 0
TakesOut place old new None = (slice_get old place ≡ None) × (new ≡ old)
TakesOut place old new (Some taken) = (slice_get old place ≡ Some taken) × (new ≡ remove old place)

-- how many were refused, after the one who waited there was: one more where somebody did
abbrev pub refused_after : {W : Type 0} → Option W → ℕ → ℕ
refused_after None refused = refused
refused_after (Some waited) refused = next_count refused
