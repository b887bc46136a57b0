-- Octets of an address.
use Rattle.mum_address.proofs.Common.{◌≡◌, ℕ, ◌+◌, ◌-◌, ◌*◌, ◌/◌, ◌%◌, ◌<◌, ◌≤◌, List, [], ◌∷◌, ◌++◌, length, take, zero, suc, refl, arith, octets_of, segments_of, get_or}

-- what is kept of each element of a slice of bytes
abbrev pub IsBytes : List ℕ → Type 0
IsBytes bytes = (i : ℕ) → get_or bytes i 0 < 256

pub IsBytes-rest : (b : ℕ) (bytes : List ℕ) → IsBytes (b ∷ bytes) → IsBytes bytes
IsBytes-rest b bytes fits i = fits (suc i)

pub IsBytes-behind : (front bytes : List ℕ) → IsBytes (front ++ bytes) → IsBytes bytes
IsBytes-behind [] bytes fits = fits
IsBytes-behind (b ∷ front) bytes fits = IsBytes-behind front bytes (IsBytes-rest b (front ++ bytes) fits)

pub IsBytes-take : (n : ℕ) (bytes : List ℕ) → n ≤ length bytes → IsBytes bytes → IsBytes (take n bytes)
IsBytes-take zero bytes le fits i = omega arith
IsBytes-take (suc n) [] le fits i = absurd (omega arith)
IsBytes-take (suc n) (b ∷ bytes) le fits zero = fits 0
IsBytes-take (suc n) (b ∷ bytes) le fits (suc i) = IsBytes-take n bytes (omega arith) (IsBytes-rest b bytes fits) i

-- two octets as a segment, and that as two octets
halves : (a b : ℕ) → b < 256 → ((a * 256 + b) / 256 ≡ a) × ((a * 256 + b) % 256 ≡ b)
halves a b lt = (omega arith, omega arith)

octets_of-segments_of : (octets : List ℕ) (half : ℕ) → length octets ≡ half + half → IsBytes octets → octets_of (segments_of octets) ≡ octets
octets_of-segments_of [] half even fits = refl
octets_of-segments_of (a ∷ []) half even fits = absurd (omega arith)
octets_of-segments_of (a ∷ b ∷ octets) half even fits =
    let h = halves a b (fits 1) in
    let rest = octets_of-segments_of octets (half - 1) (omega arith) (λ i. fits (suc (suc i))) in
    rw (h.0, h.1, rest) refl

pub octets_of_sixteen : (octets : List ℕ) → length octets ≡ 16 → IsBytes octets → octets_of (segments_of octets) ≡ octets
octets_of_sixteen octets len fits = octets_of-segments_of octets 8 len fits
