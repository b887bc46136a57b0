-- Base-128 varints (Protocol Buffers, "Encoding", "Base 128 Varints").
use Rattle.std.specs.Prelude.{◌≡◌, ℕ, zero, suc, ◌+◌, ◌-◌, ◌*◌, ◌/◌, ◌%◌, ◌≤◌, ◌<◌, List, [], ◌∷◌, Result, Ok, Err, nat_lt, if◌then◌else◌}
use Rattle.mum_fields.specs.declared.fault.FaultKind.{FaultKind, TheVariants.Truncated, TheVariants.BadVarint}

-- The bytes encode the number: seven bits a byte, the least first, and each byte but the last has its top
-- bit set. After the first byte come at most `more` others, and the last that may come is 0 or 1.
abbrev pub SpellsWithin : ℕ → List ℕ → ℕ → Type 0
SpellsWithin more [] n = ⊥
SpellsWithin zero (b ∷ []) n = (b ≤ 1) × (n ≡ b)
SpellsWithin zero (b ∷ c ∷ bs) n = ⊥
SpellsWithin (suc more) (b ∷ []) n = (b < 128) × (n ≡ b)
SpellsWithin (suc more) (b ∷ c ∷ bs) n =
    (128 ≤ b) × ((high : ℕ) × (n + 128 ≡ b + 128 * high) × SpellsWithin more (c ∷ bs) high)

-- ten bytes at most, so that the number has at most 64 bits
unfoldable pub IsVarint : List ℕ → ℕ → Type 0
IsVarint bytes n = SpellsWithin 9 bytes n

-- seven bits below a number that is read
abbrev pub above : ℕ → Result (ℕ × ℕ) FaultKind → Result (ℕ × ℕ) FaultKind
above low (Ok high) = Ok (low + 128 * high.0, suc high.1)
above low (Err kind) = Err kind

-- the number at the front of the bytes and how many bytes it takes, or why there is none
abbrev pub varint_with : ℕ → List ℕ → Result (ℕ × ℕ) FaultKind
varint_with more [] = Err Truncated
varint_with zero (b ∷ bs) = if nat_lt 1 b then Err BadVarint else Ok (b, 1)
varint_with (suc more) (b ∷ bs) = if nat_lt b 128 then Ok (b, 1) else above (b - 128) (varint_with more bs)

unfoldable pub varint : List ℕ → Result (ℕ × ℕ) FaultKind
varint bytes = varint_with 9 bytes

-- the encoding with the fewest bytes, of which after the first come at most `more`
abbrev pub shortest_with : ℕ → ℕ → List ℕ
shortest_with zero n = n ∷ []
shortest_with (suc more) n = if nat_lt n 128 then n ∷ [] else (n % 128 + 128) ∷ shortest_with more (n / 128)

unfoldable pub shortest : ℕ → List ℕ
shortest n = shortest_with 9 n

abbrev pub AreOctets : List ℕ → Type 0
AreOctets [] = Unit {0}
AreOctets (b ∷ bs) = (b < 256) × AreOctets bs

-- each byte says that another follows
abbrev pub HaveTops : List ℕ → Type 0
HaveTops [] = Unit {0}
HaveTops (b ∷ bs) = (128 ≤ b) × HaveTops bs

-- after n bytes that say that another follows comes one above 1
abbrev pub PassesTen : ℕ → List ℕ → Type 0
PassesTen before [] = ⊥
PassesTen zero (b ∷ bs) = 1 < b
PassesTen (suc before) (b ∷ bs) = (128 ≤ b) × PassesTen before bs
