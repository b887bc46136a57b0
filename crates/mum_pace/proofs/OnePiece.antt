-- The pieces of a message, one by one.
use Rattle.mum_pace.proofs.Common.{◌≡◌, ℕ, ◌+◌, ◌-◌, ◌*◌, ◌/◌, ◌%◌, ◌<◌, ◌≤◌, ◌==◌, min, refl, arith, inl, inr, if◌then◌else◌, div_ceil, cases_lt, cases_eq, lt-ltb, le-ltb, eq-eqb, ne_eqb, begins_piece, bytes_within, pieces_in}

-- ---- where a piece begins

begins_short : (n : ℕ) → n < 131072 → begins_piece n ≡ (n % 1000 == 0)
unfolding begins_piece
begins_short n lt = rw (lt-ltb n 131072 lt) refl

begins_long : (n : ℕ) → 131072 ≤ n → begins_piece n ≡ ((n - 131072) % 8192 == 0)
unfolding begins_piece
begins_long n le = rw (le-ltb n 131072 le) refl

-- ---- how many have begun

pub pieces_in-is : (n : ℕ) → pieces_in n ≡ div_ceil (min n 131072) 1000 + div_ceil (n - 131072) 8192
unfolding pieces_in
pieces_in-is n = refl

pub bytes_within-is : (n : ℕ) → bytes_within n ≡ min (n * 1000) 131072 + (n - 132) * 8192
unfolding bytes_within
bytes_within-is n = refl

pub pieces_in-none : pieces_in 0 ≡ 0
unfolding pieces_in
pieces_in-none = refl

pub pieces_in-next : (n : ℕ) → pieces_in (n + 1) ≡ pieces_in n + (if begins_piece n then 1 else 0)
pieces_in-next n =
    let here = pieces_in-is n in
    let next = pieces_in-is (n + 1) in
    elim (cases_lt n 131072) [
      | inl lt ↦ elim (cases_eq (n % 1000) 0) [
        | inl e ↦ rw (begins_short n lt, eq-eqb (n % 1000) 0 e) (omega arith)
        | inr ne ↦ rw (begins_short n lt, ne_eqb (n % 1000) 0 ne) (omega arith)
      ]
      | inr le ↦ elim (cases_eq ((n - 131072) % 8192) 0) [
        | inl e ↦ rw (begins_long n le, eq-eqb ((n - 131072) % 8192) 0 e) (omega arith)
        | inr ne ↦ rw (begins_long n le, ne_eqb ((n - 131072) % 8192) 0 ne) (omega arith)
      ]
    ]

pub within_is_few : (bytes pieces : ℕ) → bytes ≤ bytes_within pieces → pieces_in bytes ≤ pieces
within_is_few bytes pieces le =
    let e = pieces_in-is bytes in
    let w = bytes_within-is pieces in
    omega arith

pub few_is_within : (bytes pieces : ℕ) → pieces_in bytes ≤ pieces → bytes ≤ bytes_within pieces
few_is_within bytes pieces le =
    let e = pieces_in-is bytes in
    let w = bytes_within-is pieces in
    omega arith

pub pieces_in-grow : (few many : ℕ) → few ≤ many → pieces_in few ≤ pieces_in many
pieces_in-grow few many le =
    let e = pieces_in-is few in
    let m = pieces_in-is many in
    omega arith

pub small_pieces : (bytes : ℕ) → pieces_in bytes ≤ 133 + bytes / 8192
small_pieces bytes =
    let e = pieces_in-is bytes in
    omega arith
