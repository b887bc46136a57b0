-- Reading a varint byte by byte.
use Rattle.mum_fields.proofs.Common.{◌≡◌, ℕ, suc, ◌+◌, ◌-◌, ◌*◌, ◌<◌, ◌≤◌, List, [], ◌∷◌, length, drop, get_or, Option, Some, None, Result, Ok, Err, refl, ap, ◌∙◌, arith, drop-cons, add-one, le-ltb, lt-ltb, slice_get, FaultKind, FieldFault, Cursor, skip, varint_in_front, above, varint_with, varint}

-- the bits that were read before, and what is read after them
abbrev pub behind : ℕ → ℕ → ℕ → Result (ℕ × ℕ) FaultKind → Result (ℕ × ℕ) FaultKind
behind number scale index (Ok x) = Ok (number + x.0 * scale, index + x.1)
behind number scale index (Err kind) = Err kind

abbrev found : ℕ → ℕ → Result (ℕ × ℕ) FaultKind
found number used = Ok (number, used)

ok_same : {a b c d : ℕ} → a ≡ c → b ≡ d → found a b ≡ found c d
ok_same p q = rw (p, q) refl

behind-nothing : (r : Result (ℕ × ℕ) FaultKind) → behind 0 1 0 r ≡ r
behind-nothing (Ok x) = ok_same (omega arith) (omega arith)
behind-nothing (Err kind) = refl

pub behind-start : (bytes : List ℕ) → behind 0 1 0 (varint_with 9 bytes) ≡ varint bytes
unfolding varint
behind-start bytes = behind-nothing (varint_with 9 bytes)

behind-above : (number scale index low : ℕ) (r : Result (ℕ × ℕ) FaultKind) → behind number scale index (above low r) ≡ behind (number + low * scale) (scale * 128) (index + 1) r
behind-above number scale index low (Ok x) = ok_same (omega arith) (omega arith)
behind-above number scale index low (Err kind) = refl

-- one more byte that is not the last
pub behind-more : (number scale index : ℕ) (bytes : List ℕ) (byte : ℕ) → index < 9 → index < length bytes → byte ≡ get_or bytes index 0 → 128 ≤ byte
    → behind number scale index (varint_with (9 - index) (drop index bytes)) ≡ behind (number + (byte - 128) * scale) (scale * 128) (index + 1) (varint_with (9 - (index + 1)) (drop (index + 1) bytes))
behind-more number scale index bytes byte few within is top =
    let room : 9 - index ≡ suc (9 - (index + 1)) = omega arith in
    let cells : drop index bytes ≡ byte ∷ drop (index + 1) bytes = rw (is, add-one) (drop-cons bytes index 0 within) in
    let test = le-ltb byte 128 top in
    rw (room, cells, test) (behind-above number scale index (byte - 128) (varint_with (9 - (index + 1)) (drop (index + 1) bytes)))

-- a number in one byte
abbrev there : ℕ → Option ℕ
there byte = Some byte

none_there : (byte : ℕ) → there byte ≡ None → ⊥
none_there byte h = cc

same_there : (a b : ℕ) → there a ≡ there b → a ≡ b
same_there a b h = cc

pub short-varint : (place byte : ℕ) (bytes : List ℕ) → Some byte ≡ slice_get bytes 0 → byte < 128
    → varint_in_front (record { place = place; rest = bytes }) ≡ Ok (byte, skip 1 (record { place = place; rest = bytes }))
unfolding varint_in_front varint
short-varint place byte [] is few = absurd (none_there byte is)
short-varint place byte (b ∷ bytes) is few =
    let same = same_there byte b is in
    rw (← same, lt-ltb byte 128 few) refl

abbrev pub found_at : ℕ → Cursor → Result (ℕ × Cursor) FieldFault
found_at n c = Ok (n, c)

pub read-same : (a b : ℕ) (c d : Cursor) → a ≡ b → c ≡ d → found_at a c ≡ found_at b d
read-same a b c d p q = ap (λ n. found_at n c) p ∙ ap (found_at b) q
