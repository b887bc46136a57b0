-- The row of the table that the first byte names.
use Rattle.mum_voice.proofs.Common.{◌≡◌, ℕ, ◌+◌, ◌-◌, ◌*◌, ◌^◌, ◌<◌, ◌≤◌, List, ◌∷◌, length, get_or, Some, None, refl, ap, arith, le-ltb, lt-ltb, row_number, number_by}

pub row_7 : (first : ℕ) (bytes : List ℕ) → first < 0x80 → number_by first bytes ≡ row_number first 0 bytes
row_7 first bytes lt = rw (lt-ltb first 0x80 lt) refl

pub row_14 : (first : ℕ) (bytes : List ℕ) → 0x80 ≤ first → first < 0xC0 → number_by first bytes ≡ row_number (first - 0x80) 1 bytes
row_14 first bytes le lt = rw (le-ltb first 0x80 le, lt-ltb first 0xC0 lt) refl

pub row_21 : (first : ℕ) (bytes : List ℕ) → 0xC0 ≤ first → first < 0xE0 → number_by first bytes ≡ row_number (first - 0xC0) 2 bytes
row_21 first bytes le lt = rw (le-ltb first 0x80 (omega arith), le-ltb first 0xC0 le, lt-ltb first 0xE0 lt) refl

pub row_28 : (first : ℕ) (bytes : List ℕ) → 0xE0 ≤ first → first < 0xF0 → number_by first bytes ≡ row_number (first - 0xE0) 3 bytes
row_28 first bytes le lt = rw (le-ltb first 0x80 (omega arith), le-ltb first 0xC0 (omega arith), le-ltb first 0xE0 le, lt-ltb first 0xF0 lt) refl

pub row_32 : (first : ℕ) (bytes : List ℕ) → 0xF0 ≤ first → first < 0xF4 → number_by first bytes ≡ row_number 0 4 bytes
row_32 first bytes le lt = rw (le-ltb first 0x80 (omega arith), le-ltb first 0xC0 (omega arith), le-ltb first 0xE0 (omega arith), le-ltb first 0xF0 le, lt-ltb first 0xF4 lt) refl

pub row_64 : (first : ℕ) (bytes : List ℕ) → 0xF4 ≤ first → first < 0xF8 → number_by first bytes ≡ row_number 0 8 bytes
row_64 first bytes le lt = rw (le-ltb first 0x80 (omega arith), le-ltb first 0xC0 (omega arith), le-ltb first 0xE0 (omega arith), le-ltb first 0xF0 (omega arith), le-ltb first 0xF4 le, lt-ltb first 0xF8 lt) refl

pub no_row : (first : ℕ) (bytes : List ℕ) → 0xF8 ≤ first → number_by first bytes ≡ None
no_row first bytes le = rw (le-ltb first 0x80 (omega arith), le-ltb first 0xC0 (omega arith), le-ltb first 0xE0 (omega arith), le-ltb first 0xF0 (omega arith), le-ltb first 0xF4 (omega arith), le-ltb first 0xF8 le) refl

-- ---- the numbers of three, four and eight bytes more

pub three_more : (high : ℕ) (bytes : List ℕ) → 3 ≤ length bytes
    → row_number high 3 bytes ≡ Some (high * 2 ^ 24 + get_or bytes 0 0 * 2 ^ 16 + get_or bytes 1 0 * 2 ^ 8 + get_or bytes 2 0, 4)
three_more high (a ∷ b ∷ c ∷ rest) len = rw (le-ltb (length (a ∷ b ∷ c ∷ rest)) 3 len) (ap (λ (n : ℕ). Some (n, 4)) (omega arith))
three_more high bytes len = absurd (omega arith)

pub four_more : (bytes : List ℕ) → 4 ≤ length bytes
    → row_number 0 4 bytes ≡ Some (get_or bytes 0 0 * 2 ^ 24 + get_or bytes 1 0 * 2 ^ 16 + get_or bytes 2 0 * 2 ^ 8 + get_or bytes 3 0, 5)
four_more (a ∷ b ∷ c ∷ d ∷ rest) len = rw (le-ltb (length (a ∷ b ∷ c ∷ d ∷ rest)) 4 len) (ap (λ (n : ℕ). Some (n, 5)) (omega arith))
four_more bytes len = absurd (omega arith)

pub eight_more : (bytes : List ℕ) → 8 ≤ length bytes
    → row_number 0 8 bytes ≡ Some (get_or bytes 0 0 * 2 ^ 56 + get_or bytes 1 0 * 2 ^ 48 + get_or bytes 2 0 * 2 ^ 40 + get_or bytes 3 0 * 2 ^ 32 + get_or bytes 4 0 * 2 ^ 24 + get_or bytes 5 0 * 2 ^ 16 + get_or bytes 6 0 * 2 ^ 8 + get_or bytes 7 0, 9)
eight_more (a ∷ b ∷ c ∷ d ∷ e ∷ f ∷ g ∷ h ∷ rest) len = rw (le-ltb (length (a ∷ b ∷ c ∷ d ∷ e ∷ f ∷ g ∷ h ∷ rest)) 8 len) (ap (λ (n : ℕ). Some (n, 9)) (omega arith))
eight_more bytes len = absurd (omega arith)
