-- The shortest encoding is an encoding, and none is shorter.
use Rattle.mum_voice.proofs.Common.{◌≡◌, ℕ, ◌+◌, ◌*◌, ◌/◌, ◌%◌, ◌^◌, ◌<◌, ◌≤◌, List, [], ◌∷◌, ◌++◌, length, drop, Some, refl, subst, arith, inl, inr, w16, w32, w64, to_be_bytes, cases_lt, le-ltb, lt-ltb, from_be_bytes-to_be_bytes_4, from_be_bytes-to_be_bytes_8, AreSoManyBytes, big_endian, inverse, SpellsNumber, SpellsWord, word_at, shortest_number, shortest_word}
use Rattle.mum_voice.proofs.Spelling.{AreSoManyBytes-length, word_at-spelled}

-- ---- the row of a number

pub shortest_7 : (n : ℕ) → n < 2 ^ 7 → shortest_number n ≡ n ∷ []
unfolding shortest_number
shortest_7 n lt = rw (lt-ltb n (2 ^ 7) lt) refl

pub shortest_14 : (n : ℕ) → 2 ^ 7 ≤ n → n < 2 ^ 14 → shortest_number n ≡ to_be_bytes w16 (0x8000 + n)
unfolding shortest_number
shortest_14 n le lt = rw (le-ltb n (2 ^ 7) le, lt-ltb n (2 ^ 14) lt) refl

pub shortest_21 : (n : ℕ) → 2 ^ 14 ≤ n → n < 2 ^ 21 → shortest_number n ≡ drop 1 (to_be_bytes w32 (0xC00000 + n))
unfolding shortest_number
shortest_21 n le lt = rw (le-ltb n (2 ^ 7) (omega arith), le-ltb n (2 ^ 14) le, lt-ltb n (2 ^ 21) lt) refl

pub shortest_28 : (n : ℕ) → 2 ^ 21 ≤ n → n < 2 ^ 28 → shortest_number n ≡ to_be_bytes w32 (0xE0000000 + n)
unfolding shortest_number
shortest_28 n le lt = rw (le-ltb n (2 ^ 7) (omega arith), le-ltb n (2 ^ 14) (omega arith), le-ltb n (2 ^ 21) le, lt-ltb n (2 ^ 28) lt) refl

pub shortest_32 : (n : ℕ) → 2 ^ 28 ≤ n → n < 2 ^ 32 → shortest_number n ≡ 0xF0 ∷ to_be_bytes w32 n
unfolding shortest_number
shortest_32 n le lt = rw (le-ltb n (2 ^ 7) (omega arith), le-ltb n (2 ^ 14) (omega arith), le-ltb n (2 ^ 21) (omega arith), le-ltb n (2 ^ 28) le, lt-ltb n (2 ^ 32) lt) refl

pub shortest_64 : (n : ℕ) → 2 ^ 32 ≤ n → shortest_number n ≡ 0xF4 ∷ to_be_bytes w64 n
unfolding shortest_number
shortest_64 n le = rw (le-ltb n (2 ^ 7) (omega arith), le-ltb n (2 ^ 14) (omega arith), le-ltb n (2 ^ 21) (omega arith), le-ltb n (2 ^ 28) (omega arith), le-ltb n (2 ^ 32) le) refl

-- ---- each is an encoding

spelled_as : (bytes bytes' : List ℕ) (n n' : ℕ) → SpellsNumber bytes n → bytes ≡ bytes' → n ≡ n' → SpellsNumber bytes' n'
spelled_as bytes bytes' n n' s e f = subst (λ (m : ℕ). SpellsNumber bytes' m) f (subst (λ (b : List ℕ). SpellsNumber b n) e s)

pub two_bytes : (a a' b b' : ℕ) → a ≡ a' → b ≡ b' → a ∷ b ∷ [] ≡ a' ∷ b' ∷ []
two_bytes a a' b b' e f = cc

spelled_14 : (n : ℕ) → n < 2 ^ 14 → SpellsNumber (to_be_bytes w16 (0x8000 + n)) n
spelled_14 n lt =
    spelled_as ((0x80 + n / 256) ∷ n % 256 ∷ []) (to_be_bytes w16 (0x8000 + n)) (n / 256 * 2 ^ 8 + big_endian (n % 256 ∷ [])) n
    (SpellsNumber.bits_14 (n / 256) (n % 256 ∷ []) (omega arith) (omega arith, tt))
    (two_bytes _ _ _ _ (omega arith) (omega arith)) (omega arith)

pub three_bytes : (a a' b b' c c' : ℕ) → a ≡ a' → b ≡ b' → c ≡ c' → a ∷ b ∷ c ∷ [] ≡ a' ∷ b' ∷ c' ∷ []
three_bytes a a' b b' c c' e f g = cc

spelled_21 : (n : ℕ) → n < 2 ^ 21 → SpellsNumber (drop 1 (to_be_bytes w32 (0xC00000 + n))) n
spelled_21 n lt =
    spelled_as ((0xC0 + n / 65536) ∷ n / 256 % 256 ∷ n % 256 ∷ []) (drop 1 (to_be_bytes w32 (0xC00000 + n))) (n / 65536 * 2 ^ 16 + big_endian (n / 256 % 256 ∷ n % 256 ∷ [])) n
    (SpellsNumber.bits_21 (n / 65536) (n / 256 % 256 ∷ n % 256 ∷ []) (omega arith) (omega arith, (omega arith, tt)))
    (three_bytes _ _ _ _ _ _ (omega arith) (omega arith) (omega arith)) (omega arith)

pub four_bytes : (a a' b b' c c' d d' : ℕ) → a ≡ a' → b ≡ b' → c ≡ c' → d ≡ d' → a ∷ b ∷ c ∷ d ∷ [] ≡ a' ∷ b' ∷ c' ∷ d' ∷ []
four_bytes a a' b b' c c' d d' e f g h = cc

spelled_28 : (n : ℕ) → n < 2 ^ 28 → SpellsNumber (to_be_bytes w32 (0xE0000000 + n)) n
spelled_28 n lt =
    spelled_as ((0xE0 + n / 16777216) ∷ n / 65536 % 256 ∷ n / 256 % 256 ∷ n % 256 ∷ []) (to_be_bytes w32 (0xE0000000 + n)) (n / 16777216 * 2 ^ 24 + big_endian (n / 65536 % 256 ∷ n / 256 % 256 ∷ n % 256 ∷ [])) n
    (SpellsNumber.bits_28 (n / 16777216) (n / 65536 % 256 ∷ n / 256 % 256 ∷ n % 256 ∷ []) (omega arith) (omega arith, (omega arith, (omega arith, tt))))
    (four_bytes _ _ _ _ _ _ _ _ (omega arith) (omega arith) (omega arith) (omega arith)) (omega arith)

byte : (n : ℕ) → n % 256 < 2 ^ 8
byte n = omega arith

spelled_32 : (n : ℕ) → n < 2 ^ 32 → SpellsNumber (0xF0 ∷ to_be_bytes w32 n) n
spelled_32 n lt =
    spelled_as (0xF0 ∷ to_be_bytes w32 n) (0xF0 ∷ to_be_bytes w32 n) (big_endian (to_be_bytes w32 n)) n
    (SpellsNumber.bits_32 0 (to_be_bytes w32 n) (omega arith) (byte _, (byte _, (byte _, (byte _, tt)))))
    refl (omega (arith, from_be_bytes-to_be_bytes_4 n lt))

spelled_64 : (n : ℕ) → n < 2 ^ 64 → SpellsNumber (0xF4 ∷ to_be_bytes w64 n) n
spelled_64 n lt =
    spelled_as (0xF4 ∷ to_be_bytes w64 n) (0xF4 ∷ to_be_bytes w64 n) (big_endian (to_be_bytes w64 n)) n
    (SpellsNumber.bits_64 0 (to_be_bytes w64 n) (omega arith) (byte _, (byte _, (byte _, (byte _, (byte _, (byte _, (byte _, (byte _, tt)))))))))
    refl (omega (arith, from_be_bytes-to_be_bytes_8 n lt))

pub shortest_number-spelled : (n : ℕ) → n < 2 ^ 64 → SpellsNumber (shortest_number n) n
shortest_number-spelled n lt =
    elim (cases_lt n (2 ^ 7)) [
      | inl h ↦ rw (shortest_7 n h) (SpellsNumber.bits_7 n h)
      | inr le7 ↦ elim (cases_lt n (2 ^ 14)) [
        | inl h ↦ rw (shortest_14 n le7 h) (spelled_14 n h)
        | inr le14 ↦ elim (cases_lt n (2 ^ 21)) [
          | inl h ↦ rw (shortest_21 n le14 h) (spelled_21 n h)
          | inr le21 ↦ elim (cases_lt n (2 ^ 28)) [
            | inl h ↦ rw (shortest_28 n le21 h) (spelled_28 n h)
            | inr le28 ↦ elim (cases_lt n (2 ^ 32)) [
              | inl h ↦ rw (shortest_32 n le28 h) (spelled_32 n h)
              | inr le32 ↦ rw (shortest_64 n le32) (spelled_64 n lt)
            ]
          ]
        ]
      ]
    ]

-- ---- how long it is

pub len_7 : (n : ℕ) → n < 2 ^ 7 → length (shortest_number n) ≤ 1
len_7 n lt = rw (shortest_7 n lt) (omega arith)

pub len_14 : (n : ℕ) → n < 2 ^ 14 → length (shortest_number n) ≤ 2
len_14 n lt =
    elim (cases_lt n (2 ^ 7)) [
      | inl h ↦ omega (arith, len_7 n h)
      | inr le ↦ rw (shortest_14 n le lt) (omega arith)
    ]

pub len_21 : (n : ℕ) → n < 2 ^ 21 → length (shortest_number n) ≤ 3
len_21 n lt =
    elim (cases_lt n (2 ^ 14)) [
      | inl h ↦ omega (arith, len_14 n h)
      | inr le ↦ rw (shortest_21 n le lt) (omega arith)
    ]

pub len_28 : (n : ℕ) → n < 2 ^ 28 → length (shortest_number n) ≤ 4
len_28 n lt =
    elim (cases_lt n (2 ^ 21)) [
      | inl h ↦ omega (arith, len_21 n h)
      | inr le ↦ rw (shortest_28 n le lt) (omega arith)
    ]

pub len_32 : (n : ℕ) → n < 2 ^ 32 → length (shortest_number n) ≤ 5
len_32 n lt =
    elim (cases_lt n (2 ^ 28)) [
      | inl h ↦ omega (arith, len_28 n h)
      | inr le ↦ rw (shortest_32 n le lt) (omega arith)
    ]

pub len_64 : (n : ℕ) → length (shortest_number n) ≤ 9
len_64 n =
    elim (cases_lt n (2 ^ 32)) [
      | inl h ↦ omega (arith, len_32 n h)
      | inr le ↦ rw (shortest_64 n le) (omega arith)
    ]

-- ---- no encoding is shorter

pub big_endian_1 : (bytes : List ℕ) → AreSoManyBytes 1 bytes → big_endian bytes < 2 ^ 8
big_endian_1 (a ∷ []) are = omega (arith, are.0)
big_endian_1 bytes are = absurd (omega (arith, AreSoManyBytes-length 1 bytes are))

pub big_endian_2 : (bytes : List ℕ) → AreSoManyBytes 2 bytes → big_endian bytes < 2 ^ 16
big_endian_2 (a ∷ b ∷ []) are = omega (arith, are.0, are.1.0)
big_endian_2 bytes are = absurd (omega (arith, AreSoManyBytes-length 2 bytes are))

pub big_endian_3 : (bytes : List ℕ) → AreSoManyBytes 3 bytes → big_endian bytes < 2 ^ 24
big_endian_3 (a ∷ b ∷ c ∷ []) are = omega (arith, are.0, are.1.0, are.1.1.0)
big_endian_3 bytes are = absurd (omega (arith, AreSoManyBytes-length 3 bytes are))

pub big_endian_4 : (bytes : List ℕ) → AreSoManyBytes 4 bytes → big_endian bytes < 2 ^ 32
big_endian_4 (a ∷ b ∷ c ∷ d ∷ []) are = omega (arith, are.0, are.1.0, are.1.1.0, are.1.1.1.0)
big_endian_4 bytes are = absurd (omega (arith, AreSoManyBytes-length 4 bytes are))

big_endian_8 : (bytes : List ℕ) → AreSoManyBytes 8 bytes → big_endian bytes < 2 ^ 64
big_endian_8 (a ∷ b ∷ c ∷ d ∷ e ∷ f ∷ g ∷ h ∷ []) are = omega (arith, are.0, are.1.0, are.1.1.0, are.1.1.1.0, are.1.1.1.1.0, are.1.1.1.1.1.0, are.1.1.1.1.1.1.0, are.1.1.1.1.1.1.1.0)
big_endian_8 bytes are = absurd (omega (arith, AreSoManyBytes-length 8 bytes are))

-- what an encoding of a positive number says of it
pub record Tells (bytes : List ℕ) (n : ℕ) : Type 0 where
  pub word : n < 2 ^ 64
  pub least : length (shortest_number n) ≤ length bytes
  pub wide : 2 ^ 32 ≤ n → 9 ≤ length bytes

pub tells : {bytes : List ℕ} {n : ℕ} → SpellsNumber bytes n → Tells bytes n
tells (SpellsNumber.bits_7 x lt) = record { word = omega arith; least = omega (arith, len_7 x lt); wide = λ le. absurd (omega arith) }
tells (SpellsNumber.bits_14 x more lt are) =
    let small = big_endian_1 more are in
    let len = AreSoManyBytes-length 1 more are in
    record { word = omega arith; least = omega (arith, len_14 (x * 2 ^ 8 + big_endian more) (omega arith)); wide = λ le. absurd (omega arith) }
tells (SpellsNumber.bits_21 x more lt are) =
    let small = big_endian_2 more are in
    let len = AreSoManyBytes-length 2 more are in
    record { word = omega arith; least = omega (arith, len_21 (x * 2 ^ 16 + big_endian more) (omega arith)); wide = λ le. absurd (omega arith) }
tells (SpellsNumber.bits_28 x more lt are) =
    let small = big_endian_3 more are in
    let len = AreSoManyBytes-length 3 more are in
    record { word = omega arith; least = omega (arith, len_28 (x * 2 ^ 24 + big_endian more) (omega arith)); wide = λ le. absurd (omega arith) }
tells (SpellsNumber.bits_32 x more lt are) =
    let small = big_endian_4 more are in
    let len = AreSoManyBytes-length 4 more are in
    record { word = omega arith; least = omega (arith, len_32 (big_endian more) small); wide = λ le. absurd (omega arith) }
tells (SpellsNumber.bits_64 x more lt are) =
    let small = big_endian_8 more are in
    let len = AreSoManyBytes-length 8 more are in
    record { word = small; least = omega (arith, len_64 (big_endian more)); wide = λ le. omega arith }

-- ---- the same of words

pub shortest_small : (word : ℕ) → inverse word < 2 ^ 2 → shortest_word word ≡ (0xFC + inverse word) ∷ []
unfolding shortest_word
shortest_small word lt = rw (lt-ltb (inverse word) (2 ^ 2) lt) refl

pub shortest_inverted : (word : ℕ) → 2 ^ 2 ≤ inverse word → inverse word < 2 ^ 32 → shortest_word word ≡ 0xF8 ∷ shortest_number (inverse word)
unfolding shortest_word
shortest_inverted word le lt = rw (le-ltb (inverse word) (2 ^ 2) le, lt-ltb (inverse word) (2 ^ 32) lt) refl

pub shortest_positive : (word : ℕ) → 2 ^ 32 ≤ inverse word → shortest_word word ≡ shortest_number word
unfolding shortest_word
shortest_positive word le = rw (le-ltb (inverse word) (2 ^ 2) (omega arith), le-ltb (inverse word) (2 ^ 32) le) refl

pub shortest_word-spelled : (word : ℕ) → word < 2 ^ 64 → SpellsWord (shortest_word word) word
shortest_word-spelled word lt =
    let back : inverse (inverse word) ≡ word = omega arith in
    elim (cases_lt (inverse word) (2 ^ 2)) [
      | inl h ↦ rw (shortest_small word h) (subst (λ (w : ℕ). SpellsWord ((0xFC + inverse word) ∷ []) w) back (SpellsWord.inverted_small (inverse word) h))
      | inr le2 ↦ elim (cases_lt (inverse word) (2 ^ 32)) [
        | inl h ↦ rw (shortest_inverted word le2 h) (subst (λ (w : ℕ). SpellsWord (0xF8 ∷ shortest_number (inverse word)) w) back (SpellsWord.inverted 0 (shortest_number (inverse word)) (inverse word) (omega arith) (shortest_number-spelled (inverse word) (omega arith))))
        | inr le32 ↦ rw (shortest_positive word le32) (SpellsWord.positive (shortest_number word) word (shortest_number-spelled word lt))
      ]
    ]

pub length-shortest_word : (word : ℕ) → length (shortest_word word) ≤ 9
length-shortest_word word =
    elim (cases_lt (inverse word) (2 ^ 2)) [
      | inl h ↦ rw (shortest_small word h) (omega arith)
      | inr le2 ↦ elim (cases_lt (inverse word) (2 ^ 32)) [
        | inl h ↦ rw (shortest_inverted word le2 h) (omega (arith, len_32 (inverse word) h))
        | inr le32 ↦ rw (shortest_positive word le32) (len_64 word)
      ]
    ]

pub length-shortest_small : (word : ℕ) → word < 2 ^ 32 → length (shortest_word word) ≤ 5
length-shortest_small word lt = rw (shortest_positive word (omega arith)) (len_32 word lt)

pub shortest_word-least : {bytes : List ℕ} {word : ℕ} → SpellsWord bytes word → length (shortest_word word) ≤ length bytes
shortest_word-least (SpellsWord.positive bytes n s) =
    let t = tells s in
    elim (cases_lt n (2 ^ 32)) [
      | inl h ↦ rw (shortest_positive n (omega arith)) t.least
      | inr le ↦ omega (arith, length-shortest_word n, t.wide le)
    ]
shortest_word-least (SpellsWord.inverted x bytes n lt s) =
    let t = tells s in
    let word = t.word in
    let back : inverse (inverse n) ≡ n = omega arith in
    elim (cases_lt n (2 ^ 2)) [
      | inl h ↦ rw (shortest_small (inverse n) (omega arith)) (omega arith)
      | inr le2 ↦ elim (cases_lt n (2 ^ 32)) [
        | inl h ↦ rw (shortest_inverted (inverse n) (omega arith) (omega arith), back) (omega (arith, t.least))
        | inr le ↦ omega (arith, length-shortest_word (inverse n), t.wide le)
      ]
    ]
shortest_word-least (SpellsWord.inverted_small n lt) = rw (shortest_small (inverse n) (omega arith)) (omega arith)

-- what was written is read again, whatever follows
pub shortest_word-read : (word : ℕ) (rest : List ℕ) → word < 2 ^ 64 → word_at (shortest_word word ++ rest) ≡ Some (word, length (shortest_word word))
shortest_word-read word rest lt = word_at-spelled (shortest_word-spelled word lt) rest
