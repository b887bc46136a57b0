-- The shortest encoding is the only one of its length whose ignored bits are 0.
use Rattle.mum_voice.proofs.Common.{◌≡◌, ℕ, zero, suc, ◌+◌, ◌*◌, ◌^◌, ◌<◌, ◌≤◌, List, [], ◌∷◌, length, drop, get_or, refl, sym, ap, ◌∙◌, arith, inl, inr, w16, w32, w64, to_be_bytes, cases_lt, be_bytes_8, AreSoManyBytes, IsClear, IsClearNumber, big_endian, inverse, SpellsNumber, SpellsWord, shortest_number, shortest_word}
use Rattle.mum_voice.proofs.{Spelling.AreSoManyBytes-length, Shortest.shortest_7, Shortest.shortest_14, Shortest.shortest_21, Shortest.shortest_28, Shortest.shortest_32, Shortest.shortest_64, Shortest.shortest_small, Shortest.shortest_inverted, Shortest.shortest_positive, Shortest.len_7, Shortest.len_14, Shortest.len_21, Shortest.len_28, Shortest.len_32, Shortest.two_bytes, Shortest.three_bytes, Shortest.four_bytes, Shortest.length-shortest_word, Shortest.shortest_number-spelled, Shortest.big_endian_1, Shortest.big_endian_2, Shortest.big_endian_3, Shortest.big_endian_4, Shortest.tells}

-- ---- the shortest encoding is clear

clear_number : (n : ℕ) → IsClearNumber (shortest_number n)
clear_number n =
    elim (cases_lt n (2 ^ 7)) [
      | inl h ↦ rw (shortest_7 n h) (λ le. absurd (omega arith))
      | inr le7 ↦ elim (cases_lt n (2 ^ 14)) [
        | inl h ↦ rw (shortest_14 n le7 h) (λ le. absurd (omega arith))
        | inr le14 ↦ elim (cases_lt n (2 ^ 21)) [
          | inl h ↦ rw (shortest_21 n le14 h) (λ le. absurd (omega arith))
          | inr le21 ↦ elim (cases_lt n (2 ^ 28)) [
            | inl h ↦ rw (shortest_28 n le21 h) (λ le. absurd (omega arith))
            | inr le28 ↦ elim (cases_lt n (2 ^ 32)) [
              | inl h ↦ rw (shortest_32 n le28 h) (λ le. refl)
              | inr le32 ↦ rw (shortest_64 n le32) (λ le. refl)
            ]
          ]
        ]
      ]
    ]

-- the first byte of a number is below those of inverses
clear_positive : {bytes : List ℕ} {n : ℕ} → SpellsNumber bytes n → IsClearNumber bytes → IsClear bytes
clear_positive (SpellsNumber.bits_7 x lt) clear = (λ le most. absurd (omega arith), λ le. absurd (omega arith))
clear_positive (SpellsNumber.bits_14 x more lt are) clear = (λ le most. absurd (omega arith), λ le. absurd (omega arith))
clear_positive (SpellsNumber.bits_21 x more lt are) clear = (λ le most. absurd (omega arith), λ le. absurd (omega arith))
clear_positive (SpellsNumber.bits_28 x more lt are) clear = (λ le most. absurd (omega arith), λ le. absurd (omega arith))
clear_positive (SpellsNumber.bits_32 x more lt are) clear = (λ le most. clear le, λ le. absurd (omega arith))
clear_positive (SpellsNumber.bits_64 x more lt are) clear = (λ le most. clear le, λ le. absurd (omega arith))

clear_of_positive : {bytes : List ℕ} {n : ℕ} → SpellsNumber bytes n → IsClear bytes → IsClearNumber bytes
clear_of_positive (SpellsNumber.bits_7 x lt) clear = λ le. absurd (omega arith)
clear_of_positive (SpellsNumber.bits_14 x more lt are) clear = λ le. absurd (omega arith)
clear_of_positive (SpellsNumber.bits_21 x more lt are) clear = λ le. absurd (omega arith)
clear_of_positive (SpellsNumber.bits_28 x more lt are) clear = λ le. absurd (omega arith)
clear_of_positive (SpellsNumber.bits_32 x more lt are) clear = λ le. clear.0 le (omega arith)
clear_of_positive (SpellsNumber.bits_64 x more lt are) clear = λ le. clear.0 le (omega arith)

pub shortest-clear : (word : ℕ) → word < 2 ^ 64 → IsClear (shortest_word word)
shortest-clear word lt =
    elim (cases_lt (inverse word) (2 ^ 2)) [
      | inl h ↦ rw (shortest_small word h) (λ le most. absurd (omega arith), λ le. tt)
      | inr le2 ↦ elim (cases_lt (inverse word) (2 ^ 32)) [
        | inl h ↦ rw (shortest_inverted word le2 h) (λ le most. refl, λ le. clear_number (inverse word))
        | inr le32 ↦ rw (shortest_positive word le32) (clear_positive (shortest_number-spelled word lt) (clear_number word))
      ]
    ]

-- ---- each row of a number is written back as it was

written_14 : (x : ℕ) (more : List ℕ) → x < 2 ^ 6 → AreSoManyBytes 1 more → to_be_bytes w16 (0x8000 + (x * 2 ^ 8 + big_endian more)) ≡ (0x80 + x) ∷ more
written_14 x (a ∷ []) lt are = let ha = are.0 in two_bytes _ _ _ _ (omega arith) (omega arith)
written_14 x more lt are = absurd (omega (arith, AreSoManyBytes-length 1 more are))

written_21 : (x : ℕ) (more : List ℕ) → x < 2 ^ 5 → AreSoManyBytes 2 more → drop 1 (to_be_bytes w32 (0xC00000 + (x * 2 ^ 16 + big_endian more))) ≡ (0xC0 + x) ∷ more
written_21 x (a ∷ b ∷ []) lt are =
    let ha = are.0 in
    let hb = are.1.0 in three_bytes _ _ _ _ _ _ (omega arith) (omega arith) (omega arith)
written_21 x more lt are = absurd (omega (arith, AreSoManyBytes-length 2 more are))

written_28 : (x : ℕ) (more : List ℕ) → x < 2 ^ 4 → AreSoManyBytes 3 more → to_be_bytes w32 (0xE0000000 + (x * 2 ^ 24 + big_endian more)) ≡ (0xE0 + x) ∷ more
written_28 x (a ∷ b ∷ c ∷ []) lt are =
    let ha = are.0 in
    let hb = are.1.0 in
    let hc = are.1.1.0 in four_bytes _ _ _ _ _ _ _ _ (omega arith) (omega arith) (omega arith) (omega arith)
written_28 x more lt are = absurd (omega (arith, AreSoManyBytes-length 3 more are))

written_32 : (more : List ℕ) → AreSoManyBytes 4 more → to_be_bytes w32 (big_endian more) ≡ more
written_32 (a ∷ b ∷ c ∷ d ∷ []) are =
    let ha = are.0 in
    let hb = are.1.0 in
    let hc = are.1.1.0 in
    let hd = are.1.1.1.0 in four_bytes _ _ _ _ _ _ _ _ (omega arith) (omega arith) (omega arith) (omega arith)
written_32 more are = absurd (omega (arith, AreSoManyBytes-length 4 more are))

each_byte : (count : ℕ) (bytes : List ℕ) → AreSoManyBytes count bytes → (i : ℕ) → get_or bytes i 0 < 256
each_byte zero [] are i = omega arith
each_byte zero (b ∷ bytes) are i = absurd are
each_byte (suc count) [] are i = absurd are
each_byte (suc count) (b ∷ bytes) are zero = are.0
each_byte (suc count) (b ∷ bytes) are (suc i) = each_byte count bytes are.1 i

written_64 : (more : List ℕ) → AreSoManyBytes 8 more → to_be_bytes w64 (big_endian more) ≡ more
written_64 (a ∷ b ∷ c ∷ d ∷ e ∷ f ∷ g ∷ h ∷ []) are =
    be_bytes_8 (a ∷ b ∷ c ∷ d ∷ e ∷ f ∷ g ∷ h ∷ []) (big_endian (a ∷ b ∷ c ∷ d ∷ e ∷ f ∷ g ∷ h ∷ [])) refl (each_byte 8 (a ∷ b ∷ c ∷ d ∷ e ∷ f ∷ g ∷ h ∷ []) are) (omega arith)
written_64 more are = absurd (omega (arith, AreSoManyBytes-length 8 more are))

-- ---- no other is clear and as short

same_front : (x y : ℕ) (xs ys : List ℕ) → x ≡ y → xs ≡ ys → x ∷ xs ≡ y ∷ ys
same_front x y xs ys e f = cc

only_number : {bytes : List ℕ} {n : ℕ} → SpellsNumber bytes n → IsClearNumber bytes → length bytes ≤ length (shortest_number n) → bytes ≡ shortest_number n
only_number (SpellsNumber.bits_7 x lt) clear short = sym (shortest_7 x lt)
only_number (SpellsNumber.bits_14 x more lt are) clear short =
    let n : ℕ = x * 2 ^ 8 + big_endian more in
    let len = AreSoManyBytes-length 1 more are in
    let below : big_endian more < 2 ^ 8 = big_endian_1 more are in
    elim (cases_lt n (2 ^ 7)) [
      | inl h ↦ absurd (omega (arith, len_7 n h))
      | inr le ↦ sym (shortest_14 n le (omega arith) ∙ written_14 x more lt are)
    ]
only_number (SpellsNumber.bits_21 x more lt are) clear short =
    let n : ℕ = x * 2 ^ 16 + big_endian more in
    let len = AreSoManyBytes-length 2 more are in
    let below : big_endian more < 2 ^ 16 = big_endian_2 more are in
    elim (cases_lt n (2 ^ 14)) [
      | inl h ↦ absurd (omega (arith, len_14 n h))
      | inr le ↦ sym (shortest_21 n le (omega arith) ∙ written_21 x more lt are)
    ]
only_number (SpellsNumber.bits_28 x more lt are) clear short =
    let n : ℕ = x * 2 ^ 24 + big_endian more in
    let len = AreSoManyBytes-length 3 more are in
    let below : big_endian more < 2 ^ 24 = big_endian_3 more are in
    elim (cases_lt n (2 ^ 21)) [
      | inl h ↦ absurd (omega (arith, len_21 n h))
      | inr le ↦ sym (shortest_28 n le (omega arith) ∙ written_28 x more lt are)
    ]
only_number (SpellsNumber.bits_32 x more lt are) clear short =
    let len = AreSoManyBytes-length 4 more are in
    let none : x ≡ 0 = omega (arith, clear (omega arith)) in
    elim (cases_lt (big_endian more) (2 ^ 28)) [
      | inl h ↦ absurd (omega (arith, len_28 (big_endian more) h))
      | inr le ↦ sym (shortest_32 (big_endian more) le (big_endian_4 more are) ∙ same_front _ _ _ _ (omega arith) (written_32 more are))
    ]
only_number (SpellsNumber.bits_64 x more lt are) clear short =
    let len = AreSoManyBytes-length 8 more are in
    let none : x ≡ 0 = omega (arith, clear (omega arith)) in
    elim (cases_lt (big_endian more) (2 ^ 32)) [
      | inl h ↦ absurd (omega (arith, len_32 (big_endian more) h))
      | inr le ↦ sym (shortest_64 (big_endian more) le ∙ same_front _ _ _ _ (omega arith) (written_64 more are))
    ]

pub shortest-only : {bytes : List ℕ} {word : ℕ} → SpellsWord bytes word → IsClear bytes → length bytes ≤ length (shortest_word word) → bytes ≡ shortest_word word
shortest-only (SpellsWord.positive bytes n s) clear short =
    let t = tells s in
    let as_number : 2 ^ 32 ≤ inverse n → bytes ≡ shortest_word n = λ le.
    let row = shortest_positive n le in
    only_number s (clear_of_positive s clear) (omega (arith, ap length row)) ∙ sym row in
    elim (cases_lt n (2 ^ 32)) [
      | inl h ↦ as_number (omega arith)
      | inr le ↦
          let nine : 9 ≤ length bytes = t.wide le in
          elim (cases_lt (inverse n) (2 ^ 2)) [
            | inl h ↦ absurd (omega (arith, ap length (shortest_small n h)))
            | inr le2 ↦ elim (cases_lt (inverse n) (2 ^ 32)) [
              | inl h ↦ absurd (omega (arith, ap length (shortest_inverted n le2 h), len_32 (inverse n) h))
              | inr le32 ↦ as_number le32
            ]
          ]
    ]
shortest-only (SpellsWord.inverted x bytes n lt s) clear short =
    let t = tells s in
    let word = t.word in
    let back : inverse (inverse n) ≡ n = omega arith in
    elim (cases_lt n (2 ^ 2)) [
      | inl h ↦ absurd (omega (arith, ap length (shortest_small (inverse n) (omega arith)), t.least, ap length (shortest_7 n (omega arith))))
      | inr le2 ↦ elim (cases_lt n (2 ^ 32)) [
        | inl h ↦
            let row = shortest_inverted (inverse n) (omega arith) (omega arith) in
            let none : x ≡ 0 = omega (arith, clear.0 (omega arith) (omega arith)) in
            let rest : bytes ≡ shortest_number n = only_number s (clear.1 (omega arith)) (omega (arith, ap length row, ap (λ (m : ℕ). length (shortest_number m)) back)) in
            same_front _ _ _ _ (omega arith) (rest ∙ ap shortest_number (sym back)) ∙ sym row
        | inr le ↦ absurd (omega (arith, length-shortest_word (inverse n), t.wide le))
      ]
    ]
shortest-only (SpellsWord.inverted_small n lt) clear short =
    let back : inverse (inverse n) ≡ n = omega arith in
    same_front _ _ _ _ (omega arith) refl ∙ sym (shortest_small (inverse n) (omega arith))
