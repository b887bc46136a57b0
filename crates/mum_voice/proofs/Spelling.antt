-- Reading a word as a function is reading it by the rules.
use Rattle.mum_voice.proofs.Common.{◌≡◌, ℕ, zero, suc, ◌+◌, ◌-◌, ◌*◌, ◌^◌, ◌<◌, ◌≤◌, false, ltb, List, [], ◌∷◌, ◌++◌, length, get_or, take, drop, Option, Some, None, refl, sym, ap, subst, ◌∙◌, arith, inl, inr, ◌↔◌, IsNone, option_map, cases_lt, le-ltb, lt-ltb, take_at, take-append-drop, length-append, length-take, get_or-drop, AreSoManyBytes, big_endian, inverse, SpellsNumber, SpellsWord, BeginsWith, BeginsWithNone, row_number, number_by, number_at, word_at}
use Rattle.mum_voice.proofs.Rows.{row_7, row_14, row_21, row_28, row_32, row_64, no_row}

-- each element is a byte
abbrev pub IsBytes : List ℕ → Type 0
IsBytes bytes = (i : ℕ) → get_or bytes i 0 < 256

pub IsBytes-rest : (b : ℕ) (bytes : List ℕ) → IsBytes (b ∷ bytes) → IsBytes bytes
IsBytes-rest b bytes fits i = fits (suc i)

pub IsBytes-drop : (n : ℕ) (bytes : List ℕ) → IsBytes bytes → IsBytes (drop n bytes)
IsBytes-drop n bytes fits i = rw get_or-drop (fits (n + i))

pub AreSoManyBytes-length : (count : ℕ) (bytes : List ℕ) → AreSoManyBytes count bytes → length bytes ≡ count
AreSoManyBytes-length zero [] are = refl
AreSoManyBytes-length zero (b ∷ bytes) are = absurd are
AreSoManyBytes-length (suc count) [] are = absurd are
AreSoManyBytes-length (suc count) (b ∷ bytes) are = ap suc (AreSoManyBytes-length count bytes are.1)

AreSoManyBytes-take : (count : ℕ) (bytes : List ℕ) → IsBytes bytes → count ≤ length bytes → AreSoManyBytes count (take count bytes)
AreSoManyBytes-take zero bytes fits le = tt
AreSoManyBytes-take (suc count) [] fits le = absurd (omega arith)
AreSoManyBytes-take (suc count) (b ∷ bytes) fits le = (fits 0, AreSoManyBytes-take count bytes (IsBytes-rest b bytes fits) (omega arith))

-- ---- what is encoded is read, whatever follows

row_number-spelled : (high count : ℕ) (more rest : List ℕ) (n : ℕ) → AreSoManyBytes count more → n ≡ high * 2 ^ (8 * count) + big_endian more → row_number high count (more ++ rest) ≡ Some (n, suc (length more))
row_number-spelled high count more rest n are e =
    let len = AreSoManyBytes-length count more are in
    let there : ltb (length (more ++ rest)) count ≡ false = le-ltb _ _ (omega (arith, length-append more rest)) in
    let k : count + 1 ≡ suc (length more) = omega arith in
    rw (there, take_at more rest count len, k, e) refl

pub number_at-spelled : {bytes : List ℕ} {n : ℕ} → SpellsNumber bytes n → (rest : List ℕ) → number_at (bytes ++ rest) ≡ Some (n, length bytes)
unfolding number_at
number_at-spelled (SpellsNumber.bits_7 x lt) rest = row_7 x rest lt ∙ row_number-spelled x 0 [] rest x tt (omega arith)
number_at-spelled (SpellsNumber.bits_14 x more lt are) rest =
    let e : (0x80 + x) - 0x80 ≡ x = omega arith in
    row_14 (0x80 + x) (more ++ rest) (omega arith) (omega arith) ∙ rw e (row_number-spelled x 1 more rest _ are refl)
number_at-spelled (SpellsNumber.bits_21 x more lt are) rest =
    let e : (0xC0 + x) - 0xC0 ≡ x = omega arith in
    row_21 (0xC0 + x) (more ++ rest) (omega arith) (omega arith) ∙ rw e (row_number-spelled x 2 more rest _ are refl)
number_at-spelled (SpellsNumber.bits_28 x more lt are) rest =
    let e : (0xE0 + x) - 0xE0 ≡ x = omega arith in
    row_28 (0xE0 + x) (more ++ rest) (omega arith) (omega arith) ∙ rw e (row_number-spelled x 3 more rest _ are refl)
number_at-spelled (SpellsNumber.bits_32 x more lt are) rest =
    row_32 (0xF0 + x) (more ++ rest) (omega arith) (omega arith) ∙ row_number-spelled 0 4 more rest _ are (omega arith)
number_at-spelled (SpellsNumber.bits_64 x more lt are) rest =
    row_64 (0xF4 + x) (more ++ rest) (omega arith) (omega arith) ∙ row_number-spelled 0 8 more rest _ are (omega arith)

first_below : {bytes : List ℕ} {n : ℕ} → SpellsNumber bytes n → get_or bytes 0 0 < 0xF8
first_below (SpellsNumber.bits_7 x lt) = omega arith
first_below (SpellsNumber.bits_14 x more lt are) = omega arith
first_below (SpellsNumber.bits_21 x more lt are) = omega arith
first_below (SpellsNumber.bits_28 x more lt are) = omega arith
first_below (SpellsNumber.bits_32 x more lt are) = omega arith
first_below (SpellsNumber.bits_64 x more lt are) = omega arith

positive_row : (bytes rest : List ℕ) → 0 < length bytes → get_or bytes 0 0 < 0xF8 → word_at (bytes ++ rest) ≡ number_at (bytes ++ rest)
unfolding word_at number_at
positive_row [] rest some lt = absurd (omega arith)
positive_row (first ∷ bytes) rest some lt = rw (lt-ltb first 0xF8 lt) refl

length_positive : {bytes : List ℕ} {n : ℕ} → SpellsNumber bytes n → 0 < length bytes
length_positive (SpellsNumber.bits_7 x lt) = omega arith
length_positive (SpellsNumber.bits_14 x more lt are) = omega arith
length_positive (SpellsNumber.bits_21 x more lt are) = omega arith
length_positive (SpellsNumber.bits_28 x more lt are) = omega arith
length_positive (SpellsNumber.bits_32 x more lt are) = omega arith
length_positive (SpellsNumber.bits_64 x more lt are) = omega arith

inverted_row : (x : ℕ) (bytes : List ℕ) (n len : ℕ) → x < 2 ^ 2 → number_at bytes ≡ Some (n, len) → word_at ((0xF8 + x) ∷ bytes) ≡ Some (inverse n, len + 1)
unfolding word_at
inverted_row x bytes n len lt e = rw (le-ltb (0xF8 + x) 0xF8 (omega arith), lt-ltb (0xF8 + x) 0xFC (omega arith), e) refl

small_row : (n : ℕ) (bytes : List ℕ) → word_at ((0xFC + n) ∷ bytes) ≡ Some (inverse n, 1)
unfolding word_at
small_row n bytes =
    let e : (0xFC + n) - 0xFC ≡ n = omega arith in
    rw (le-ltb (0xFC + n) 0xF8 (omega arith), le-ltb (0xFC + n) 0xFC (omega arith), e) refl

pub word_at-spelled : {bytes : List ℕ} {word : ℕ} → SpellsWord bytes word → (rest : List ℕ) → word_at (bytes ++ rest) ≡ Some (word, length bytes)
word_at-spelled (SpellsWord.positive bytes n s) rest = positive_row bytes rest (length_positive s) (first_below s) ∙ number_at-spelled s rest
word_at-spelled (SpellsWord.inverted x bytes n lt s) rest =
    inverted_row x (bytes ++ rest) n (length bytes) lt (number_at-spelled s rest) ∙ (let k : length bytes + 1 ≡ suc (length bytes) = omega arith in rw k refl)
word_at-spelled (SpellsWord.inverted_small n lt) rest = small_row n rest

-- ---- what is read is encoded

same_found : (p q : ℕ × ℕ) → Some p ≡ Some q → p ≡ q
same_found p q e = cc

some_pair : (a b c d : ℕ) → ◌≡◌ {A = Option (ℕ × ℕ)} (Some (a, b)) (Some (c, d)) → (a ≡ c) × (b ≡ d)
some_pair a b c d e =
    let p = same_found (a, b) (c, d) e in
    (ap (λ (q : ℕ × ℕ). q.0) p, ap (λ (q : ℕ × ℕ). q.1) p)

row_number-found : (high count : ℕ) (bytes : List ℕ) (n len : ℕ) → row_number high count bytes ≡ Some (n, len) → (count ≤ length bytes) × (high * 2 ^ (8 * count) + big_endian (take count bytes) ≡ n) × (len ≡ suc count)
row_number-found high count bytes n len e =
    elim (cases_lt (length bytes) count) [
      | inl lt ↦ absurd (let none : row_number high count bytes ≡ None = rw (lt-ltb _ _ lt) refl in cc)
      | inr le ↦
          let some : row_number high count bytes ≡ Some (high * 2 ^ (8 * count) + big_endian (take count bytes), count + 1) = rw (le-ltb _ _ le) refl in
          let both = some_pair (high * 2 ^ (8 * count) + big_endian (take count bytes)) (count + 1) n len (sym some ∙ e) in
          (le, both.0, omega (arith, both.1))
    ]

finished : (first : ℕ) (bytes : List ℕ) (high count n len : ℕ) → row_number high count bytes ≡ Some (n, len) → IsBytes bytes
    → (AreSoManyBytes count (take count bytes) → SpellsNumber (first ∷ take count bytes) (high * 2 ^ (8 * count) + big_endian (take count bytes)))
    → (len ≤ length (first ∷ bytes)) × SpellsNumber (take len (first ∷ bytes)) n
finished first bytes high count n len e fits spelled =
    let f = row_number-found high count bytes n len e in
    let s = spelled (AreSoManyBytes-take count bytes fits f.0) in
    (omega arith, rw f.2 (subst (λ (m : ℕ). SpellsNumber (first ∷ take count bytes) m) f.1 s))

number_at-found_first : (first : ℕ) (bytes : List ℕ) (n len : ℕ) → IsBytes bytes → number_by first bytes ≡ Some (n, len) → (len ≤ length (first ∷ bytes)) × SpellsNumber (take len (first ∷ bytes)) n
number_at-found_first first bytes n len fits e =
    elim (cases_lt first 0x80) [
      | inl lt ↦ finished first bytes first 0 n len (sym (row_7 first bytes lt) ∙ e) fits (λ are. let k : first * 2 ^ (8 * 0) + 0 ≡ first = omega arith in rw k (SpellsNumber.bits_7 first lt))
      | inr le80 ↦ elim (cases_lt first 0xC0) [
        | inl lt ↦ finished first bytes (first - 0x80) 1 n len (sym (row_14 first bytes le80 lt) ∙ e) fits (λ are. let k : 0x80 + (first - 0x80) ≡ first = omega arith in subst (λ (f : ℕ). SpellsNumber (f ∷ take 1 bytes) ((first - 0x80) * 2 ^ 8 + big_endian (take 1 bytes))) k (SpellsNumber.bits_14 (first - 0x80) (take 1 bytes) (omega arith) are))
        | inr leC0 ↦ elim (cases_lt first 0xE0) [
          | inl lt ↦ finished first bytes (first - 0xC0) 2 n len (sym (row_21 first bytes leC0 lt) ∙ e) fits (λ are. let k : 0xC0 + (first - 0xC0) ≡ first = omega arith in subst (λ (f : ℕ). SpellsNumber (f ∷ take 2 bytes) ((first - 0xC0) * 2 ^ 16 + big_endian (take 2 bytes))) k (SpellsNumber.bits_21 (first - 0xC0) (take 2 bytes) (omega arith) are))
          | inr leE0 ↦ elim (cases_lt first 0xF0) [
            | inl lt ↦ finished first bytes (first - 0xE0) 3 n len (sym (row_28 first bytes leE0 lt) ∙ e) fits (λ are. let k : 0xE0 + (first - 0xE0) ≡ first = omega arith in subst (λ (f : ℕ). SpellsNumber (f ∷ take 3 bytes) ((first - 0xE0) * 2 ^ 24 + big_endian (take 3 bytes))) k (SpellsNumber.bits_28 (first - 0xE0) (take 3 bytes) (omega arith) are))
            | inr leF0 ↦ elim (cases_lt first 0xF4) [
              | inl lt ↦ finished first bytes 0 4 n len (sym (row_32 first bytes leF0 lt) ∙ e) fits (λ are. let k : 0xF0 + (first - 0xF0) ≡ first = omega arith in let z : 0 * 2 ^ (8 * 4) + big_endian (take 4 bytes) ≡ big_endian (take 4 bytes) = omega arith in rw z (subst (λ (f : ℕ). SpellsNumber (f ∷ take 4 bytes) (big_endian (take 4 bytes))) k (SpellsNumber.bits_32 (first - 0xF0) (take 4 bytes) (omega arith) are)))
              | inr leF4 ↦ elim (cases_lt first 0xF8) [
                | inl lt ↦ finished first bytes 0 8 n len (sym (row_64 first bytes leF4 lt) ∙ e) fits (λ are. let k : 0xF4 + (first - 0xF4) ≡ first = omega arith in let z : 0 * 2 ^ (8 * 8) + big_endian (take 8 bytes) ≡ big_endian (take 8 bytes) = omega arith in rw z (subst (λ (f : ℕ). SpellsNumber (f ∷ take 8 bytes) (big_endian (take 8 bytes))) k (SpellsNumber.bits_64 (first - 0xF4) (take 8 bytes) (omega arith) are)))
                | inr le ↦ absurd (let none = no_row first bytes le in cc)
              ]
            ]
          ]
        ]
      ]
    ]

pub number_at-found : (bytes : List ℕ) (n len : ℕ) → IsBytes bytes → number_at bytes ≡ Some (n, len) → (len ≤ length bytes) × SpellsNumber (take len bytes) n
unfolding number_at
number_at-found [] n len fits e = absurd cc
number_at-found (first ∷ bytes) n len fits e = number_at-found_first first bytes n len (IsBytes-rest first bytes fits) e

positive_row_first : (first : ℕ) (bytes : List ℕ) → first < 0xF8 → word_at (first ∷ bytes) ≡ number_by first bytes
unfolding word_at
positive_row_first first bytes lt = rw (lt-ltb first 0xF8 lt) refl

inverted_row_first : (first : ℕ) (bytes : List ℕ) → 0xF8 ≤ first → first < 0xFC → word_at (first ∷ bytes) ≡ option_map {U = ℕ × ℕ} (λ number. (inverse number.0, number.1 + 1)) (number_at bytes)
unfolding word_at
inverted_row_first first bytes le lt = rw (le-ltb first 0xF8 le, lt-ltb first 0xFC lt) refl

small_row_first : (first : ℕ) (bytes : List ℕ) → 0xFC ≤ first → word_at (first ∷ bytes) ≡ Some (inverse (first - 0xFC), 1)
unfolding word_at
small_row_first first bytes le = rw (le-ltb first 0xF8 (omega arith), le-ltb first 0xFC le) refl

inverted_found : (first : ℕ) (bytes : List ℕ) (word len : ℕ) → IsBytes bytes → 0xF8 ≤ first → first < 0xFC → (read : Option (ℕ × ℕ)) → number_at bytes ≡ read
    → option_map {U = ℕ × ℕ} (λ number. (inverse number.0, number.1 + 1)) read ≡ Some (word, len) → BeginsWith (first ∷ bytes) word len
inverted_found first bytes word len fits le lt None is e = absurd cc
inverted_found first bytes word len fits le lt (Some found) is e =
    let both = some_pair (inverse found.0) (found.1 + 1) word len e in
    let inner = number_at-found bytes found.0 found.1 fits is in
    let k : 0xF8 + (first - 0xF8) ≡ first = omega arith in
    let whole : SpellsWord (first ∷ take found.1 bytes) (inverse found.0) = subst (λ (f : ℕ). SpellsWord (f ∷ take found.1 bytes) (inverse found.0)) k (SpellsWord.inverted (first - 0xF8) (take found.1 bytes) found.0 (omega arith) inner.1) in
    let m : len ≡ suc found.1 = omega (arith, both.1) in
    record { within = omega (arith, inner.0); spelled = rw m (subst (λ (w : ℕ). SpellsWord (first ∷ take found.1 bytes) w) both.0 whole) }

word_at-found_first : (first : ℕ) (bytes : List ℕ) (word len : ℕ) → first < 256 → IsBytes bytes → word_at (first ∷ bytes) ≡ Some (word, len) → BeginsWith (first ∷ bytes) word len
word_at-found_first first bytes word len byte fits e =
    elim (cases_lt first 0xF8) [
      | inl lt ↦
          let found = number_at-found_first first bytes word len fits (sym (positive_row_first first bytes lt) ∙ e) in
          record { within = found.0; spelled = SpellsWord.positive (take len (first ∷ bytes)) word found.1 }
      | inr leF8 ↦ elim (cases_lt first 0xFC) [
        | inl lt ↦ inverted_found first bytes word len fits leF8 lt (number_at bytes) refl (sym (inverted_row_first first bytes leF8 lt) ∙ e)
        | inr le ↦
            let both = some_pair (inverse (first - 0xFC)) 1 word len (sym (small_row_first first bytes le) ∙ e) in
            let k : 0xFC + (first - 0xFC) ≡ first = omega arith in
            let whole : SpellsWord (first ∷ []) (inverse (first - 0xFC)) = subst (λ (f : ℕ). SpellsWord (f ∷ []) (inverse (first - 0xFC))) k (SpellsWord.inverted_small (first - 0xFC) (omega arith)) in
            let m : len ≡ suc zero = omega (arith, both.1) in
            record { within = omega arith; spelled = rw m (subst (λ (w : ℕ). SpellsWord (first ∷ []) w) both.0 whole) }
      ]
    ]

pub word_at-found : (bytes : List ℕ) (word len : ℕ) → IsBytes bytes → word_at bytes ≡ Some (word, len) → BeginsWith bytes word len
unfolding word_at
word_at-found [] word len fits e = absurd cc
word_at-found (first ∷ bytes) word len fits e = word_at-found_first first bytes word len (fits 0) (IsBytes-rest first bytes fits) e

-- ---- both

pub word_at-begins : (bytes : List ℕ) (word len : ℕ) → BeginsWith bytes word len → word_at bytes ≡ Some (word, len)
word_at-begins bytes word len begins =
    let whole = word_at-spelled begins.spelled (drop len bytes) in
    let k : length (take len bytes) ≡ len = omega (arith, length-take len bytes, begins.within) in
    ap word_at (sym (take-append-drop len bytes)) ∙ whole ∙ ap (λ (m : ℕ). Some (word, m)) k

pub reads_word : (bytes : List ℕ) (read : Option (ℕ × ℕ)) → IsBytes bytes → read ≡ word_at bytes → (word len : ℕ) → (read ≡ Some (word, len)) ↔ BeginsWith bytes word len
reads_word bytes read fits is word len = (λ e. word_at-found bytes word len fits (sym is ∙ e), λ begins. is ∙ word_at-begins bytes word len begins)

pub none_begins : (bytes : List ℕ) (read : Option (ℕ × ℕ)) → IsBytes bytes → word_at bytes ≡ read → BeginsWithNone bytes → IsNone read
none_begins bytes None fits is none = refl
none_begins bytes (Some found) fits is none = absurd (none found.0 found.1 (word_at-found bytes found.0 found.1 fits is))

pub begins_none : (bytes : List ℕ) (read : Option (ℕ × ℕ)) → word_at bytes ≡ read → IsNone read → BeginsWithNone bytes
begins_none bytes None is none word len begins = absurd (let e = word_at-begins bytes word len begins in cc)
begins_none bytes (Some found) is none word len begins = absurd cc

pub reads_none : (bytes : List ℕ) (read : Option (ℕ × ℕ)) → IsBytes bytes → read ≡ word_at bytes → IsNone read ↔ BeginsWithNone bytes
reads_none bytes read fits is = (begins_none bytes read (sym is), none_begins bytes read fits (sym is))
