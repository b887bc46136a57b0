-- The frame whose digits a word is.
use Rattle.mum_record.proofs.Common.{◌≡◌, ℕ, zero, ◌+◌, ◌-◌, ◌*◌, ◌/◌, ◌%◌, ◌<◌, ◌≤◌, List, [], ◌∷◌, length, take, drop, Option, Some, None, is_some, Result, Ok, Err, refl, sym, ap, ◌∙◌, arith, Bool, true, false, ◌&&◌, suc, slice_index, lit<, cond_some, cond-true, and_parts, and_from, eqb-true, agree_below_at, false_from_ne_true, get_or-take, length-take-le, bytes_eq-Decides, nat_tests, nat_lt, nat_le, ◌==◌, if◌then◌else◌, list_all, bytes_eq, big_number, encode_with, encode_lower, decode_of, decode_sized, lower_digits, IsBytes, FromHexError, length-encode_with, decode_of-encode_lower, decode_of-ok, decode_sized-encode_lower, HEADER_LENGTH, PAYLOAD_LIMIT, IsOneFrame, is_one_frame, named_length, one_frame-tested, one_frame-found, is_space, is_lower_digit, TestsFrame, frame_of}
use Rattle.mum_record.proofs.Numbers.{none_unless}

-- ---- digits 0 to 9 and a to f

-- the digit of each number below 16 is no upper case letter, and no space
lower_digit-test : ℕ → Bool
lower_digit-test v = (slice_index lower_digits v == (if nat_lt v 10 then v + 48 else v + 87))

lower_digit : (v : ℕ) → v < 16 → slice_index lower_digits v ≡ (if nat_lt v 10 then v + 48 else v + 87)
unfolding lower_digit-test
lower_digit v h = eqb-true (slice_index lower_digits v) (if nat_lt v 10 then v + 48 else v + 87) (agree_below_at lower_digit-test (λ (_ : ℕ). true) 16 v refl h)

-- and is above the space
pub lower_digit-above : (v : ℕ) → v < 16 → (32 < slice_index lower_digits v) × (slice_index lower_digits v < 128)
lower_digit-above v h =
    let at = lower_digit v h in
    (grind (arith, nat_tests), grind (arith, nat_tests))

-- the value of a digit
value_of : ℕ → ℕ
value_of c = if nat_lt c 58 then c - 48 else c - 87

digit_of_value : (c : ℕ) → is_lower_digit c ≡ true → (value_of c < 16) × (slice_index lower_digits (value_of c) ≡ c)
unfolding value_of
digit_of_value c h =
    let small : value_of c < 16 = grind (arith, nat_tests) in
    let at = lower_digit (value_of c) small in
    (small, grind (arith, nat_tests))

-- a digit is ASCII and no space
pub lower_digit-graphic : (v : ℕ) → v < 16 → (is_space (slice_index lower_digits v) ≡ false) × (slice_index lower_digits v < 128)
lower_digit-graphic v h =
    let at = lower_digit v h in
    (grind (arith, nat_tests), grind (arith, nat_tests))

-- the digits of bytes are such digits
pub encode_lower-digits : (bytes : List ℕ) → IsBytes bytes → list_all is_lower_digit (encode_lower bytes) ≡ true
unfolding encode_with
encode_lower-digits [] small = refl
encode_lower-digits (b ∷ bs) small =
    let byte : b < 256 = small 0 in
    let high = lower_digit (b / 16) (omega arith) in
    let low = lower_digit (b % 16) (omega arith) in
    let first : is_lower_digit (slice_index lower_digits (b / 16)) ≡ true = grind (arith, nat_tests) in
    let second : is_lower_digit (slice_index lower_digits (b % 16)) ≡ true = grind (arith, nat_tests) in
    and_from (is_lower_digit (slice_index lower_digits (b / 16))) _ first
    (and_from (is_lower_digit (slice_index lower_digits (b % 16))) _ second (encode_lower-digits bs (λ i. small (suc i))))

byte_before : (b : ℕ) (bs : List ℕ) → b < 256 → IsBytes bs → IsBytes (b ∷ bs)
byte_before b bs byte small zero = byte
byte_before b bs byte small (suc i) = small i

-- an even number of such digits are those of bytes
pub digits_are_of : (word : List ℕ) → length word % 2 ≡ 0 → list_all is_lower_digit word ≡ true → (bytes : List ℕ) × IsBytes bytes × (word ≡ encode_lower bytes)
unfolding encode_with
digits_are_of [] even digits = ([], λ i. lit< tt, refl)
digits_are_of (a ∷ []) even digits = absurd (omega arith)
digits_are_of (a ∷ b ∷ rest) even digits =
    let first = and_parts (is_lower_digit a) _ digits in
    let second = and_parts (is_lower_digit b) _ first.1 in
    let high = digit_of_value a first.0 in
    let low = digit_of_value b second.0 in
    let more = digits_are_of rest (omega arith) second.1 in
    let above : (value_of a * 16 + value_of b) / 16 ≡ value_of a = omega (arith, high.0, low.0) in
    let below : (value_of a * 16 + value_of b) % 16 ≡ value_of b = omega (arith, high.0, low.0) in (
      (value_of a * 16 + value_of b) ∷ more.0,
      byte_before (value_of a * 16 + value_of b) more.0 (omega (arith, high.0, low.0)) more.1,
      rw (above, below, high.1, low.1, ← more.2) refl,
    )

-- ---- the frame of a word

-- a test in front of a value
kept : List ℕ → List ℕ → Option (List ℕ)
kept word bytes = if bytes_eq word (encode_lower bytes) && is_one_frame bytes then Some bytes else None

frame_of-decoded : (word bytes : List ℕ) → decode_of word ≡ Ok bytes → frame_of word ≡ kept word bytes
unfolding frame_of kept
frame_of-decoded word bytes h = rw h refl

frame_of-undecoded : (word : List ℕ) (e : FromHexError) → decode_of word ≡ Err e → frame_of word ≡ None
unfolding frame_of
frame_of-undecoded word e h = rw h refl

found_from : (word bytes : List ℕ) (r : Result (List ℕ) FromHexError) → decode_of word ≡ r → frame_of word ≡ Some bytes → IsBytes bytes × IsOneFrame bytes × (word ≡ encode_lower bytes)
unfolding kept
found_from word bytes (Ok read) is h =
    let chosen = cond_some (bytes_eq word (encode_lower read) && is_one_frame read) read bytes (sym (frame_of-decoded word read is) ∙ h) in
    let parts = and_parts (bytes_eq word (encode_lower read)) (is_one_frame read) chosen.0 in
    let small : IsBytes read = (decode_of-ok word read is).3 in
    rw (← chosen.1) (small, one_frame-found read small parts.1, (bytes_eq-Decides word (encode_lower read)).0 parts.0)
found_from word bytes (Err e) is h =
    let none = frame_of-undecoded word e is in
    cc

-- what a word says is written by it
pub frame_of-found : (word bytes : List ℕ) → frame_of word ≡ Some bytes → IsBytes bytes × IsOneFrame bytes × (word ≡ encode_lower bytes)
frame_of-found word bytes h = found_from word bytes (decode_of word) refl h

-- the digits of bytes say a frame where the bytes are one
frame_of-digits : (bytes : List ℕ) → IsBytes bytes → frame_of (encode_lower bytes) ≡ (if is_one_frame bytes then Some bytes else None)
unfolding kept
frame_of-digits bytes small =
    frame_of-decoded (encode_lower bytes) bytes (decode_of-encode_lower bytes small)
    ∙ ap (λ (same : Bool). if same && is_one_frame bytes then Some bytes else None) ((bytes_eq-Decides (encode_lower bytes) (encode_lower bytes)).1 refl)

-- a frame is read back from its digits
pub frame_of-encode_lower : (bytes : List ℕ) → IsBytes bytes → IsOneFrame bytes → frame_of (encode_lower bytes) ≡ Some bytes
frame_of-encode_lower bytes small one =
    frame_of-digits bytes small ∙ cond-true (is_one_frame bytes) (Some bytes) None (one_frame-tested bytes one)

-- ---- the test of a word

some_as_tested : (tested : Bool) (bytes : List ℕ) → is_some (if tested then Some bytes else None) ≡ tested
some_as_tested true bytes = refl
some_as_tested false bytes = refl

-- of such digits, the test of their bytes is that of the word
pub tested-digits : (word : List ℕ) (tested : Bool) → list_all is_lower_digit word ≡ true → (tested ≡ true → length word % 2 ≡ 0) → TestsFrame word tested → tested ≡ is_some (frame_of word)
tested-digits word true digits even tests =
    let of = digits_are_of word (even refl) digits in
    tests of.0 of.1 of.2 ∙ sym (ap (λ (w : List ℕ). is_some (frame_of w)) of.2 ∙ ap is_some (frame_of-digits of.0 of.1) ∙ some_as_tested (is_one_frame of.0) of.0)
tested-digits word false digits even tests =
    sym (ap is_some (none_unless (frame_of word) (λ bytes is.
    let found = frame_of-found word bytes is in
    let one = one_frame-tested bytes found.1 in
    let other : false ≡ is_one_frame bytes = tests bytes found.0 found.2 in
    cc)))

-- a word of other letters says no frame
pub tested-other : (word : List ℕ) → list_all is_lower_digit word ≡ false → false ≡ is_some (frame_of word)
tested-other word other =
    sym (ap is_some (none_unless (frame_of word) (λ bytes is.
    let found = frame_of-found word bytes is in
    let digits : list_all is_lower_digit word ≡ true = rw found.2 (encode_lower-digits bytes found.0) in
    cc)))

pub some_if_tested : (tested : Bool) (bytes : List ℕ) → is_some (if tested then Some bytes else None) ≡ true → (if tested then Some bytes else None) ≡ Some bytes
some_if_tested true bytes h = refl
some_if_tested false bytes h = cc

-- a frame that a word says is what it decodes to
pub frame_of-decodes : (word bytes : List ℕ) → is_some (frame_of word) ≡ true → decode_of word ≡ Ok bytes → frame_of word ≡ Some bytes
unfolding kept
frame_of-decodes word bytes some h =
    let decoded = frame_of-decoded word bytes h in
    decoded ∙ some_if_tested (bytes_eq word (encode_lower bytes) && is_one_frame bytes) bytes (rw decoded at some)

-- ---- the header of the digits

pub length-digits : (word bytes : List ℕ) → word ≡ encode_lower bytes → length word ≡ 2 * length bytes
length-digits word bytes is = ap length is ∙ length-encode_with lower_digits bytes

-- fewer digits than those of a header are no frame
pub TestsFrame-cut : (word : List ℕ) → length word < 2 * HEADER_LENGTH → TestsFrame word false
TestsFrame-cut word cut bytes small is =
    let size = length-digits word bytes is in
    sym (false_from_ne_true (is_one_frame bytes) (λ one.
    let parts = and_parts (length bytes == HEADER_LENGTH + named_length bytes) (nat_le (named_length bytes) PAYLOAD_LIMIT) one in
    let long = eqb-true (length bytes) (HEADER_LENGTH + named_length bytes) parts.0 in
    omega arith))

header_taken : (bytes : List ℕ) → HEADER_LENGTH ≤ length bytes → take (2 * HEADER_LENGTH) (encode_lower bytes) ≡ encode_lower (take HEADER_LENGTH bytes)
unfolding encode_with
header_taken (a ∷ b ∷ c ∷ d ∷ e ∷ f ∷ rest) h = refl
header_taken [] h = absurd (omega arith)
header_taken (a ∷ []) h = absurd (omega arith)
header_taken (a ∷ b ∷ []) h = absurd (omega arith)
header_taken (a ∷ b ∷ c ∷ []) h = absurd (omega arith)
header_taken (a ∷ b ∷ c ∷ d ∷ []) h = absurd (omega arith)
header_taken (a ∷ b ∷ c ∷ d ∷ e ∷ []) h = absurd (omega arith)

-- the length, as a read of the header from the third byte on sees it
pub named_length-read : (header : List ℕ) → big_number 4 (take 4 (drop 2 header)) ≡ named_length header
unfolding named_length
named_length-read header =
    let rest : List ℕ = drop 2 header in
    rw (get_or-take 4 rest 0 0 (lit< tt), get_or-take 4 rest 1 0 (lit< tt), get_or-take 4 rest 2 0 (lit< tt), get_or-take 4 rest 3 0 (lit< tt)) refl

named_by_header : (bytes : List ℕ) → HEADER_LENGTH ≤ length bytes → named_length (take HEADER_LENGTH bytes) ≡ named_length bytes
unfolding named_length
named_by_header (a ∷ b ∷ c ∷ d ∷ e ∷ f ∷ rest) h = refl
named_by_header [] h = absurd (omega arith)
named_by_header (a ∷ []) h = absurd (omega arith)
named_by_header (a ∷ b ∷ []) h = absurd (omega arith)
named_by_header (a ∷ b ∷ c ∷ []) h = absurd (omega arith)
named_by_header (a ∷ b ∷ c ∷ d ∷ []) h = absurd (omega arith)
named_by_header (a ∷ b ∷ c ∷ d ∷ e ∷ []) h = absurd (omega arith)

first_bytes : (n : ℕ) (bytes : List ℕ) → IsBytes bytes → IsBytes (take n bytes)
first_bytes zero bytes small i = lit< tt
first_bytes (suc n) [] small i = lit< tt
first_bytes (suc n) (b ∷ bs) small zero = small 0
first_bytes (suc n) (b ∷ bs) small (suc i) = first_bytes n bs (λ k. small (suc k)) i

-- the first digits are those of the header
header_read : (word bytes : List ℕ) → 2 * HEADER_LENGTH ≤ length word → IsBytes bytes → word ≡ encode_lower bytes
    → (HEADER_LENGTH ≤ length bytes) × (decode_sized (take (2 * HEADER_LENGTH) word) HEADER_LENGTH ≡ Ok (take HEADER_LENGTH bytes))
header_read word bytes long small is =
    let size = length-digits word bytes is in
    let header : HEADER_LENGTH ≤ length bytes = omega arith in
    let first : take (2 * HEADER_LENGTH) word ≡ encode_lower (take HEADER_LENGTH bytes) = ap (take (2 * HEADER_LENGTH)) is ∙ header_taken bytes header in (
      header,
      rw first (decode_sized-encode_lower (take HEADER_LENGTH bytes) HEADER_LENGTH (length-take-le HEADER_LENGTH bytes header) (first_bytes HEADER_LENGTH bytes small)),
    )

-- what has no header is not the digits of bytes
pub TestsFrame-no_header : (word : List ℕ) → 2 * HEADER_LENGTH ≤ length word
    → ((header : List ℕ) → decode_sized (take (2 * HEADER_LENGTH) word) HEADER_LENGTH ≡ Ok header → ⊥) → TestsFrame word false
TestsFrame-no_header word long never bytes small is =
    absurd (never (take HEADER_LENGTH bytes) (header_read word bytes long small is).1)

-- as many bytes follow the header as it names, within the limit
pub TestsFrame-named : (word header : List ℕ) (named : ℕ) (tested : Bool) → 2 * HEADER_LENGTH ≤ length word
    → decode_sized (take (2 * HEADER_LENGTH) word) HEADER_LENGTH ≡ Ok header → named ≡ named_length header
    → tested ≡ (nat_le named PAYLOAD_LIMIT && (length word == 2 * (HEADER_LENGTH + named))) → TestsFrame word tested
TestsFrame-named word header named tested long read named_is tested_is bytes small is =
    let size = length-digits word bytes is in
    let first = header_read word bytes long small is in
    let same : header ≡ take HEADER_LENGTH bytes = cc in
    let names : named ≡ named_length bytes = named_is ∙ ap named_length same ∙ named_by_header bytes first.0 in
    grind (arith, nat_tests)
