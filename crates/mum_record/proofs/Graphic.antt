-- Words of bytes that stand for graphic characters: they hold no space and no line feed.
use Rattle.mum_record.proofs.Common.{◌≡◌, ℕ, suc, ◌/◌, ◌%◌, ◌^◌, ◌<◌, true, false, ◌&&◌, List, [], ◌∷◌, ◌++◌, Option, Some, None, IfSome, refl, arith, lit<, codes, and_parts, ltb-true, ne_eqb, digits_decimal, digit_from_value, nat_lt, ◌==◌, decimal, slice_split, join_with_byte, list_all, AllDigits, encode_with, encode_lower, IsBytes, Cause, cause_word, revision_word, eq-eqb}
use Rattle.mum_record.proofs.{Numbers.own, Frames.lower_digit-above, Splits.IsWord, Splits.AreAllWords}
use Rattle.mum_base.specs.declared.number.Cause.TheVariants as causes

abbrev pub IsGraphic : List ℕ → Type 0
IsGraphic [] = Unit {0}
IsGraphic (b ∷ bs) = (32 < b) × (b < 128) × IsGraphic bs

abbrev pub AreGraphic : List (List ℕ) → Type 0
AreGraphic [] = Unit {0}
AreGraphic (w ∷ ws) = IsGraphic w × AreGraphic ws

graphic_IsWord : (w : List ℕ) → IsGraphic w → IsWord w
graphic_IsWord [] h = tt
graphic_IsWord (b ∷ bs) h = (ne_eqb b 32 (λ e. omega (arith, h.0)), h.1, graphic_IsWord bs h.2)

pub graphic_AreAllWords : (ws : List (List ℕ)) → AreGraphic ws → AreAllWords ws
graphic_AreAllWords [] h = tt
graphic_AreAllWords (w ∷ ws) h = (graphic_IsWord w h.0, graphic_AreAllWords ws h.1)

-- ---- parts

-- no byte is the one that parts them
abbrev pub IsPart : ℕ → List ℕ → Type 0
IsPart sep [] = Unit {0}
IsPart sep (b ∷ bs) = ((b == sep) ≡ false) × IsPart sep bs

pub split_part : (sep : ℕ) (w : List ℕ) → IsPart sep w → slice_split (λ (b : ℕ). b == sep) w ≡ w ∷ []
split_part sep [] h = refl
split_part sep (b ∷ bs) h = rw (h.0, split_part sep bs h.1) refl

pub split_parts : (sep : ℕ) (w rest : List ℕ) → IsPart sep w → slice_split (λ (b : ℕ). b == sep) (w ++ sep ∷ rest) ≡ w ∷ slice_split (λ (b : ℕ). b == sep) rest
split_parts sep [] rest h = rw (eq-eqb sep sep refl) refl
split_parts sep (b ∷ bs) rest h = rw (h.0, split_parts sep bs rest h.1) refl

-- a literal, which computes
pub literal_IsPart : (word : List ℕ) → list_all (λ b. nat_lt 10 b) word ≡ true → IsPart 10 word
literal_IsPart [] h = tt
literal_IsPart (b ∷ bs) h =
    let parts = and_parts (nat_lt 10 b) _ h in
    (ne_eqb b 10 (λ e. omega (arith, ltb-true 10 b parts.0)), literal_IsPart bs parts.1)

part_joined : (a b : List ℕ) → IsPart 10 a → IsPart 10 b → IsPart 10 (a ++ 32 ∷ b)
part_joined [] b here there = (refl, there)
part_joined (x ∷ xs) b here there = (here.0, part_joined xs b here.1 there)

graphic_IsPart : (w : List ℕ) → IsGraphic w → IsPart 10 w
graphic_IsPart [] h = tt
graphic_IsPart (b ∷ bs) h = (ne_eqb b 10 (λ e. omega (arith, h.0)), graphic_IsPart bs h.2)

-- a line of such words has no line feed
pub line_IsPart : (ws : List (List ℕ)) → AreGraphic ws → IsPart 10 (join_with_byte 32 ws)
line_IsPart [] h = tt
line_IsPart (w ∷ []) h = graphic_IsPart w h.0
line_IsPart (w ∷ x ∷ xs) h = part_joined w (join_with_byte 32 (x ∷ xs)) (graphic_IsPart w h.0) (line_IsPart (x ∷ xs) h.1)

-- ---- words

digits_graphic : (word : List ℕ) → AllDigits 10 word → IsGraphic word
digits_graphic [] h = tt
digits_graphic (d ∷ ds) h =
    let range = digit_from_value d h.0 in
    (omega (arith, range.0), omega (arith, range.1), digits_graphic ds h.1)

pub decimal_graphic : (n : ℕ) → n < 2 ^ 64 → IsGraphic (decimal n)
decimal_graphic n h = digits_graphic (decimal n) (digits_decimal own n h)

digits_IsPart : (word : List ℕ) → AllDigits 10 word → IsPart 47 word
digits_IsPart [] h = tt
digits_IsPart (d ∷ ds) h =
    let range = digit_from_value d h.0 in
    (ne_eqb d 47 (λ e. omega (arith, range.0)), digits_IsPart ds h.1)

pub decimal_IsPart : (n : ℕ) → n < 2 ^ 64 → IsPart 47 (decimal n)
decimal_IsPart n h = digits_IsPart (decimal n) (digits_decimal own n h)

pub literal_graphic : (word : List ℕ) → list_all (λ b. nat_lt 32 b && nat_lt b 128) word ≡ true → IsGraphic word
literal_graphic [] h = tt
literal_graphic (b ∷ bs) h =
    let parts = and_parts (nat_lt 32 b && nat_lt b 128) _ h in
    let ends = and_parts (nat_lt 32 b) (nat_lt b 128) parts.0 in
    (ltb-true 32 b ends.0, ltb-true b 128 ends.1, literal_graphic bs parts.1)

pub number_graphic : (number : Option ℕ) → IfSome number (λ n. n < 2 ^ 64) → IsGraphic (revision_word number)
number_graphic None h = (lit< tt, lit< tt, tt)
number_graphic (Some n) h = decimal_graphic n h

pub digits_lower_graphic : (bytes : List ℕ) → IsBytes bytes → IsGraphic (encode_lower bytes)
unfolding encode_with
digits_lower_graphic [] small = tt
digits_lower_graphic (b ∷ bs) small =
    let byte : b < 256 = small 0 in
    let high = lower_digit-above (b / 16) (omega arith) in
    let low = lower_digit-above (b % 16) (omega arith) in
    (high.0, high.1, (low.0, low.1, digits_lower_graphic bs (λ i. small (suc i))))

pub cause_graphic : (cause : Cause) → IsGraphic (cause_word cause)
cause_graphic causes.End = literal_graphic (codes "end") refl
cause_graphic causes.LinkFault = literal_graphic (codes "fault") refl
cause_graphic causes.FrameTooLong = literal_graphic (codes "toolong") refl
cause_graphic causes.Rejected = literal_graphic (codes "rejected") refl
cause_graphic causes.Kicked = literal_graphic (codes "kicked") refl
cause_graphic causes.Lagged = literal_graphic (codes "lagged") refl
cause_graphic causes.Memory = literal_graphic (codes "memory") refl

-- words joined by `/`
graphic_joined : (a b : List ℕ) → IsGraphic a → IsGraphic b → IsGraphic (a ++ 47 ∷ b)
graphic_joined [] b here there = (lit< tt, lit< tt, there)
graphic_joined (x ∷ xs) b here there = (here.0, here.1, graphic_joined xs b here.2 there)

pub slashed_graphic : (ws : List (List ℕ)) → AreGraphic ws → IsGraphic (join_with_byte 47 ws)
slashed_graphic [] h = tt
slashed_graphic (w ∷ []) h = h.0
slashed_graphic (w ∷ x ∷ xs) h = graphic_joined w (join_with_byte 47 (x ∷ xs)) h.0 (slashed_graphic (x ∷ xs) h.1)
