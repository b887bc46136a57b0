-- What the end of a walk makes of its set.
use Rattle.mum_policy.proofs.Common.{◌≡◌, ℕ, ◌&&◌, ◌||◌, Bool, true, false, not, min, max, bit_and, bit_or, w32, refl, sym, ap, ◌∙◌, arith, if◌then◌else◌, bit_at, bit_not, and_zero_r, true≢false, and_assoc, bit_at_and, bit_at_or, same_from_bits, Holds, without_bits, ALL, BY_WRITE, ROOT_ONLY, SPEAK, WHISPER, WRITE, finished, full_set, holds, IsPermission, NothingElseIsTaken, WriteAddsTheRest}
use Rattle.mum_policy.proofs.Bits.{holds_and, holds_none, holds_or, holds_without}

-- ---- one permission

or_false : (b : Bool) → b ≡ (b || false)
or_false true = refl
or_false false = refl

and_true : (b : Bool) → (b && true) ≡ b
and_true true = refl
and_true false = refl

turned : (a b : Bool) → (a && b) ≡ (b && a)
turned true true = refl
turned true false = refl
turned false true = refl
turned false false = refl

-- Write brings the full set along
brought : (root : Bool) (set p : ℕ) → IsPermission p
    → holds (if holds set WRITE.0 then bit_or set (full_set root) else set) p ≡ (holds set p || (holds set WRITE.0 && holds (full_set root) p))
brought root set p is = elim (holds set WRITE.0) as (λ w. holds (if w then bit_or set (full_set root) else set) p ≡ (holds set p || (w && holds (full_set root) p))) [
  | true ↦ holds_or set (full_set root) p is
  | false ↦ or_false (holds set p)
]

pub finished_holds : (root : Bool) (set p : ℕ) → IsPermission p
    → holds (finished root set) p ≡ ((root || not (holds ROOT_ONLY.0 p)) && (holds set p || (holds set WRITE.0 && holds (full_set root) p)))
finished_holds true set p is = brought true set p is
finished_holds false set p is =
    holds_without (if holds set WRITE.0 then bit_or set (full_set false) else set) ROOT_ONLY.0 p (omega arith) is
    ∙ turned (holds (if holds set WRITE.0 then bit_or set (full_set false) else set) p) (not (holds ROOT_ONLY.0 p))
    ∙ ap (λ (b : Bool). not (holds ROOT_ONLY.0 p) && b) (brought false set p is)

-- nothing of the root comes with Write elsewhere
apart : (p : ℕ) → IsPermission p → (holds BY_WRITE.0 p && holds ROOT_ONLY.0 p) ≡ false
apart p is = sym (holds_and BY_WRITE.0 ROOT_ONLY.0 p is) ∙ holds_none p is

elsewhere : (of_root by_write writes : Bool) → (by_write && of_root) ≡ false → (not of_root && (writes && by_write)) ≡ (writes && (by_write || false))
elsewhere true true writes e = absurd (true≢false e)
elsewhere true false true e = refl
elsewhere true false false e = refl
elsewhere false true true e = refl
elsewhere false true false e = refl
elsewhere false false true e = refl
elsewhere false false false e = refl

pub write_adds : WriteAddsTheRest
write_adds true set p is lacks =
    finished_holds true set p is ∙ ap (λ (b : Bool). b || (holds set WRITE.0 && holds (full_set true) p)) lacks
    ∙ ap (λ (b : Bool). holds set WRITE.0 && b) (holds_or BY_WRITE.0 ROOT_ONLY.0 p is)
write_adds false set p is lacks =
    finished_holds false set p is
    ∙ ap (λ (b : Bool). not (holds ROOT_ONLY.0 p) && (b || (holds set WRITE.0 && holds (full_set false) p))) lacks
    ∙ elsewhere (holds ROOT_ONLY.0 p) (holds BY_WRITE.0 p) (holds set WRITE.0) (apart p is)

pub nothing_taken : NothingElseIsTaken
nothing_taken root set p is has =
    finished_holds root set p is
    ∙ ap (λ (b : Bool). (root || not (holds ROOT_ONLY.0 p)) && (b || (holds set WRITE.0 && holds (full_set root) p))) has
    ∙ and_true (root || not (holds ROOT_ONLY.0 p))

-- ---- within all permissions

within_both : (m x y : ℕ) → min m x ≡ x → min m y ≡ y → min m (max x y) ≡ max x y
within_both m x y e f = grind arith

pub known_or : (m a b : ℕ) → Holds m a → Holds m b → Holds m (bit_or a b)
known_or m a b ha hb =
    same_from_bits (bit_and m (bit_or a b)) (bit_or a b)
    (λ i. bit_at_and m (bit_or a b) i ∙ ap (λ (n : ℕ). min (bit_at m i) n) (bit_at_or a b i)
    ∙ within_both (bit_at m i) (bit_at a i) (bit_at b i) (sym (bit_at_and m a i) ∙ ap (λ (n : ℕ). bit_at n i) ha) (sym (bit_at_and m b i) ∙ ap (λ (n : ℕ). bit_at n i) hb)
    ∙ sym (bit_at_or a b i))

pub known_and : (m a b : ℕ) → Holds m a → Holds m (bit_and a b)
known_and m a b ha = sym (and_assoc b m a) ∙ ap (λ (n : ℕ). bit_and n b) ha

pub known_full : (root : Bool) → Holds ALL.0 (full_set root)
known_full true = refl
known_full false = refl

known_brought : (root : Bool) (set : ℕ) → Holds ALL.0 set → Holds ALL.0 (if holds set WRITE.0 then bit_or set (full_set root) else set)
known_brought root set h = elim (holds set WRITE.0) as (λ w. Holds ALL.0 (if w then bit_or set (full_set root) else set)) [
  | true ↦ known_or ALL.0 set (full_set root) h (known_full root)
  | false ↦ h
]

pub known_finished : (root : Bool) (set : ℕ) → Holds ALL.0 set → Holds ALL.0 (finished root set)
known_finished true set h = known_brought true set h
known_finished false set h = known_and ALL.0 (if holds set WRITE.0 then bit_or set (full_set false) else set) (bit_not w32 ROOT_ONLY.0) (known_brought false set h)

-- ---- off the root

pub none_elsewhere : (set : ℕ) → bit_and (finished false set) ROOT_ONLY.0 ≡ 0
none_elsewhere set =
    let held : ℕ = (if holds set WRITE.0 then bit_or set (full_set false) else set) in
    and_assoc ROOT_ONLY.0 held (bit_not w32 ROOT_ONLY.0) ∙ and_zero_r held

-- ---- SuperUser

pub all_but_voice : (root : Bool) → full_set root ≡ without_bits (if root then ALL.0 else without_bits ALL.0 ROOT_ONLY.0) (bit_or SPEAK.0 WHISPER.0)
all_but_voice true = refl
all_but_voice false = refl
