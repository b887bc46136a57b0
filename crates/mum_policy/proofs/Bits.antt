-- Which single permissions a set holds.
use Rattle.mum_policy.proofs.Common.{◌≡◌, ℕ, zero, suc, ◌-◌, ◌*◌, ◌^◌, ◌<◌, ◌==◌, ◌&&◌, ◌||◌, Bool, false, not, min, max, refl, sym, ap, ◌∙◌, bit_and, bit_or, w32, arith, bit_at, bit_not, eq-eqb, ne_eqb, and_pow, bit_at_and, bit_at_or, bit_at_not, bit_at-lt, bit_at-zero, without_bits, holds, IsPermission}

-- ---- one bit

set_bit : (bit pow : ℕ) → bit < 2 → 0 < pow → (bit * pow == pow) ≡ (bit == 1)
set_bit zero pow small some = ne_eqb (zero * pow) pow (λ e. omega (arith, e))
set_bit (suc zero) pow small some = eq-eqb (suc zero * pow) pow (omega arith)
set_bit (suc (suc bit)) pow small some = absurd (omega (arith, small))

pow_positive : (n : ℕ) → 0 < 2 ^ n
pow_positive zero = omega arith
pow_positive (suc n) = let below : 0 < 2 ^ n = pow_positive n in omega arith

-- a set holds a permission where the bit is set
pub holds_bit : (set n : ℕ) → holds set (2 ^ n) ≡ (bit_at set n == 1)
holds_bit set n = rw (and_pow set n) (set_bit (bit_at set n) (2 ^ n) (bit_at-lt set n) (pow_positive n))

max_is_or : (x y : ℕ) → x < 2 → y < 2 → (max x y == 1) ≡ ((x == 1) || (y == 1))
max_is_or zero zero a b = refl
max_is_or zero (suc zero) a b = refl
max_is_or (suc zero) zero a b = refl
max_is_or (suc zero) (suc zero) a b = refl
max_is_or (suc (suc x)) y a b = absurd (omega (arith, a))
max_is_or zero (suc (suc y)) a b = absurd (omega (arith, b))
max_is_or (suc zero) (suc (suc y)) a b = absurd (omega (arith, b))

min_is_and : (x y : ℕ) → x < 2 → y < 2 → (min x y == 1) ≡ ((x == 1) && (y == 1))
min_is_and zero zero a b = refl
min_is_and zero (suc zero) a b = refl
min_is_and (suc zero) zero a b = refl
min_is_and (suc zero) (suc zero) a b = refl
min_is_and (suc (suc x)) y a b = absurd (omega (arith, a))
min_is_and zero (suc (suc y)) a b = absurd (omega (arith, b))
min_is_and (suc zero) (suc (suc y)) a b = absurd (omega (arith, b))

flipped_is_not : (y : ℕ) → y < 2 → (1 - y == 1) ≡ not (y == 1)
flipped_is_not zero b = refl
flipped_is_not (suc zero) b = refl
flipped_is_not (suc (suc y)) b = absurd (omega (arith, b))

-- ---- sets

or_bit : (a b n : ℕ) → holds (bit_or a b) (2 ^ n) ≡ (holds a (2 ^ n) || holds b (2 ^ n))
or_bit a b n =
    holds_bit (bit_or a b) n ∙ ap (λ (bit : ℕ). bit == 1) (bit_at_or a b n)
    ∙ max_is_or (bit_at a n) (bit_at b n) (bit_at-lt a n) (bit_at-lt b n)
    ∙ ap (λ (t : Bool). t || (bit_at b n == 1)) (sym (holds_bit a n)) ∙ ap (λ (t : Bool). holds a (2 ^ n) || t) (sym (holds_bit b n))

and_bit : (a b n : ℕ) → holds (bit_and a b) (2 ^ n) ≡ (holds a (2 ^ n) && holds b (2 ^ n))
and_bit a b n =
    holds_bit (bit_and a b) n ∙ ap (λ (bit : ℕ). bit == 1) (bit_at_and a b n)
    ∙ min_is_and (bit_at a n) (bit_at b n) (bit_at-lt a n) (bit_at-lt b n)
    ∙ ap (λ (t : Bool). t && (bit_at b n == 1)) (sym (holds_bit a n)) ∙ ap (λ (t : Bool). holds a (2 ^ n) && t) (sym (holds_bit b n))

not_bit : (b n : ℕ) → b < 2 ^ 32 → n < 32 → holds (bit_not w32 b) (2 ^ n) ≡ not (holds b (2 ^ n))
not_bit b n fits below =
    holds_bit (bit_not w32 b) n ∙ ap (λ (bit : ℕ). bit == 1) (bit_at_not w32 b n fits below)
    ∙ flipped_is_not (bit_at b n) (bit_at-lt b n) ∙ ap not (sym (holds_bit b n))

pub holds_or : (a b p : ℕ) → IsPermission p → holds (bit_or a b) p ≡ (holds a p || holds b p)
holds_or a b p (n, below, is) = rw is (or_bit a b n)

pub holds_and : (a b p : ℕ) → IsPermission p → holds (bit_and a b) p ≡ (holds a p && holds b p)
holds_and a b p (n, below, is) = rw is (and_bit a b n)

pub holds_without : (a b p : ℕ) → b < 2 ^ 32 → IsPermission p → holds (without_bits a b) p ≡ (holds a p && not (holds b p))
holds_without a b p fits (n, below, is) =
    rw is (and_bit a (bit_not w32 b) n ∙ ap (λ (t : Bool). holds a (2 ^ n) && t) (not_bit b n fits below))

pub holds_none : (p : ℕ) → IsPermission p → holds 0 p ≡ false
holds_none p (n, below, is) = rw is (holds_bit 0 n ∙ ap (λ (bit : ℕ). bit == 1) (bit_at-zero n))
