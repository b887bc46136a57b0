-- The rule for texts, by what UTF-8 is.
use Rattle.mum_fields.proofs.Common.{◌≡◌, ℕ, List, Some, None, refl, IsUtf8, is_utf8, is_utf8-from_IsUtf8, IsUtf8-from_is_utf8, false_from_ne_true, BadText, fault, text}

pub text-read : (place : ℕ) (block : List ℕ) → IsUtf8 block → text place block ≡ None
text-read place block h = rw (is_utf8-from_IsUtf8 block h) refl

pub text-refused : (place : ℕ) (block : List ℕ) → (IsUtf8 block → ⊥) → text place block ≡ Some (fault BadText place)
text-refused place block h =
    let test = false_from_ne_true (is_utf8 block) (λ e. h (IsUtf8-from_is_utf8 block e)) in
    rw test refl
