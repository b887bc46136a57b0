-- What is known after a reference that there may be.
use Rattle.mum_control.proofs.Common.{◌≡◌, Option, Some, None, Bor, refl, subst, IfSome, is_some, option_copied}

-- it is known of its copy
pub copied : {A : Type 0} (P : A → Type 0) (found : Option (Bor A)) (x : A) → IfSome found (λ r. P r.now) → option_copied found ≡ Some x → P x
copied {A} P None x all is = cc
copied {A} P (Some r) x all is = let same : r.now ≡ x = cc in subst P same all

-- there is a copy exactly where there is one
pub copied_is_some : {A : Type 0} (found : Option (Bor A)) → is_some found ≡ is_some (option_copied found)
copied_is_some {A} None = refl
copied_is_some {A} (Some r) = refl
