-- What is copied of an option that holds nothing.
use Rattle.mum_viewer.proofs.Common.{◌≡◌, Option, Some, None, refl, option_map}

pub no_copy : {X Y : Type 0} (f : X → Y) (o : Option X) → ((x : X) → o ≡ Some x → ⊥) → option_map f o ≡ None
no_copy f None never = refl
no_copy f (Some x) never = absurd (never x refl)
