-- Options that are there, or not.
use Rattle.mum_recording_laws.proofs.Common.{◌≡◌, Option, Some, None, refl, sym, true, false, is_some, option_map, false≢true}

pub none_there : {A : Type 0} (o : Option A) → is_some o ≡ false → o ≡ None
none_there None is = refl
none_there (Some one) is = absurd (false≢true (sym is))

pub some_there : {A : Type 0} (o : Option A) → is_some o ≡ true → (one : A) × (o ≡ Some one)
some_there None is = absurd (false≢true is)
some_there (Some one) is = (one, refl)

pub same_some : {A : Type 0} (one other : A) → Some one ≡ Some other → one ≡ other
same_some one other is = cc

pub none_some : {A : Type 0} (o : Option A) (one : A) → o ≡ None → o ≡ Some one → ⊥
none_some o one none some = cc

pub some_mapped : {A B : Type 0} (f : A → B) (o : Option A) → is_some o ≡ true → option_map f o ≡ None → ⊥
some_mapped f None some none = false≢true some
some_mapped f (Some one) some none = cc
