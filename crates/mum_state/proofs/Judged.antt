-- Whether something is found.
use Rattle.mum_state.proofs.Common.{◌≡◌, ◌||◌, Bool, true, false, cond, List, [], ◌∷◌, not, refl, sym, Option, Some, None, Bor, find, is_none, is_some, list_any, option_copied, false≢true}

pub copied_some : {X : Type 0} (o : Option (Bor X)) → is_some o ≡ is_some (option_copied o)
copied_some None = refl
copied_some (Some x) = refl

pub none_from : {X : Type 0} (b : Bool) (o : Option X) → not b ≡ is_some o → b ≡ is_none o
none_from true None is = refl
none_from true (Some x) is = absurd (false≢true is)
none_from false None is = absurd (false≢true (sym is))
none_from false (Some x) is = refl

-- something is found where something passes
pub some_any : {X : Type 0} (p : X → Bool) (xs : List X) → is_some (find p xs) ≡ list_any p xs
some_any p [] = refl
some_any {X} p (x ∷ xs) = step (p x) (some_any p xs)
  where
    step : (b : Bool) → is_some (find p xs) ≡ list_any p xs → is_some (cond b (Some x) (find p xs)) ≡ (b || list_any p xs)
    step true rest = refl
    step false rest = rest
