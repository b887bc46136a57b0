-- The two values of a pair.
use Rattle.mum_config.proofs.Common.{◌≡◌, List, [], ◌∷◌, length, map, None, Some, refl, Data, as_array, items_view, view, Value, array_from, elements_in-items_view, pair_in, pair_of}

no_pair_in : (values : List Value) → (length values ≡ 2 → ⊥) → None ≡ pair_in (map view values)
no_pair_in [] other = refl
no_pair_in (a ∷ []) other = refl
no_pair_in (a ∷ b ∷ []) other = absurd (other refl)
no_pair_in (a ∷ b ∷ d ∷ values) other = refl

pub no_pair : (value : Data) (values : List Value) → Some (items_view values) ≡ as_array value → (length values ≡ 2 → ⊥) → None ≡ pair_of value
no_pair value values is other = rw (array_from value (items_view values) is, elements_in-items_view values) (no_pair_in values other)
