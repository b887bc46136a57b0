-- The four parts of what fits.
use Rattle.mum_state.proofs.Common.{◌≡◌, ◌&&◌, Bool, true, and_from, and_parts, Edit, fits, gives_right_numbers, is_countable, sets_properly, names_there, StateValue}

-- each part of what fits holds
pub record FitsByParts (state : StateValue) (edit : Edit) : Type 0 where
  pub named : names_there state edit ≡ true
  pub numbers : gives_right_numbers state edit ≡ true
  pub sets : sets_properly state edit ≡ true
  pub countable : is_countable state edit ≡ true

record AllFour (a b c d : Bool) : Type 0 where
  first : a ≡ true
  second : b ≡ true
  third : c ≡ true
  fourth : d ≡ true

four_parts : (a b c d : Bool) → (a && b && c && d) ≡ true → AllFour a b c d
four_parts a b c d all =
    let abc = and_parts (a && b && c) d all in
    let ab = and_parts (a && b) c abc.0 in
    let parts = and_parts a b ab.0 in
    record { first = parts.0; second = parts.1; third = ab.1; fourth = abc.1 }

four_from : (a b c d : Bool) → AllFour a b c d → (a && b && c && d) ≡ true
four_from a b c d all = and_from (a && b && c) d (and_from (a && b) c (and_from a b all.first all.second) all.third) all.fourth

pub fit_parts : (state : StateValue) (edit : Edit) → fits state edit ≡ true → FitsByParts state edit
fit_parts state edit fit =
    let parts = four_parts (names_there state edit) (gives_right_numbers state edit) (sets_properly state edit) (is_countable state edit) fit in
    record { named = parts.first; numbers = parts.second; sets = parts.third; countable = parts.fourth }

pub fit_from : (state : StateValue) (edit : Edit) → FitsByParts state edit → fits state edit ≡ true
fit_from state edit parts =
    four_from (names_there state edit) (gives_right_numbers state edit) (sets_properly state edit) (is_countable state edit)
    (record { first = parts.named; second = parts.numbers; third = parts.sets; fourth = parts.countable })
