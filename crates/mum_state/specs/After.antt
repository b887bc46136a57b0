-- The state after a list of edits.
use Rattle.std.specs.Prelude.{ℕ, ◌&&◌, Bool, true, List, [], ◌∷◌, fold, take}
use Rattle.mum_state.specs.declared.edit.Edit.{Edit}
use Rattle.mum_state.specs.{Applied.applied, Fits.fits, State.StateValue, State.empty_state}

-- the state to which edits lead from another
abbrev pub led_to : StateValue → List Edit → StateValue
led_to state edits = fold applied state edits

-- the state to which edits lead from the empty one
abbrev pub after : List Edit → StateValue
after edits = led_to empty_state edits

-- the state after the first of the accepted edits, as many as this
abbrev pub at : StateValue → List Edit → ℕ → StateValue
at opening accepted revision = led_to opening (take revision accepted)

-- each edit fits at its place
abbrev pub all_fit : StateValue → List Edit → Bool
all_fit state [] = true
all_fit state (edit ∷ edits) = fits state edit && all_fit (applied state edit) edits
