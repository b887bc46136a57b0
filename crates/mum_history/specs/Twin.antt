-- What an edit is to a state and the next one.
use Rattle.std.specs.Prelude.{◌≡◌, IsTrue}
use Rattle.mum_state.specs.declared.edit.Edit.{Edit}
use Rattle.mum_state.specs.{Applied.applied, Fits.fits, State.StateValue}

-- the edit fits the state, and leads from it to the next one
pub record LeadsTo (next state : StateValue) (edit : Edit) : Type 0 where
  pub fitting : IsTrue (fits state edit)
  pub leading : next ≡ applied state edit
