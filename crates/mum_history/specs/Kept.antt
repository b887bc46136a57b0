-- What a history keeps true of its fields.
use Rattle.std.specs.Prelude.{◌≡◌, ℕ, ◌≤◌, List, length, IsTrue}
use Rattle.mum_state.specs.declared.edit.Edit.{Edit}
use Rattle.mum_state.specs.{After.all_fit, After.led_to, State.StateValue}

pub record IsKept (opening : StateValue) (accepted : List Edit) (published : ℕ) (current : StateValue) : Type 0 where
  pub fitted : IsTrue (all_fit opening accepted)
  pub published_accepted : published ≤ length accepted
  pub current_led : current ≡ led_to opening accepted
