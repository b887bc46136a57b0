-- What a run of a server has to be for the journal that it leaves.
use Rattle.std.specs.Prelude.{◌≡◌, ℕ, true, List}
use Rattle.mum_state.specs.State.{StateValue}
use Rattle.mum_opening.specs.Opening.{greatest_limits, opening}
use Rattle.mum_serve.specs.Asked.{Service}

-- the journal was asked for, and the server began as its document says
pub record KeepsJournal (asked : Service) (state : StateValue) (document : List ℕ) : Type 0 where
  pub asked_for : asked.journal ≡ true
  pub began : state ≡ opening greatest_limits document
