-- Runs in the order in which servers act.
use Rattle.std.specs.Prelude.{◌≡◌, ⊤, true, List, [], ◌∷◌, None, is_some}
use Rattle.mum_record.specs.declared.step.Step.{Step}
use Rattle.mum_record.specs.declared.step.Step.TheVariants.{Close, Edit, Frame, Tell}
use Rattle.mum_core.specs.declared.connection.Leave.TheVariants.{Stays}
use Rattle.mum_core.specs.{Connection.next_of_frame, Core.CoreState, Core.connection_at, Core.worker_at, Step.does}
use Rattle.mum_core.specs.steps.Tell.{has_edit}

-- a connection that is to leave takes no frame, its leave is decided when it is closed, whoever hears of an accepted edit
-- is notified of a revision, and no connection closes while its worker holds a packet
abbrev pub IsOrderly : CoreState → Step → Type 0
IsOrderly core (Frame c bytes) = (connection_at core c).leave ≡ Stays
IsOrderly core (Edit c) = next_of_frame (connection_at core c) ≡ None → is_some (connection_at core c).closed ≡ true
IsOrderly core (Tell c revision) = has_edit (connection_at core c).decided ≡ true → is_some revision ≡ true
IsOrderly core (Close c cause) = (worker_at core (connection_at core c).worker).held ≡ None
IsOrderly core step = ⊤

-- each step of a run is so where it comes
abbrev pub AreOrderly : CoreState → List Step → Type 0
AreOrderly core [] = ⊤
AreOrderly core (step ∷ steps) = IsOrderly core step × AreOrderly (does core step) steps
