-- What an owner is opened with.
use Rattle.std.specs.Prelude.{◌≡◌, ℕ, Bool, false, List, [], map, Option, None}
use Rattle.std.specs.Option.{option_map}
use Rattle.mum_outbox.specs.Facts.{QueueId}
use Rattle.mum_state.specs.State.{StateValue}
use Rattle.mum_doorway.specs.Asking.{new_doorway}
use Rattle.mum_doorway.specs.declared.opening.DoorOpening.{DoorOpening}
use Rattle.mum_control.specs.Facts.{ControlFacts}
use Rattle.mum_keeper.specs.Archive.{new_archive}
use Rattle.mum_owner.specs.{Bell.new_side, Facts.OwnerFacts, Guests.no_guests}
use Rattle.mum_owner.specs.declared.owner.OwnerOpening.{OwnerOpening}

abbrev pub opening_of : StateValue → DoorOpening → ℕ → Bool → OwnerOpening
opening_of state door connections journal =
    record { connections = connections; journal = journal; state = state; door = door }

-- the owner is new: it has the control owner and the door, keeps nothing, has no bans, and its bells are these queues, in
-- order, into which it has put nothing; so is the bell of the store, where there is one
abbrev pub IsOpened : {D L : Type 0} → ControlFacts → D → ℕ → Bool → List QueueId → Option QueueId → OwnerFacts D L
    → Type 0
IsOpened control door connections journal queues store owner =
    owner ≡ record {
      control = control;
      doorway = new_doorway door;
      guests = no_guests connections;
      bells = map new_side queues;
      kept = record { reply = None; lag = None; coming = None };
      desk = record { pass = owner.desk.pass; leave = None };
      logins = [];
      scribe = record { is_asked = journal; draft = None; entries = []; accepted = 0; no_memory = false };
      warden = record owner.warden { book = record { bans = []; reserved = None } };
      archive = option_map new_archive store;
      is_ending = false;
    }
