-- A door in memory: what it has, what its calls answer, and what they leave.
use Rattle.std.specs.Prelude.{ℕ, Bool, List, [], ◌∷◌, Option, Some, None, if◌then◌else◌}
use Rattle.mum_io.specs.{Counts.Counts, Counts.next_count, Counts.no_counts, Door.DoorFacts, Door.given_after}
use Rattle.mum_io.specs.MemLink.{LinkState}
use Rattle.mum_io.specs.declared.{door.Accept.Accept, door.DoorOpen.DoorOpen, memory.door.DoorEvent.DoorEvent}
use Rattle.mum_io.specs.declared.memory.door.DoorEvent.TheVariants.{Conn, NotYet, Fail}
use Rattle.mum_io.specs.declared.door.Accept.TheVariants as accepted
use Rattle.mum_io.specs.declared.door.DoorOpen.TheVariants as opening

pub record DoorState : Type 0 where
  pub events : List DoorEvent
  -- whether it can be opened
  pub opens : Bool
  pub opened_at : Option (List ℕ)
  pub counts : Counts
  -- how many connections it gave
  pub given : ℕ
  -- how many openings ran out of memory
  pub starved : ℕ

abbrev pub new_door : List DoorEvent → Bool → DoorState
new_door events opens =
    record { events = events; opens = opens; opened_at = None; counts = no_counts; given = 0; starved = 0 }

-- all is known of a door in memory
abbrev pub door_facts : DoorState → DoorFacts
door_facts door = record { counts = door.counts; given = door.given; opened_at = door.opened_at }

-- an opening that failed although the door can be opened ran out of memory
abbrev pub after_open : DoorState → List ℕ → DoorOpen → DoorState
after_open door address opening.Opened = record door { opened_at = Some address }
after_open door address opening.Failed = record door {
  counts = record door.counts { faults = next_count door.counts.faults };
  starved = if door.opens then next_count door.starved else door.starved;
}

-- what the first event answers
abbrev pub accept_answer : List DoorEvent → Accept LinkState
accept_answer [] = accepted.End
accept_answer (Conn link ∷ events) = accepted.Conn link
accept_answer (NotYet ∷ events) = accepted.NotYet
accept_answer (Fail ∷ events) = accepted.Failed

abbrev pub events_behind : List DoorEvent → List DoorEvent
events_behind [] = []
events_behind (event ∷ events) = events

abbrev pub counts_after : Accept LinkState → Counts → Counts
counts_after (accepted.Conn link) counts = counts
counts_after accepted.NotYet counts = record counts { stalls = next_count counts.stalls }
counts_after accepted.End counts = record counts { ends = next_count counts.ends }
counts_after accepted.Failed counts = record counts { faults = next_count counts.faults }

abbrev pub after_accept : DoorState → Accept LinkState → DoorState
after_accept door answer = record door {
  events = events_behind door.events;
  counts = counts_after answer door.counts;
  given = given_after answer door.given;
}
