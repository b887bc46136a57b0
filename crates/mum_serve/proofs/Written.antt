-- What is written of a run that came to its end, with a journal or without one.
use Rattle.mum_serve.proofs.Common.{◌≡◌, ℕ, ◌≤◌, Bool, true, false, List, length, Option, Result, Ok, Err, OnOk, OnErr, is_err, inl, inr, refl, arith, CrewCounts, Rose, Appends, LinkFacts, DoorFacts, KeeperFacts, IsWritableJournal, Lent, Service, AreWritable, journal_of, EndsWith, HasServed, RunsInCrew, WritesCounted, WritesText, written, written_of, Entries, Input, ServerEnd, Summary}
use Rattle.mum_serve.specs.declared.program.ServerEnd.TheVariants as ends

-- ---- the journal

-- the journal of a server has lines
pub is_writable : (workers : ℕ) (document : List ℕ) (entries : Entries) → 1 ≤ workers → workers ≤ 8 → length entries.by_worker ≡ workers → AreWritable entries
    → IsWritableJournal (journal_of workers document entries)
is_writable workers document entries least greatest lists writable = record {
  least = least;
  greatest = greatest;
  lists = lists;
  limits = (omega arith, omega arith, omega arith, omega arith);
  controls = writable.controls;
  entries = writable.by_worker;
}

-- ---- what is written

-- what an answer says that is no error, or one
pub ok_of : {X E : Type 0} {A : Type 0} (answer : Result X E) → is_err answer ≡ false → OnOk answer A → A
ok_of (Ok x) no_error so = so
ok_of (Err error) no_error so = absurd (cc)

pub err_of : {X E : Type 0} {A : Type 0} (answer : Result X E) → is_err answer ≡ true → OnErr answer A → A
err_of (Ok x) is_error so = absurd (cc)
err_of (Err error) is_error so = so

-- the text was written whole
pub all_written : (text : List ℕ) (summary : Summary) (end : ServerEnd) (old new : Option (List ℕ)) → end ≡ written_of summary → Appends old new text → WritesText text summary end old new
all_written text summary end old new is whole = step summary.no_memory summary.door_failed summary.keeper_failed refl refl refl is
  where
    step : (no_memory door_failed keeper_failed : Bool) → summary.no_memory ≡ no_memory → summary.door_failed ≡ door_failed → summary.keeper_failed ≡ keeper_failed → end ≡ written no_memory door_failed keeper_failed
        → WritesText text summary end old new
    step true door_failed keeper_failed memory door keeper ends_so = rw ends_so (inr (memory, whole))
    step false true keeper_failed memory door keeper ends_so = rw ends_so (memory, door, whole)
    step false false true memory door keeper ends_so = rw ends_so (memory, door, keeper, whole)
    step false false false memory door keeper ends_so = rw ends_so (memory, door, keeper, whole)

pub no_more_writes : (summary : Summary) (end : ServerEnd) (old new : ℕ) → end ≡ written_of summary → new ≡ old → WritesCounted end old new
no_more_writes summary end old new is same = step summary.no_memory summary.door_failed summary.keeper_failed is
  where
    step : (no_memory door_failed keeper_failed : Bool) → end ≡ written no_memory door_failed keeper_failed → WritesCounted end old new
    step true door_failed keeper_failed ends_so = rw ends_so same
    step false true keeper_failed ends_so = rw ends_so same
    step false false true ends_so = rw ends_so same
    step false false false ends_so = rw ends_so same

-- ---- how such a run ends

-- the roles have run
pub all_run : (text : List ℕ) (summary : Summary) (end : ServerEnd) (old new : Option (List ℕ)) (before after : CrewCounts) → WritesText text summary end old new → Rose before.runs after.runs
    → RunsInCrew end before after
all_run text summary ends.Finished old new before after writes rose = rose
all_run text summary ends.CrewFault old new before after writes rose = absurd writes
all_run text summary (ends.BadConfig code key) old new before after writes rose = tt
all_run text summary ends.ReadFault old new before after writes rose = tt
all_run text summary ends.WriteFault old new before after writes rose = rose
all_run text summary ends.DoorFault old new before after writes rose = tt
all_run text summary ends.KeeperFault old new before after writes rose = tt
all_run text summary ends.BadStore old new before after writes rose = tt
all_run text summary ends.OutOfMemory old new before after writes rose = tt

module _ {D K P L : Type 0} (facts : L → LinkFacts) (door_facts : D → DoorFacts) (last calls : K → ℕ) (keeper_facts : P → KeeperFacts) where
  -- where all were served the run ends so
  pub all_served : (asked : Service) (input : Input) (end : ServerEnd) (objects left : Lent D K P) (old new : Option (List ℕ)) (before after : CrewCounts)
      → HasServed facts door_facts last calls keeper_facts asked input end objects left old new before after → EndsWith facts door_facts last calls keeper_facts asked input end objects left old new before after
  all_served asked input ends.Finished objects left old new before after served = served
  all_served asked input ends.CrewFault objects left old new before after served = absurd served.writes
  all_served asked input (ends.BadConfig code key) objects left old new before after served = served
  all_served asked input ends.ReadFault objects left old new before after served = served
  all_served asked input ends.WriteFault objects left old new before after served = served
  all_served asked input ends.DoorFault objects left old new before after served = inl served
  all_served asked input ends.KeeperFault objects left old new before after served = inl served
  all_served asked input ends.BadStore objects left old new before after served = absurd served.writes
  all_served asked input ends.OutOfMemory objects left old new before after served = inl served
