-- The status of each end of a run that serves.
use Rattle.mum_server.proofs.Common.{◌≡◌, ◌∙◌, ◌⊎◌, ℕ, List, Option, inl, inr, sym, refl, arith, ServerEnd, status_of, Reports, ServerReports, End, Faulty, Finished, OutOfMemory, ReadFault, WriteFault, BadConfig}
use Rattle.mum_serve.specs.declared.program.ServerEnd.TheVariants as ends

-- the status that is an end's own
abbrev own_status : ServerEnd → ℕ
own_status ends.Finished = 0
own_status (ends.BadConfig code key) = 6
own_status ends.ReadFault = 3
own_status ends.WriteFault = 4
own_status ends.DoorFault = 8
own_status ends.CrewFault = 9
own_status ends.KeeperFault = 12
own_status ends.BadStore = 13
own_status ends.OutOfMemory = 70

-- it is what is answered, or memory ran out for its line
reported : (end : End) (status : ℕ) (old new : Option (List ℕ)) (failed : Type 0) → Reports end status old new failed → (status ≡ status_of end) ⊎ (status ≡ 70)
reported end status old new failed (inl told) = inl told.0
reported end status old new failed (inr told) = inr told.1

own_or_memory : (end : ServerEnd) (status : ℕ) (old new : Option (List ℕ)) (failed : Type 0) → ServerReports end status old new failed → (status ≡ own_status end) ⊎ (status ≡ 70)
own_or_memory ends.Finished status old new failed told = reported Finished status old new failed told
own_or_memory (ends.BadConfig code key) status old new failed told = reported (Faulty 1 (BadConfig code key)) status old new failed told
own_or_memory ends.ReadFault status old new failed told = reported ReadFault status old new failed told
own_or_memory ends.WriteFault status old new failed told = reported WriteFault status old new failed told
own_or_memory ends.DoorFault status old new failed told = inl told.0
own_or_memory ends.CrewFault status old new failed told = inl told.0
own_or_memory ends.KeeperFault status old new failed told = inl told.0
own_or_memory ends.BadStore status old new failed told = inl told.0
own_or_memory ends.OutOfMemory status old new failed told = reported OutOfMemory status old new failed told

own_is : (own status wanted : ℕ) → (status ≡ own) ⊎ (status ≡ 70) → status ≡ wanted → (70 ≡ wanted → ⊥) → own ≡ wanted
own_is own status wanted (inl same) is other = sym same ∙ is
own_is own status wanted (inr memory) is other = absurd (other (sym memory ∙ is))

-- status 5 is that of no end
no_five : (end : ServerEnd) → own_status end ≡ 5 → ⊥
no_five ends.Finished is = omega (arith, is)
no_five (ends.BadConfig code key) is = omega (arith, is)
no_five ends.ReadFault is = omega (arith, is)
no_five ends.WriteFault is = omega (arith, is)
no_five ends.DoorFault is = omega (arith, is)
no_five ends.CrewFault is = omega (arith, is)
no_five ends.KeeperFault is = omega (arith, is)
no_five ends.BadStore is = omega (arith, is)
no_five ends.OutOfMemory is = omega (arith, is)

pub never_five : (end : ServerEnd) (status : ℕ) (old new : Option (List ℕ)) (failed : Type 0) → ServerReports end status old new failed → status ≡ 5 → ⊥
never_five end status old new failed told is =
    no_five end (own_is (own_status end) status 5 (own_or_memory end status old new failed told) is (λ same. omega (arith, same)))

-- status 12 is that of a keeper that failed alone
at_twelve : (end : ServerEnd) → own_status end ≡ 12 → end ≡ ends.KeeperFault
at_twelve ends.Finished is = absurd (omega (arith, is))
at_twelve (ends.BadConfig code key) is = absurd (omega (arith, is))
at_twelve ends.ReadFault is = absurd (omega (arith, is))
at_twelve ends.WriteFault is = absurd (omega (arith, is))
at_twelve ends.DoorFault is = absurd (omega (arith, is))
at_twelve ends.CrewFault is = absurd (omega (arith, is))
at_twelve ends.KeeperFault is = refl
at_twelve ends.BadStore is = absurd (omega (arith, is))
at_twelve ends.OutOfMemory is = absurd (omega (arith, is))

pub fails_at_twelve : (end : ServerEnd) (status : ℕ) (old new : Option (List ℕ)) (failed : Type 0) → ServerReports end status old new failed → status ≡ 12 → end ≡ ends.KeeperFault
fails_at_twelve end status old new failed told is =
    at_twelve end (own_is (own_status end) status 12 (own_or_memory end status old new failed told) is (λ same. omega (arith, same)))

-- status 13 is that of bad rows alone
at_thirteen : (end : ServerEnd) → own_status end ≡ 13 → end ≡ ends.BadStore
at_thirteen ends.Finished is = absurd (omega (arith, is))
at_thirteen (ends.BadConfig code key) is = absurd (omega (arith, is))
at_thirteen ends.ReadFault is = absurd (omega (arith, is))
at_thirteen ends.WriteFault is = absurd (omega (arith, is))
at_thirteen ends.DoorFault is = absurd (omega (arith, is))
at_thirteen ends.CrewFault is = absurd (omega (arith, is))
at_thirteen ends.KeeperFault is = absurd (omega (arith, is))
at_thirteen ends.BadStore is = refl
at_thirteen ends.OutOfMemory is = absurd (omega (arith, is))

pub bad_at_thirteen : (end : ServerEnd) (status : ℕ) (old new : Option (List ℕ)) (failed : Type 0) → ServerReports end status old new failed → status ≡ 13 → end ≡ ends.BadStore
bad_at_thirteen end status old new failed told is =
    at_thirteen end (own_is (own_status end) status 13 (own_or_memory end status old new failed told) is (λ same. omega (arith, same)))
