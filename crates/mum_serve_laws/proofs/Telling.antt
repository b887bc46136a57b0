-- What clients of a run were sent is by the rules, and holds from then on.
use Rattle.mum_serve_laws.proofs.Common.{ℕ, ◌+◌, List, [], ◌∷◌, Option, All, AllByRecursion, AllPairs, AllZip, flat_map, All-append, All-nil, IsPrefix, TurnsLead, TurnsTo, Turn, DoorFacts, LinkFacts, KeeperFacts, KeptRows, prefix_trans, Opening, PassFacts, PublisherFacts, Service, closing_room, AreWithin, AreOpenedFrom, fresh_pass, HasRun, Objects, Entries, Summary, StateValue, Edit, WorkerFacts, HasOpened, WorkerTurned, HoldsFor, IsTold, history, takes_in, AreTold, edits_of_run, moments_of_each}
use Rattle.mum_worker_laws.specs.Laws.{Take}
use Rattle.mum_serve_laws.proofs.Running.{list_is}

module _ {L : Type 0} (facts : L → LinkFacts) (opening : Opening) where
  -- of each worker, what its ports took is reported of what it knows
  abbrev pub KnowsTakes : Type 0
  KnowsTakes = (number : ℕ) (pass : PassFacts) (journal : Option ℕ) (opened worker : WorkerFacts L) (turns : List Turn) → HasOpened number pass journal opened
      → (all : TurnsTo (WorkerTurned facts opening) opened turns worker)
      → All (IsTold opening worker.common.router.pass.known) (takes_in (history facts opening opened turns worker all))

  -- and holds from then on
  abbrev pub HoldsTakes : Type 0
  HoldsTakes = (number : ℕ) (pass : PassFacts) (journal : Option ℕ) (opened worker : WorkerFacts L) (turns : List Turn) → HasOpened number pass journal opened
      → (all : TurnsTo (WorkerTurned facts opening) opened turns worker) → AllPairs HoldsFor (history facts opening opened turns worker all)

  told_on : (known list : List Edit) → IsPrefix known list → (takes : List Take) → All (IsTold opening known) takes → All (IsTold opening list) takes
  told_on known list front takes told k d within =
      let one = told k d within in record { rules = one.rules; begins = prefix_trans _ known list one.begins front }

  all_told : KnowsTakes → (publisher : PublisherFacts) (list : List Edit) → IsPrefix publisher.published list → (closings : Option ℕ) (number : ℕ) (olds news : List (WorkerFacts L))
      → AreOpenedFrom opening closings number olds → (led : AllZip (TurnsLead (WorkerTurned facts opening)) olds news) → AreWithin publisher news
      → All (IsTold opening list) (flat_map takes_in (moments_of_each facts opening olds news led))
  all_told knows publisher list front closings number [] [] begins led within = All-nil (IsTold opening list)
  all_told knows publisher list front closings number [] (new ∷ news) begins led within = absurd led
  all_told knows publisher list front closings number (old ∷ olds) [] begins led within = absurd led
  all_told knows publisher list front closings number (old ∷ olds) (new ∷ news) begins led within =
      let took = takes_in (history facts opening old led.0.0 new led.0.1) in
      All-append (IsTold opening list) took (flat_map takes_in (moments_of_each facts opening olds news led.1))
      (told_on new.common.router.pass.known list (prefix_trans new.common.router.pass.known publisher.published list within.0.known front) took
      (knows number (fresh_pass opening) closings old new led.0.0 begins.0.opened led.0.1))
      (all_told knows publisher list front closings (number + 1) olds news begins.1 led.1 within.1)

  all_hold : HoldsTakes → (closings : Option ℕ) (number : ℕ) (olds news : List (WorkerFacts L)) → AreOpenedFrom opening closings number olds
      → (led : AllZip (TurnsLead (WorkerTurned facts opening)) olds news) → AllByRecursion (AllPairs HoldsFor) (moments_of_each facts opening olds news led)
  all_hold holds closings number [] [] begins led = tt
  all_hold holds closings number [] (new ∷ news) begins led = absurd led
  all_hold holds closings number (old ∷ olds) [] begins led = absurd led
  all_hold holds closings number (old ∷ olds) (new ∷ news) begins led =
      (holds number (fresh_pass opening) closings old new led.0.0 begins.0.opened led.0.1, all_hold holds closings (number + 1) olds news begins.1 led.1)

module _ {D K P L : Type 0} (facts : L → LinkFacts) (door_facts : D → DoorFacts) (last calls : K → ℕ) (keeper_facts : P → KeeperFacts) (state : StateValue) (asked : Service) (workers : ℕ) (rows : Option KeptRows) (opened : Objects D K P) (summary : Summary) (entries : Entries) (left : Objects D K P) (run : HasRun facts door_facts last calls keeper_facts state asked workers rows opened summary entries left) where
  pub are_told : KnowsTakes facts run.began → HoldsTakes facts run.began → AreTold facts door_facts last calls keeper_facts state asked workers rows opened summary entries left run
  are_told knows holds =
      let closings = closing_room asked.journal asked.connections workers in
      let begins = run.turned.begun.crew_begins.each in record {
        rules = all_told facts run.began knows run.owner.control.publisher (edits_of_run facts door_facts last calls keeper_facts state asked workers rows opened summary entries left run)
            (run.owner.control.publisher.pending, list_is facts door_facts last calls keeper_facts state asked workers rows opened summary entries left run)
            closings 0 run.turned.first_crew run.crew begins run.turned.crew_turned run.one_list;
        holds = all_hold facts run.began holds closings 0 run.turned.first_crew run.crew begins run.turned.crew_turned;
      }
