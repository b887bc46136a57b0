-- A run is that of one server, field by field.
use Rattle.mum_journal_laws.proofs.Common.{◌≡◌, ◌∙◌, ℕ, zero, suc, ◌+◌, List, [], ◌∷◌, ◌++◌, flat_map, Option, refl, ap, sym, subst, arith, All, AllByRecursion, AllPairs, AllZip, All-cons, All-head, All-nil, All-tail, AllPairs-cons, IsPrefix, IsLegal, TurnsLead, TurnsTo, Turn, DoorFacts, LinkFacts, KeeperFacts, KeptRows, with_command, appended, Opening, PassFacts, Outs, Service, closing_room, journal_of, AreOpenedFrom, fresh_pass, HasRun, Objects, Entries, Summary, edits_after, AreOfTheTurns, AreRouted, AreTold, AreWritten, decisions_of_run, looks_of_each, edits_decided, of_the_desk, StateValue, Edit, Decision, WorkerFacts, HasOpened, IsUnused, WorkerTurned, Follows, Look, Moment, copies_at, copies_made, history, looks_in, Looked, Told, Took, AreAnswered, AreForTheirLogins, Logins, with_login_of, KeepsJournal, AreDecided, IsOneServer, LooksGoOn, SendsTheCopies}
use Rattle.mum_journal_laws.proofs.Runs.{HasFollows, asked_of_run, follow_of_run}

-- ---- the commands

-- for their logins, and answered so
all_decided : (opening : Opening) (edits : List Edit) (logins : Logins) (made : List Decision) → AreForTheirLogins opening edits logins made → AreAnswered opening edits made
    → AreDecided opening edits logins made
all_decided opening edits logins [] own ends = tt
all_decided opening edits logins (decision ∷ others) own ends =
    (own.0, ends.0, all_decided opening (with_command opening edits decision.command) (with_login_of opening edits decision.command logins) others own.1 ends.1)

-- ---- the looks of a worker

abbrev GoesOn : Look → Look → Type 0
GoesOn earlier later = IsPrefix earlier.edits later.edits

later_go_on : (look : Look) (moments : List Moment) → All (λ moment. Follows (Looked look) moment) moments → All (GoesOn look) (looks_in moments)
later_go_on look [] all = All-nil (GoesOn look)
later_go_on look (Told reply ∷ moments) all = later_go_on look moments (All-tail (λ moment. Follows (Looked look) moment) (Told reply) moments all)
later_go_on look (Took takes learnt ∷ moments) all = later_go_on look moments (All-tail (λ moment. Follows (Looked look) moment) (Took takes learnt) moments all)
later_go_on look (Looked other ∷ moments) all =
    All-cons (GoesOn look) other (looks_in moments) (All-head (λ moment. Follows (Looked look) moment) (Looked other) moments all)
    (later_go_on look moments (All-tail (λ moment. Follows (Looked look) moment) (Looked other) moments all))

looks_go_on : (moments : List Moment) → AllPairs Follows moments → LooksGoOn (looks_in moments)
looks_go_on [] follows = λ i j d before within. absurd (omega arith)
looks_go_on (Told reply ∷ moments) follows = looks_go_on moments (λ i j d before within. follows (suc i) (suc j) d (omega arith) (omega arith))
looks_go_on (Took takes learnt ∷ moments) follows = looks_go_on moments (λ i j d before within. follows (suc i) (suc j) d (omega arith) (omega arith))
looks_go_on (Looked look ∷ moments) follows =
    AllPairs-cons GoesOn look (looks_in moments)
    (later_go_on look moments (λ k d within. follows 0 (suc k) d (omega arith) (omega arith)))
    (looks_go_on moments (λ i j d before within. follows (suc i) (suc j) d (omega arith) (omega arith)))

-- ---- the boxes

-- nothing was put into any box yet
none_offered : (outs : Outs) (slot : ℕ) → All IsUnused outs → copies_at slot outs ≡ []
none_offered [] slot unused = refl
none_offered (pass ∷ outs) zero unused = (All-head IsUnused pass outs unused).0
none_offered (pass ∷ outs) (suc slot) unused = none_offered outs slot (All-tail IsUnused pass outs unused)

module _ {L : Type 0} (facts : L → LinkFacts) (opening : Opening) where
  -- what was put into the box of a slot is what the turns routed for it
  abbrev pub HasOrder : Type 0
  HasOrder = (number : ℕ) (pass : PassFacts) (journal : Option ℕ) (opened worker : WorkerFacts L) (turns : List Turn) (slot : ℕ) → HasOpened number pass journal opened
      → (all : TurnsTo (WorkerTurned facts opening) opened turns worker)
      → copies_at slot worker.common.router.outs
      ≡ copies_at slot opened.common.router.outs ++ flat_map (copies_made slot) (looks_in (history facts opening opened turns worker all))

  all_go_on : HasFollows facts opening → (room : Option ℕ) (number : ℕ) (olds news : List (WorkerFacts L)) → AreOpenedFrom opening room number olds
      → (led : AllZip (TurnsLead (WorkerTurned facts opening)) olds news) → AllByRecursion LooksGoOn (looks_of_each facts opening olds news led)
  all_go_on follows room number [] [] begins led = tt
  all_go_on follows room number [] (new ∷ news) begins led = absurd led
  all_go_on follows room number (old ∷ olds) [] begins led = absurd led
  all_go_on follows room number (old ∷ olds) (new ∷ news) begins led = (
    looks_go_on (history facts opening old led.0.0 new led.0.1) (follows number (fresh_pass opening) room old new led.0.0 begins.0.opened led.0.1),
    all_go_on follows room (number + 1) olds news begins.1 led.1,
  )

  all_send : HasOrder → (room : Option ℕ) (number : ℕ) (olds news : List (WorkerFacts L)) → AreOpenedFrom opening room number olds
      → (led : AllZip (TurnsLead (WorkerTurned facts opening)) olds news) → AllZip SendsTheCopies news (looks_of_each facts opening olds news led)
  all_send order room number [] [] begins led = tt
  all_send order room number [] (new ∷ news) begins led = absurd led
  all_send order room number (old ∷ olds) [] begins led = absurd led
  all_send order room number (old ∷ olds) (new ∷ news) begins led = (
    λ slot. order number (fresh_pass opening) room old new led.0.0 slot begins.0.opened led.0.1
        ∙ ap (λ (none : List _). none ++ flat_map (copies_made slot) (looks_in (history facts opening old led.0.0 new led.0.1))) (none_offered old.common.router.outs slot begins.0.unused),
    all_send order room (number + 1) olds news begins.1 led.1,
  )

-- ---- a run

module _ {D K P L : Type 0} (facts : L → LinkFacts) (door_facts : D → DoorFacts) (last calls : K → ℕ) (keeper_facts : P → KeeperFacts) (state : StateValue) (asked : Service) (workers : ℕ) (rows : Option KeptRows) (opened : Objects D K P) (summary : Summary) (entries : Entries) (left : Objects D K P) (run : HasRun facts door_facts last calls keeper_facts state asked workers rows opened summary entries left) where
  abbrev made : List Decision
  made = decisions_of_run facts door_facts last calls keeper_facts state asked workers rows opened summary entries left run

  list_is : appended run.owner.control.publisher ≡ edits_after run.began [] made
  list_is =
      let first = run.turned.first_owner in
      let begins = run.turned.begun.owner_begins in
      edits_decided door_facts facts first run.turned.owner_turned.0 run.owner run.turned.owner_turned.1
      ∙ ap (λ (o : Opening). edits_after o (appended first.control.publisher) made) begins.control.opening_is
      ∙ ap (λ (es : List Edit). edits_after run.began es made) begins.control.nothing

  abbrev Legal : Type 0
  Legal = (document : List ℕ) → KeepsJournal asked state document → IsLegal (journal_of workers document entries)

  pub is_one_server : HasFollows facts run.began → HasOrder facts run.began
      → AreRouted facts door_facts last calls keeper_facts state asked workers rows opened summary entries left run
      → AreOfTheTurns facts door_facts last calls keeper_facts state asked workers rows opened summary entries left run
      → AreWritten facts door_facts last calls keeper_facts state asked workers rows opened summary entries left run
      → AreTold facts door_facts last calls keeper_facts state asked workers rows opened summary entries left run → Legal
      → IsOneServer facts door_facts last calls keeper_facts state asked workers rows opened summary entries left run
  is_one_server follows order routed totals written told legal =
      let follow = follow_of_run facts door_facts last calls keeper_facts state asked workers rows opened summary entries left run [] in
      let room = closing_room asked.journal asked.connections workers in
      let begins = run.turned.begun.crew_begins.each in record {
        decided = all_decided run.began [] [] made follow.own follow.ends;
        list = list_is;
        asked_for = asked_of_run facts door_facts last calls keeper_facts state asked workers rows opened summary entries left run [];
        taken = of_the_desk door_facts facts run.turned.first_owner run.turned.owner_turned.0 run.owner run.turned.owner_turned.1;
        routed = routed;
        onward = all_go_on facts run.began follows room 0 run.turned.first_crew run.crew begins run.turned.crew_turned;
        copied = all_send facts run.began order room 0 run.turned.first_crew run.crew begins run.turned.crew_turned;
        told = told;
        totals = totals;
        written = written;
        legal = legal;
      }
