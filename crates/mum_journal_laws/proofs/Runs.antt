-- The journal of a run, field by field.
use Rattle.mum_journal_laws.proofs.Common.{◌≡◌, ◌≢◌, ◌∙◌, ℕ, ◌+◌, ◌≤◌, List, [], ◌∷◌, get_or, map, take, Option, Some, ap, sym, subst, slice_get, All, AllByRecursion, AllPairs, AllZip, filter_map, flat_map, All-contains, All-from_recursion, recursion_from_All, IsPrefix, entries_in, past_before, past_of, after_entries, mark_on, IsLegal, IsRight, closed_by, past_at, revision_of, Past, begun, session_of, TurnsLead, TurnsTo, Turn, RequestsAreHeardAgain, DoorFacts, LinkFacts, KeeperFacts, KeptRows, appended, Opening, PassFacts, ControlEntry, Journal, WorkerEntry, HearersAreTheRoute, Service, closing_room, entries_of, journal_of, per_worker, AreOpenedFrom, fresh_pass, HasRun, Objects, Entries, Summary, entries_after, logins_decided, AreRouted, AreWritten, decisions_of_run, edits_of_run, looks_by_worker, looks_of_run, StateValue, Edit, Decision, WorkerFacts, HasOpened, WorkerTurned, Follows, Look, history, login_made, looks_in, talk_in, talk_made, AreAskedFor, AreForTheirLogins, Logins, logins_after, session_in, KeepsJournal}
use Rattle.mum_journal_laws.proofs.{Packets.IsRightLook, Packets.entries_right, Packets.revisions_rise, Asked.all_asked, Closing.HasClosing, Closing.HasOwn, Closing.HasRise, Closing.close_once, Lasting.all_last, Seats.Follow, Seats.opened_follow, Verdicts.past_after, Verdicts.past_with, Verdicts.verdicts_found}

-- ---- the workers, one after the other

module _ {L : Type 0} (facts : L → LinkFacts) (opening : Opening) where
  -- each has an entry for each packet that it routed
  abbrev pub HasTalks : Type 0
  HasTalks = (number : ℕ) (pass : PassFacts) (room : ℕ) (opened worker : WorkerFacts L) (turns : List Turn) → HasOpened number pass (Some room) opened
      → (all : TurnsTo (WorkerTurned facts opening) opened turns worker)
      → filter_map talk_in worker.common.kept.entries ≡ map talk_made (looks_in (history facts opening opened turns worker all))

  -- what was reported or seen before begins what a look sees
  abbrev pub HasFollows : Type 0
  HasFollows = (number : ℕ) (pass : PassFacts) (room : Option ℕ) (opened worker : WorkerFacts L) (turns : List Turn) → HasOpened number pass room opened
      → (all : TurnsTo (WorkerTurned facts opening) opened turns worker) → AllPairs Follows (history facts opening opened turns worker all)

  pub all_rise : HasTalks → HasFollows → (number room : ℕ) (olds news : List (WorkerFacts L)) → AreOpenedFrom opening (Some room) number olds
      → AllZip (TurnsLead (WorkerTurned facts opening)) olds news
      → AllByRecursion (λ entries. AllPairs (λ earlier later. earlier ≤ later) (filter_map revision_of entries)) (map entries_of news)
  all_rise talks follows number room [] [] begins led = tt
  all_rise talks follows number room [] (new ∷ news) begins led = absurd led
  all_rise talks follows number room (old ∷ olds) [] begins led = absurd led
  all_rise talks follows number room (old ∷ olds) (new ∷ news) begins led = (
    revisions_rise (entries_of new) (history facts opening old led.0.0 new led.0.1)
        (talks number (fresh_pass opening) room old new led.0.0 begins.0.opened led.0.1)
        (follows number (fresh_pass opening) (Some room) old new led.0.0 begins.0.opened led.0.1),
    all_rise talks follows (number + 1) room olds news begins.1 led.1,
  )

-- ---- a run

module _ {D K P L : Type 0} (facts : L → LinkFacts) (door_facts : D → DoorFacts) (last calls : K → ℕ) (keeper_facts : P → KeeperFacts) (state : StateValue) (asked : Service) (workers : ℕ) (rows : Option KeptRows) (opened : Objects D K P) (summary : Summary) (entries : Entries) (left : Objects D K P) (run : HasRun facts door_facts last calls keeper_facts state asked workers rows opened summary entries left) (document : List ℕ) where
  abbrev made : List Decision
  made = decisions_of_run facts door_facts last calls keeper_facts state asked workers rows opened summary entries left run

  abbrev list : List Edit
  list = edits_of_run facts door_facts last calls keeper_facts state asked workers rows opened summary entries left run

  abbrev journal : Journal
  journal = journal_of workers document entries

  -- the fields of a legal journal
  abbrev VerdictsAreRight : Type 0
  VerdictsAreRight = (i : ℕ) (entry : ControlEntry) → slice_get journal.controls i ≡ Some entry → entry.verdict ≡ mark_on (past_at journal i) entry

  abbrev RevisionsRise : Type 0
  RevisionsRise = All (λ es. AllPairs (λ earlier later. earlier ≤ later) (filter_map revision_of es)) journal.by_worker

  abbrev AudiencesAreRight : Type 0
  AudiencesAreRight = All (IsRight (past_of journal)) (entries_in journal)

  abbrev EachClosesOnce : Type 0
  EachClosesOnce = AllPairs (λ one other. one ≢ other) (filter_map closed_by (entries_in journal))

  abbrev Keeps : Type 0
  Keeps = KeepsJournal asked state document

  abbrev Writes : Type 0
  Writes = AreWritten facts door_facts last calls keeper_facts state asked workers rows opened summary entries left run

  pub asked_of_run : AreAskedFor made
  asked_of_run = all_asked door_facts facts run.turned.first_owner run.turned.owner_turned.0 run.owner run.turned.owner_turned.1

  pub follow_of_run : Follow run.began [] [] made
  follow_of_run =
      let first = run.turned.first_owner in
      let begins = run.turned.begun.owner_begins in
      subst (λ (es : List Edit). Follow run.began es [] made) begins.control.nothing
      (subst (λ (o : Opening). Follow o (appended first.control.publisher) [] made) begins.control.opening_is
      (opened_follow door_facts facts first.control opened.door asked.connections asked.journal begins.bells begins.store first run.owner run.turned.owner_turned.0 begins.opened run.turned.owner_turned.1))

  follows_of_run : AreForTheirLogins run.began [] [] made
  follows_of_run = follow_of_run.own

  begun_is : Keeps → past_before (journal_of workers document entries) ≡ past_with run.began [] []
  begun_is keeps = ap (λ (s : StateValue). begun s) (sym (run.began_at ∙ keeps.began))

  verdicts_right : Writes → Keeps → RequestsAreHeardAgain → VerdictsAreRight
  verdicts_right writes keeps heard i entry there =
      let controls : entries.controls ≡ entries_after run.began [] made = writes.controls keeps.asked_for in
      verdicts_found run.began [] [] made follows_of_run heard asked_of_run i entry (ap (λ (es : List ControlEntry). slice_get es i) (sym controls) ∙ there)
      ∙ ap (λ (es : List ControlEntry). mark_on (after_entries (past_with run.began [] []) (take i es)) entry) (sym controls)
      ∙ ap (λ (past : Past). mark_on (after_entries past (take i entries.controls)) entry) (sym (begun_is keeps))

  past_is : Writes → Keeps → RequestsAreHeardAgain
      → past_of (journal_of workers document entries)
      ≡ past_with run.began list (logins_after run.began [] [] made)
  past_is writes keeps heard =
      ap (λ (past : Past). after_entries past entries.controls) (begun_is keeps)
      ∙ ap (λ (es : List ControlEntry). after_entries (past_with run.began [] []) es) (writes.controls keeps.asked_for)
      ∙ past_after run.began [] [] made follows_of_run heard asked_of_run

  abbrev Routed : Type 0
  Routed = AreRouted facts door_facts last calls keeper_facts state asked workers rows opened summary entries left run

  -- each packet was routed for the session that the journal has of its connection
  speakers_in : Writes → Routed → Keeps → RequestsAreHeardAgain
      → All (λ look. session_of (past_of (journal_of workers document entries)) look.connection ≡ Some look.speaker)
      (looks_of_run facts door_facts last calls keeper_facts state asked workers rows opened summary entries left run)
  speakers_in writes routed keeps heard k d within =
      let logins : Logins = logins_after run.began [] [] made in
      let look : Look = get_or (looks_of_run facts door_facts last calls keeper_facts state asked workers rows opened summary entries left run) k d in
      ap (λ (past : Past). session_of past look.connection) (past_is writes keeps heard)
      ∙ All-contains (λ one. session_in logins one.connection ≡ Some one.session) (logins_decided made) (login_made look)
      (All-from_recursion (λ one. session_in logins one.connection ≡ Some one.session) (logins_decided made) (all_last run.began [] [] made follow_of_run.own follow_of_run.ends))
      (routed.speakers k d within)

  audiences_right : HearersAreTheRoute → Writes → Routed → Keeps → RequestsAreHeardAgain
      → AudiencesAreRight
  audiences_right members writes routed keeps heard =
      let past : Past = past_of (journal_of workers document entries) in
      let is : past ≡ past_with run.began list (logins_after run.began [] [] made) = past_is writes keeps heard in
      let looks : List Look = looks_of_run facts door_facts last calls keeper_facts state asked workers rows opened summary entries left run in
      let begun_as : past.opening ≡ run.began.state = ap (λ (p : Past). p.opening) is in
      let right : All (IsRightLook members run.began past begun_as) looks =
      λ k d within. record {
        begins = subst (λ (es : List Edit). IsPrefix (get_or looks k d).edits es) (sym (ap (λ (p : Past). p.accepted) is)) (routed.begins k d within);
        hearers = routed.hearers k d within;
        logged_in = speakers_in writes routed keeps heard k d within;
      } in
      All-from_recursion (IsRight past) (flat_map (λ es. es) entries.by_worker)
      (entries_right members run.began past begun_as entries.by_worker (looks_by_worker facts door_facts last calls keeper_facts state asked workers rows opened summary entries left run) (writes.voices keeps.asked_for)
      (recursion_from_All (IsRightLook members run.began past begun_as) looks right))

  revisions_right : HasTalks facts run.began → HasFollows facts run.began → Keeps
      → RevisionsRise
  revisions_right talks follows keeps =
      let rises : AllByRecursion (λ es. AllPairs (λ earlier later. earlier ≤ later) (filter_map revision_of es)) (map entries_of run.crew) =
      all_rise facts run.began talks follows 0 (per_worker asked.connections workers) run.turned.first_crew run.crew
      (subst (λ b. AreOpenedFrom run.began (closing_room b asked.connections workers) 0 run.turned.first_crew) keeps.asked_for run.turned.begun.crew_begins.each) run.turned.crew_turned in
      All-from_recursion (λ es. AllPairs (λ earlier later. earlier ≤ later) (filter_map revision_of es)) entries.by_worker
      (subst (λ (lists : List (List WorkerEntry)). AllByRecursion (λ es. AllPairs (λ earlier later. earlier ≤ later) (filter_map revision_of es)) lists) (sym run.came.by_worker) rises)

  -- no connection closes twice
  closes_once : HasRise facts run.began → HasOwn facts run.began → HasClosing facts run.began → Keeps → EachClosesOnce
  closes_once rise own closes keeps =
      let begins = run.turned.begun.crew_begins in
      let closed : AllPairs (λ one other. one ≢ other) (filter_map closed_by (flat_map (λ es. es) (map entries_of run.crew))) =
      close_once facts run.began workers rise own closes (per_worker asked.connections workers) run.turned.first_crew run.crew begins.among
      (subst (λ b. AreOpenedFrom run.began (closing_room b asked.connections workers) 0 run.turned.first_crew) keeps.asked_for begins.each) run.turned.crew_turned in
      subst (λ (lists : List (List WorkerEntry)). AllPairs (λ one other. one ≢ other) (filter_map closed_by (flat_map (λ es. es) lists))) (sym run.came.by_worker) closed

  pub is_legal : HearersAreTheRoute → HasTalks facts run.began → HasFollows facts run.began → HasRise facts run.began → HasOwn facts run.began → HasClosing facts run.began → Writes → Routed → Keeps → RequestsAreHeardAgain
      → IsLegal (journal_of workers document entries)
  is_legal members talks follows rise own closes writes routed keeps heard = record {
    verdicts = verdicts_right writes keeps heard;
    rising = revisions_right talks follows keeps;
    heard = audiences_right members writes routed keeps heard;
    closed_once = closes_once rise own closes keeps;
  }
