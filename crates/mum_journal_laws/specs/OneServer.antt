-- A run of a server, whatever its threads did, is that of one server which does one thing after the other.
use mathlib.Core.List.{IsPrefix}
use Rattle.std.specs.Prelude.{◌≡◌, ℕ, List, [], ◌∷◌, flat_map, Option, ⊤}
use Rattle.std.specs.List.{All, AllByRecursion, AllPairs, AllZip}
use Rattle.mum_io.specs.{Door.DoorFacts, Link.LinkFacts}
use Rattle.mum_state.specs.State.{StateValue}
use Rattle.mum_state.specs.declared.edit.Edit.{Edit}
use Rattle.mum_published.specs.{Calls.appended, Calls.state_of, Facts.Opening}
use Rattle.mum_kept.specs.declared.rows.KeptRows.{KeptRows}
use Rattle.mum_session.specs.{Reply.reply_end, Verdict.verdict}
use Rattle.mum_core.specs.Laws.{IsSubsequenceBy}
use Rattle.mum_audit.specs.Legal.{IsLegal}
use Rattle.mum_keeper.specs.Keeping.{KeeperFacts}
use Rattle.mum_worker.specs.Facts.{WorkerFacts}
use Rattle.mum_owner.specs.Decided.{with_command}
use Rattle.mum_worker_laws.specs.Laws.{Look, copies_at, copies_made}
use Rattle.mum_serve.specs.{Asked.Service, Journals.journal_of, Serving.HasRun}
use Rattle.mum_serve.specs.declared.{asked.Objects.Objects, entries.Entries.Entries, summary.Summary.Summary}
use Rattle.mum_step_laws.specs.OwnerTurns.{Decision}
use Rattle.mum_serve_laws.specs.Decisions.{IsOn, work_done}
use Rattle.mum_serve_laws.specs.Runs.{AreOfTheTurns, AreRouted, AreTold, AreWritten, decisions_of_run, edits_of_run, looks_by_worker}
use Rattle.mum_journal_laws.specs.Following.{AreAskedFor, Logins, session_in, with_login_of}
use Rattle.mum_journal_laws.specs.Journals.{KeepsJournal}

-- each command is decided at the state of all edits that were accepted before it, for the session that the last
-- accepted login of its connection gave, and for nobody where there was none; and its sender's wait ends as its verdict
-- says
abbrev pub AreDecided : Opening → List Edit → Logins → List Decision → Type 0
AreDecided opening edits logins [] = ⊤
AreDecided opening edits logins (decision ∷ others) =
    (decision.command.session ≡ session_in logins decision.command.connection)
    × (decision.reply.end ≡ reply_end (verdict (state_of opening edits) decision.command.session decision.command.what))
    × AreDecided opening (with_command opening edits decision.command)
    (with_login_of opening edits decision.command logins) others

-- of two packets of a worker the later one is routed at a list that goes on from that of the earlier one
abbrev pub LooksGoOn : List Look → Type 0
LooksGoOn looks = AllPairs (λ earlier later. IsPrefix earlier.edits later.edits) looks

-- what a worker put into the voice box of each slot is, in order, the copies for it of the packets that it routed
abbrev pub SendsTheCopies : {L : Type 0} → WorkerFacts L → List Look → Type 0
SendsTheCopies worker looks =
    (slot : ℕ) → copies_at slot worker.common.router.outs ≡ flat_map (copies_made slot) looks

module _ {D K P L : Type 0} (facts : L → LinkFacts) (door_facts : D → DoorFacts) (last calls : K → ℕ)
    (keeper_facts : P → KeeperFacts) (state : StateValue) (asked : Service) (workers : ℕ) (rows : Option KeptRows)
    (opened : Objects D K P) (summary : Summary) (entries : Entries) (left : Objects D K P)
    (run : HasRun facts door_facts last calls keeper_facts state asked workers rows opened summary entries left) where
  pub record IsOneServer : Type 0 where
    -- the commands were decided one after the other, each as the rules say; what they accepted is one list
    pub decided : AreDecided run.began [] [] (decisions_of_run facts door_facts last calls keeper_facts state asked
        workers rows opened summary entries left run)
    pub list : appended run.owner.control.publisher
        ≡ edits_of_run facts door_facts last calls keeper_facts state asked workers rows opened summary entries left run
    -- a frame asked for each of them, unless its connection was gone; and they are of what was taken from the desk, in
    -- its order, and no two of the same
    pub asked_for : AreAskedFor (decisions_of_run facts door_facts last calls keeper_facts state asked workers rows
        opened summary entries left run)
    pub taken : IsSubsequenceBy IsOn (decisions_of_run facts door_facts last calls keeper_facts state asked workers
        rows opened summary entries left run)
        (work_done door_facts facts run.turned.first_owner run.turned.owner_turned.0 run.owner
        run.turned.owner_turned.1)
    -- each packet is of a session that a login of its connection gave, and is copied to exactly those who hear it after
    -- a beginning of that list; to a worker this never gets shorter
    pub routed : AreRouted facts door_facts last calls keeper_facts state asked workers rows opened summary entries
        left run
    pub onward : AllByRecursion LooksGoOn (looks_by_worker facts door_facts last calls keeper_facts state asked workers
        rows opened summary entries left run)
    -- each box got these copies, once and in order
    pub copied : AllZip SendsTheCopies run.crew (looks_by_worker facts door_facts last calls keeper_facts state asked
        workers rows opened summary entries left run)
    -- nobody is sent what the rules would not give, and what was sent holds from then on
    pub told : AreTold facts door_facts last calls keeper_facts state asked workers rows opened summary entries left run
    -- totals and journal say what was done, and the journal is legal
    pub totals : AreOfTheTurns facts door_facts last calls keeper_facts state asked workers rows opened summary entries
        left run
    pub written : AreWritten facts door_facts last calls keeper_facts state asked workers rows opened summary entries
        left run
    pub legal : (document : List ℕ) → KeepsJournal asked state document → IsLegal (journal_of workers document entries)
