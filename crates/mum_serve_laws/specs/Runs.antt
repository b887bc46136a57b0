-- What a run of a server came to, as the turns of its roles have it.
use mathlib.Core.List.{IsPrefix}
use Rattle.std.specs.Prelude.{◌≡◌, ◌+◌, ◌||◌, ℕ, true, false, List, [], ◌∷◌, ◌++◌, length, map, IfSome, Option}
use Rattle.std.specs.List.{All, AllByRecursion, AllPairs, AllZip, Contains, filter_map, flat_map, list_any, sum_by}
use Rattle.mum_base.specs.declared.number.Cause.{Cause}
use Rattle.mum_io.specs.{Door.DoorFacts, Link.LinkFacts}
use Rattle.mum_crew.specs.Turns.{TurnsLead}
use Rattle.mum_state.specs.State.{StateValue}
use Rattle.mum_state.specs.declared.edit.Edit.{Edit}
use Rattle.mum_published.specs.declared.roll.Login.{Login}
use Rattle.mum_published.specs.{Calls.state_of, Facts.Opening}
use Rattle.mum_kept.specs.declared.rows.KeptRows.{KeptRows}
use Rattle.mum_keeper.specs.{Keeping.KeeperFacts, Turns.HoldsKept}
use Rattle.mum_worker.specs.{Facts.WorkerFacts, Record.is_memory, Turning.WorkerTurned}
use Rattle.mum_owner.specs.Laws.{connections_given}
use Rattle.mum_owner.specs.declared.kept.Coming.{Coming}
use Rattle.mum_worker_laws.specs.Laws.{HoldsFor, IsTold, Look, Moment, Take, history, login_made, looks_in, takes_in}
use Rattle.mum_worker_laws.specs.Voices.{talk_in, talk_made}
use Rattle.mum_serve.specs.{Asked.Service, Loading.state_over, Serving.HasRun, Serving.LoadsAndServes}
use Rattle.mum_serve.specs.Views.{viewer_memory}
use Rattle.mum_serve.specs.declared.{asked.Objects.Objects, entries.Entries.Entries, server.Served.TheVariants.Whole}
use Rattle.mum_serve.specs.declared.summary.Summary.{Summary}
use Rattle.mum_step_laws.specs.OwnerTurns.{Decision}
use Rattle.mum_serve_laws.specs.Counted.{GoesToHearers, causes_in, copies_refused, copies_sent, strays_in, up_to_64}
use Rattle.mum_serve_laws.specs.Decisions.{decisions, edits_after, entries_after, logins_decided}

-- ---- the workers of a run, one after the other

module _ {L : Type 0} (facts : L → LinkFacts) (opening : Opening) where
  -- the packets that each of them routed, in order
  abbrev pub looks_of_each : (olds news : List (WorkerFacts L))
      → AllZip (TurnsLead (WorkerTurned facts opening)) olds news → List (List Look)
  looks_of_each [] [] led = []
  looks_of_each [] (new ∷ news) led = []
  looks_of_each (old ∷ olds) [] led = []
  looks_of_each (old ∷ olds) (new ∷ news) led =
      looks_in (history facts opening old led.0.0 new led.0.1) ∷ looks_of_each olds news led.1

  -- what each of them heard, routed and took, in order
  abbrev pub moments_of_each : (olds news : List (WorkerFacts L))
      → AllZip (TurnsLead (WorkerTurned facts opening)) olds news → List (List Moment)
  moments_of_each [] [] led = []
  moments_of_each [] (new ∷ news) led = []
  moments_of_each (old ∷ olds) [] led = []
  moments_of_each (old ∷ olds) (new ∷ news) led =
      history facts opening old led.0.0 new led.0.1 ∷ moments_of_each olds news led.1

  -- how many parcels for other sessions their ports took
  abbrev pub strays_of_each : (olds news : List (WorkerFacts L))
      → AllZip (TurnsLead (WorkerTurned facts opening)) olds news → ℕ
  strays_of_each [] [] led = 0
  strays_of_each [] (new ∷ news) led = 0
  strays_of_each (old ∷ olds) [] led = 0
  strays_of_each (old ∷ olds) (new ∷ news) led =
      strays_in facts opening old led.0.0 new led.0.1 + strays_of_each olds news led.1

  -- for what their ports closed
  abbrev pub causes_of_each : (olds news : List (WorkerFacts L))
      → AllZip (TurnsLead (WorkerTurned facts opening)) olds news → List Cause
  causes_of_each [] [] led = []
  causes_of_each [] (new ∷ news) led = []
  causes_of_each (old ∷ olds) [] led = []
  causes_of_each (old ∷ olds) (new ∷ news) led =
      causes_in facts opening old led.0.0 new led.0.1 ++ causes_of_each olds news led.1

-- ---- a run

module _ {D K P L : Type 0} (facts : L → LinkFacts) (door_facts : D → DoorFacts) (last calls : K → ℕ)
    (keeper_facts : P → KeeperFacts) (state : StateValue) (asked : Service) (workers : ℕ) (rows : Option KeptRows)
    (opened : Objects D K P) (summary : Summary) (entries : Entries) (left : Objects D K P)
    (run : HasRun facts door_facts last calls keeper_facts state asked workers rows opened summary entries left) where
  -- the connections that the door gave in the turns of its owner
  abbrev pub connections_of_run : List (Coming L)
  connections_of_run = connections_given door_facts facts run.turned.first_owner run.turned.owner_turned.0 run.owner run.turned.owner_turned.1

  -- the commands that its owner decided, in order
  abbrev pub decisions_of_run : List Decision
  decisions_of_run =
      decisions door_facts facts run.turned.first_owner run.turned.owner_turned.0 run.owner run.turned.owner_turned.1

  -- the logins that these accepted, in order
  abbrev pub logins_of_run : List Login
  logins_of_run = logins_decided decisions_of_run

  -- the edits that these accepted, each decided at the state after those before it
  abbrev pub edits_of_run : List Edit
  edits_of_run = edits_after run.began [] decisions_of_run

  -- the packets that each of its workers routed
  abbrev pub looks_by_worker : List (List Look)
  looks_by_worker = looks_of_each facts run.began run.turned.first_crew run.crew run.turned.crew_turned

  -- those of all its workers
  abbrev pub looks_of_run : List Look
  looks_of_run = flat_map (λ looks. looks) looks_by_worker

  -- what each of its workers heard, routed and took, in order
  abbrev pub moments_by_worker : List (List Moment)
  moments_by_worker = moments_of_each facts run.began run.turned.first_crew run.crew run.turned.crew_turned

  -- the parcels that the ports of all its workers took
  abbrev pub takes_of_run : List Take
  takes_of_run = flat_map takes_in moments_by_worker

  -- the totals of the run are sums over its turns
  pub record AreOfTheTurns : Type 0 where
    pub connections : summary.totals.connections ≡ length connections_of_run
    pub accepted : summary.totals.accepted ≡ length edits_of_run
    pub looks : summary.totals.looks ≡ up_to_64 (length looks_of_run)
    pub copies : summary.totals.copies ≡ up_to_64 (sum_by copies_sent looks_of_run)
    pub full : summary.totals.full ≡ up_to_64 (sum_by copies_refused looks_of_run)
    pub stale : summary.totals.stale
        ≡ up_to_64 (strays_of_each facts run.began run.turned.first_crew run.crew run.turned.crew_turned)
    -- memory ran out where the owner noted that, a port closed for it, or the viewer or the store noted it
    pub memory : summary.no_memory
        ≡ (((run.owner.scribe.no_memory
        || list_any is_memory (causes_of_each facts run.began run.turned.first_crew run.crew run.turned.crew_turned))
        || viewer_memory run.viewer)
        || run.starved)

  -- what it wrote down is what its turns decided and routed; without a journal nothing was
  pub record AreWritten : Type 0 where
    pub controls : asked.journal ≡ true → entries.controls ≡ entries_after run.began [] decisions_of_run
    pub voices : asked.journal ≡ true → map (filter_map talk_in) entries.by_worker ≡ map (map talk_made) looks_by_worker
    pub nothing : asked.journal ≡ false → entries.controls ≡ []

  -- each packet goes to those who hear it after a beginning of the edits that were accepted, and nobody speaks for another
  pub record AreRouted : Type 0 where
    pub begins : All (λ look. IsPrefix look.edits edits_of_run) looks_of_run
    pub hearers : All (GoesToHearers run.began) looks_of_run
    pub opening : run.began.state ≡ state
    -- it is of a session that an accepted login gave to the connection that sent it
    pub speakers : All (λ look. Contains logins_of_run (login_made look)) looks_of_run

  -- what clients are sent is by the rules, and holds from then on
  pub record AreTold : Type 0 where
    -- each copy is that of a packet which its session hears after a beginning of the edits that were accepted, and each
    -- notice reports an edit of such a beginning
    pub rules : All (IsTold run.began edits_of_run) takes_of_run
    -- a packet is routed after all edits that came with what a port of the same worker took before it
    pub holds : AllByRecursion (AllPairs HoldsFor) moments_by_worker

-- ---- kept channels

module _ {D K P L : Type 0} (facts : L → LinkFacts) (door_facts : D → DoorFacts) (last calls : K → ℕ)
    (keeper_facts : P → KeeperFacts) (edits : List Edit) (asked : Service) (workers : ℕ) (objects : Objects D K P)
    (summary : Summary) (entries : Entries) (left : Objects D K P)
    (served : LoadsAndServes facts door_facts last calls keeper_facts edits asked workers objects
    (Whole summary entries) left) where
  -- the edits that the decisions of its owner accepted
  abbrev pub edits_served : List Edit
  edits_served =
      edits_of_run facts door_facts last calls keeper_facts (state_over edits served.rows) asked workers served.rows served.serves.opened summary entries left served.serves.run

  -- the keeper has the rows that are kept of the state after all edits that were accepted, and it was opened at this path,
  -- as far as it reports these
  pub record KeepsTheEnd (path : List ℕ) : Type 0 where
    pub rows : HoldsKept keeper_facts left.keeper (state_of served.serves.run.began edits_served)
    pub path_is : IfSome (keeper_facts left.keeper).opened_at (λ known. known ≡ path)
