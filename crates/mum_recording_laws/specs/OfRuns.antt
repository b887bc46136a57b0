-- The journals of runs are the legal ones.
use Rattle.std.specs.Prelude.{List}
use Rattle.mum_record.specs.{Head.version_with, Journal.IsJournal}
use Rattle.mum_record.specs.declared.{journal.Journal.Journal, step.Step.Step}
use Rattle.mum_opening.specs.Opening.{opening}
use Rattle.mum_core.specs.{Core.CoreState, Core.start, Laws.IsRun}
use Rattle.mum_audit.specs.Legal.{IsLegal}
use Rattle.mum_recording_laws.specs.{Order.AreAsked, Order.ArePlaced, Order.IsInOrder, Orderly.AreOrderly}
use Rattle.mum_recording_laws.specs.Recorded.{AreOfRun, IsRecorded}

-- the core of as many workers, at the opening of the journal's document
abbrev pub first_core : Journal → CoreState
first_core journal = start (version_with journal.limits) (opening journal.limits journal.config) journal.workers

-- whatever journal has the commands, the packets and the closings of a run is legal
abbrev pub JournalsOfRunsAreLegal : Type 0
JournalsOfRunsAreLegal =
    (journal : Journal) (steps : List Step) → IsRun (first_core journal) steps
    → IsRecorded journal (first_core journal) steps
    → IsLegal journal

-- a legal journal that is in order, and has lines, has the verdicts and the routes of an orderly run
abbrev pub LegalJournalsAreOfRuns : Type 0
LegalJournalsAreOfRuns =
    (journal : Journal) → IsJournal journal → IsLegal journal → IsInOrder journal
    → (steps : List Step) × IsRun (first_core journal) steps × AreOrderly (first_core journal) steps
    × AreOfRun journal (first_core journal) steps

-- whatever journal has lines, and the commands and the packets of a run, is in order but for leaves and revisions
abbrev pub JournalsOfRunsAreAsked : Type 0
JournalsOfRunsAreAsked =
    (journal : Journal) (steps : List Step) → IsJournal journal → IsRun (first_core journal) steps
    → AreOfRun journal (first_core journal) steps → AreAsked journal × ArePlaced journal

-- whatever journal has lines, and the commands and the packets of a run in which servers act in order, is in order
abbrev pub OrderlyRunsAreInOrder : Type 0
OrderlyRunsAreInOrder =
    (journal : Journal) (steps : List Step) → IsJournal journal → IsRun (first_core journal) steps
    → AreOrderly (first_core journal) steps
    → AreOfRun journal (first_core journal) steps → IsInOrder journal
