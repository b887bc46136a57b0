use Rattle.mum_record.proofs.Common.{◌≡◌, ◌+◌, ◌≤◌, length, journal_of, reading_from, pieces_of}
use Rattle.mum_record.proofs.journal_reader.read_journal.Given as goal

abbrev pub invariant-lines : goal.invariant-lines
invariant-lines l =
    record {
      reading : journal_of l.fn.text ≡ reading_from l.draft l.number (pieces_of l.rest);
      counted : l.number + length l.rest ≤ length l.fn.text + 1;
    }

abbrev pub decreases-lines : goal.decreases-lines
decreases-lines l = length l.rest
