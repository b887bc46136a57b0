use Rattle.mum_server.proofs.Common.{◌≡◌, ◌+◌, ◌≤◌, INPUT_LIMIT}
use Rattle.mum_server.proofs.Gathering.{IsGathering}
use Rattle.mum_server.proofs.journal_input.gather.Given as goal

abbrev pub invariant-lines : goal.invariant-lines
invariant-lines g l =
    let left = g.I.Source.left in
    record {
      gathering : IsGathering (left l.fn.input) l.text.items l.reader (left l.input) l.number;
      counted : l.number + l.reader.room ≤ INPUT_LIMIT + 1;
      read : g.I.Source.faults l.input ≡ g.I.Source.faults l.fn.input;
    }

abbrev pub decreases-lines : goal.decreases-lines
decreases-lines g l = l.reader.room
