use Rattle.mum_audit.proofs.Common.{ap, length, List, ControlEntry}
use Rattle.mum_audit.proofs.Totals.{counted}
use Rattle.mum_audit.proofs.count.counts_of.Goals as goal

pub returns : goal.returns
returns c =
    counted c.args.journal.now c.counts_in-voices.result (length c.as_slice-2.result.now) (rw (c.as_slice.ensures) at c.counts_in-voices.ensures)
    (ap (λ (entries : List ControlEntry). length entries) c.as_slice-2.ensures)
