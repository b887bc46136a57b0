-- What was gathered has the first fault of the input.
use Rattle.mum_server.proofs.Common.{ℕ, List, subst, ReadsGathered}
use Rattle.mum_server.proofs.SameReading.{input_read}
use Rattle.mum_server.proofs.journal_input.read_input.Goals as goal

pub returns-in-Ok-gather-clause-reads : goal.returns-in-Ok-gather-clause-reads
returns-in-Ok-gather-clause-reads g c =
    input_read (g.I.Source.left c.args.input.now) c.gather.new.text.items c.in-Ok-gather.long c.journal_in.result c.in-Ok-gather.ensures.gathers
    (subst (λ (text : List ℕ). ReadsGathered c.in-Ok-gather.long text c.journal_in.result) c.deref.ensures.value c.journal_in.ensures.reads)
