use Rattle.mum_io.proofs.Common.{take_rest}
use Rattle.mum_io.proofs.MemoryLemmas.{drop-given}
use Rattle.mum_io.proofs.memory.unread.Unread.read.Goals as goal

pub returns-clause-taken : goal.returns-clause-taken
returns-clause-taken c =
    let copied = rw (c.as_slice.ensures, take_rest) at c.copy_front-count.ensures.copied in
    rw (← c.self.view_is) (drop-given c.self.inside.bytes c.copy_front-count.new.buf c.self.inside.given c.copy_front-count.result copied)
