use Rattle.mum_document.proofs.First.{within-within}
use Rattle.mum_document.proofs.object.Object.seen.Goals as goal

pub returns : goal.returns
returns c = λ fault names. rw (within-within c.args.self.now.dot.now c.args.name.now fault) at (c.seen_from.ensures _ (c.seen_from-inner.ensures fault names))
