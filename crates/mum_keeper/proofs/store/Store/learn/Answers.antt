use Rattle.mum_keeper.proofs.Common.{◌∙◌, ap, PassFacts}
use Rattle.mum_keeper.proofs.Seeing.{learnt_seen}
use Rattle.mum_keeper.proofs.store.Store.learn.Goals as goal

pub invariant_of-self : goal.invariant_of-self
invariant_of-self g c = (
  ap (λ (p : PassFacts). p.opening) c.teach.ensures.same ∙ c.self.invariant.0,
  learnt_seen c.self.inside.pass c.teach.new.pass c.args.note.now.edits c.self.inside.mirror.rows c.self.inside.policies c.teach.ensures c.self.invariant.1,
)
