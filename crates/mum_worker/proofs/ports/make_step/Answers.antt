-- The passes of a port that made its step are of the boxes of its slot.
use Rattle.mum_worker.proofs.CommonNames.{List, subst, QueueFacts, IsPosted, IsVoiced, BoxesFacts}
use Rattle.mum_worker.proofs.ports.make_step.Goals as goal

pub returns-clause-owned : goal.returns-clause-owned
returns-clause-owned g c = record {
  posted =
      subst (λ (boxes : BoxesFacts). IsPosted boxes.posts c.step-step.new.self.passes) c.boxes.view_is
      (subst (λ (posts : List QueueFacts). IsPosted posts c.step-step.new.self.passes) c.deref.ensures.value c.step-step.ensures.posts);
  voiced =
      subst (λ (boxes : BoxesFacts). IsVoiced boxes.voices c.step-step.new.self.passes) c.boxes.view_is
      (subst (λ (voices : List QueueFacts). IsVoiced voices c.step-step.new.self.passes) c.deref-2.ensures.value c.step-step.ensures.voices);
}
