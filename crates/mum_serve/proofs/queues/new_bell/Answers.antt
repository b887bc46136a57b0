-- Both are of one queue, with its name.
use Rattle.mum_serve.proofs.Common.{◌∙◌, ap, sym, QueueFacts}
use Rattle.mum_serve.proofs.queues.new_bell.Goals as goal

pub returns-in-Ok-clause-same : goal.returns-in-Ok-clause-same
returns-in-Ok-clause-same g c = ap (λ (owner : QueueFacts). owner.queue) c.in-Ok.ensures.1 ∙ sym (ap (λ (owner : QueueFacts). owner.queue) c.in-Ok.ensures.0)

pub returns-in-Ok-clause-name : goal.returns-in-Ok-clause-name
returns-in-Ok-clause-name g c = ap (λ (owner : QueueFacts). owner.queue.name) c.in-Ok.ensures.0 ∙ c.in_ok-bell.ensures.name_is
