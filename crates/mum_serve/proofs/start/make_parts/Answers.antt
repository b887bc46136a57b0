-- The control owner has passes of the boxes that the workers share.
use Rattle.mum_serve.proofs.Common.{◌∙◌, List, ap, PostFacts, post_queues}
use Rattle.mum_outbox.specs.Facts.{PassFacts}
use Rattle.mum_serve.proofs.{Numbering.new_numbers, Opening.control_begins, Sharing.new_posts, Sharing.shared_by}
use Rattle.mum_serve.proofs.start.make_parts.Goals as goal

pub returns-in-Ok-open-clause-control : goal.returns-in-Ok-open-clause-control
returns-in-Ok-open-clause-control g c =
    control_begins g.N.Naming.opening c.args.publisher.now _ c.in-Ok-open.control c.requires.opening c.requires.fresh c.requires.no_login c.in-Ok-open.ensures

pub returns-in-Ok-open-clause-joined : goal.returns-in-Ok-open-clause-joined
returns-in-Ok-open-clause-joined g c =
    shared_by _ _ _ _ _ (ap (λ (posts : List (PassFacts PostFacts)). post_queues posts) c.in-Ok-open.ensures.boxes ∙ new_posts _) c.in-Ok.ensures.shared

pub returns-in-Ok-open-clause-posts : goal.returns-in-Ok-open-clause-posts
returns-in-Ok-open-clause-posts g c = new_numbers _ _ c.in-Ok-open.ensures.boxes c.in-Ok.ensures.post_numbers
