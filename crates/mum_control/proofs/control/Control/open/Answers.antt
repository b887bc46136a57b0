use Rattle.mum_control.proofs.Common.{◌∙◌, ap, vec_capacity, PublisherFacts}
use Rattle.mum_control.proofs.{Boxes.as_many, Keeping.kept_opening}
use Rattle.mum_control.proofs.control.Control.open.Goals as goal

pub invariant_of-result : goal.invariant_of-result
invariant_of-result g c =
    let made = c.in-Ok.made in
    kept_opening g.N.Naming.opening c.in-Ok-open.edits made.1.items c.new.result made.0.items (vec_capacity made.0)
    (ap (λ (p : PublisherFacts). p.opening) c.in-Ok-open.ensures ∙ c.requires.opening) (as_many made.1.items c.args.posts.items c.in-Ok.ensures.boxes ∙ c.requires.boxes) c.new.ensures
    c.in-Ok.ensures.nobody c.in-Ok.ensures.room
