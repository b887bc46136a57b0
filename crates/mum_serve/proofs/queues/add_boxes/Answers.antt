-- One box more has the number of its slot for its name, and all numbers.
use Rattle.mum_serve.proofs.Common.{[], ◌∷◌, List, ◌∙◌, ap, length, length-append, subst, sym, arith, All, All-push, LAST, HasNumbers, QueueFacts, first_has}
use Rattle.mum_serve.proofs.Naming.{named_more}
use Rattle.mum_serve.proofs.queues.add_boxes.Goals as goal

pub boxes-preserved : goal.boxes-preserved
boxes-preserved g c =
    let was = c.boxes.invariant in
    let pushed = c.in_ok-push.ensures.items in
    let first = c.in_ok-queue.ensures in
    let many = was.0 in
    let longer = ap (λ (qs : List QueueFacts). length qs) pushed in
    let last = length-append c.boxes.boxes.items (c.in_ok-queue.queue ∷ []) in (
      omega (arith, many, longer, last),
      named_more c.boxes.boxes.items c.push.new.self.items c.in_ok-queue.queue pushed (first.name_is ∙ sym many) was.1,
      subst (All (HasNumbers LAST)) (sym pushed) (All-push (HasNumbers LAST) c.boxes.boxes.items c.in_ok-queue.queue was.2 (first_has _ c.in_ok-queue.queue first)),
    )
