use Rattle.mum_serve.proofs.Common.{◌≡◌, length, All, HasNumbers, LAST, queues_of, AreNamedFrom}
use Rattle.mum_serve.proofs.queues.add_boxes.Given as goal

abbrev pub invariant-boxes : goal.invariant-boxes
invariant-boxes g l = (length l.boxes.items ≡ l.slot) × AreNamedFrom 0 (queues_of l.boxes.items) × All (HasNumbers LAST) l.boxes.items
