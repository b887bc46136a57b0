-- New passes of voice boxes.
use Rattle.mum_worker.proofs.CommonNames.{◌≡◌, List, [], ◌∷◌, map, refl, ap, All-cons, All-nil, All, QueueFacts, QueueId, new_pass, queues, IsUnused, out_queues}

-- they are of these boxes
pub new_queues : (boxes : List QueueFacts) → out_queues (map new_pass boxes) ≡ queues boxes
new_queues [] = refl
new_queues (box ∷ boxes) = ap (λ (qs : List QueueId). box.queue ∷ qs) (new_queues boxes)

-- nothing was offered by them
pub new_unused : (boxes : List QueueFacts) → All IsUnused (map new_pass boxes)
new_unused [] = All-nil IsUnused
new_unused (box ∷ boxes) = All-cons IsUnused (new_pass box) (map new_pass boxes) (refl, refl) (new_unused boxes)
