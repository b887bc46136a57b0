-- Seats of channels: what is new goes last.
use Rattle.mum_config.proofs.Common.{◌≡◌, ℕ, List, [], ◌∷◌, ◌++◌, refl, Bor, map-append, seats_of}

pub inserted_seats : (keys new : List (ℕ × Bor (List ℕ))) (k : ℕ × Bor (List ℕ)) (parent : ℕ) (name : List ℕ) → new ≡ keys ++ k ∷ [] → k.0 ≡ parent → k.1.now ≡ name
    → seats_of new ≡ seats_of keys ++ (parent, name) ∷ []
inserted_seats keys new k parent name is under named =
    rw (is, map-append {B = ℕ × List ℕ} (λ (seat : ℕ × Bor (List ℕ)). (seat.0, seat.1.now)) keys (k ∷ []), under, named) refl
