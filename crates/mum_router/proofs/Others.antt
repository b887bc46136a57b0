-- Of copies that are offered, no box of another slot changes.
use Rattle.mum_router.proofs.Common.{◌≡◌, ℕ, zero, suc, List, [], ◌∷◌, map, refl, ap, sym, ◌∙◌, ◌≢◌, slice_get, slice_set, AllByRecursion, FoldsTo, SessionId, Edit, Parts, Delivers, Delivery, Outs}

set_other : {X : Type 0} (xs : List X) (i k : ℕ) (x : X) → k ≢ i → slice_get (slice_set xs i x) k ≡ slice_get xs k
set_other [] i k x apart = refl
set_other (y ∷ xs) zero zero x apart = absurd (apart refl)
set_other (y ∷ xs) zero (suc k) x apart = refl
set_other (y ∷ xs) (suc i) zero x apart = refl
set_other (y ∷ xs) (suc i) (suc k) x apart = set_other xs i k x (λ same. apart (ap (λ (n : ℕ). suc n) same))

pub untouched : (edits : List Edit) (speaker : SessionId) (packet : Parts) (slot : ℕ) (ds : List Delivery) (outs after : Outs)
    → FoldsTo (Delivers edits speaker packet) outs ds after → AllByRecursion (λ hearer. hearer.slot.0 ≢ slot) (map (λ d. d.hearer) ds)
    → slice_get after slot ≡ slice_get outs slot
untouched edits speaker packet slot [] outs after done apart = ap (λ (os : Outs). slice_get os slot) (sym done)
untouched edits speaker packet slot (d ∷ ds) outs after done apart =
    untouched edits speaker packet slot ds done.0 after done.2 apart.1
    ∙ ap (λ (os : Outs). slice_get os slot) done.1.others
    ∙ set_other outs d.hearer.slot.0 slot done.1.new (λ same. apart.0 (sym same))
