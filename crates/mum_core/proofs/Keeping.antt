-- Caches that are sound at a state of a list of edits are sound at each later one.
use Rattle.mum_core.proofs.Common.{◌≡◌, ℕ, zero, suc, ◌≤◌, List, [], ◌∷◌, ◌++◌, take, refl, sym, ap, ◌∙◌, subst, arith, IsTrue, and_parts, fold-append, Edit, all_fit, at, led_to, applied, fits, IsProper, StateValue, Caches, AreSound, sound_stays_lem}
use Rattle.mum_core.proofs.Lower.{keeps_proper}

-- the parts of a list of edits that fits, each by itself
record AreBothFit (opening : StateValue) (front rest : List Edit) : Type 0 where
  first : IsTrue (all_fit opening front)
  later : IsTrue (all_fit (led_to opening front) rest)

both_fit : (opening : StateValue) (front rest : List Edit) → IsTrue (all_fit opening (front ++ rest)) → AreBothFit opening front rest
both_fit opening [] rest fit = record { first = refl; later = fit }
both_fit opening (edit ∷ front) rest fit =
    let parts = and_parts (fits opening edit) (all_fit (applied opening edit) (front ++ rest)) fit in
    let both = both_fit (applied opening edit) front rest parts.1 in
    record { first = rw parts.0 both.first; later = both.later }

-- the first of more edits begin with fewer of the first
taken_front : {X : Type 0} (n m : ℕ) (xs ys : List X) → n ≤ m → (rest : List X) × (take m (xs ++ ys) ≡ take n xs ++ rest)
taken_front zero m xs ys le = (take m (xs ++ ys), refl)
taken_front (suc n) m [] ys le = (take m ys, refl)
taken_front (suc n) zero (x ∷ xs) ys le = absurd (omega (arith, le))
taken_front {X = X} (suc n) (suc m) (x ∷ xs) ys le =
    let more = taken_front n m xs ys (omega (arith, le)) in
    (more.0, ap (λ (zs : List X). x ∷ zs) more.1)

front_fits : (opening : StateValue) (n : ℕ) (edits : List Edit) → IsTrue (all_fit opening edits) → IsTrue (all_fit opening (take n edits))
front_fits opening zero edits fit = refl
front_fits opening (suc n) [] fit = refl
front_fits opening (suc n) (edit ∷ edits) fit =
    let parts = and_parts (fits opening edit) (all_fit (applied opening edit) edits) fit in
    rw parts.0 (front_fits (applied opening edit) n edits parts.1)

-- what is sound at a state is sound at each later one
pub sound_on : (opening : StateValue) (edits more : List Edit) (n m : ℕ) (caches : Caches) → IsProper opening → IsTrue (all_fit opening (edits ++ more)) → n ≤ m
    → AreSound (at opening edits n) caches → AreSound (at opening (edits ++ more) m) caches
sound_on opening edits more n m caches proper fit le kept =
    let (rest, is) = taken_front n m edits more le in
    let fitting : IsTrue (all_fit opening (take n edits ++ rest)) = subst (λ (es : List Edit). IsTrue (all_fit opening es)) is (front_fits opening m (edits ++ more) fit) in
    let both = both_fit opening (take n edits) rest fitting in
    let state : StateValue = led_to opening (take n edits) in
    let sound = sound_stays_lem state rest caches (keeps_proper opening (take n edits) proper both.first) both.later kept in
    let same : at opening (edits ++ more) m ≡ led_to state rest = ap (led_to opening) is ∙ fold-append applied opening (take n edits) rest in
    subst (λ (one : StateValue). AreSound one caches) (sym same) sound
