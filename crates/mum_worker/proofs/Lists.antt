-- Elements of which all stay.
use Rattle.mum_worker.proofs.CommonNames.{◌≡◌, ℕ, ◌+◌, ◌<◌, Bool, true, false, if◌then◌else◌, ◌||◌, not, List, [], ◌∷◌, ◌++◌, length, take, filter, refl, sym, ap, subst, ◌∙◌, take_more_set, filter-append}
use Rattle.std.proofs.Common.{set}

neither : (a b : Bool) → (a || not b) ≡ false → (a ≡ false) × (b ≡ true)
neither false true e = (refl, refl)
neither false false e = absurd (cc e)
neither true b e = absurd (cc e)

-- one more of a list from which nothing is to be left out
pub all_stay_on : {P : Type 0} (stays : P → Bool) (now : List P) (k : ℕ) (new : P) (gone gone_on : Bool) → k < length now
    → (gone ≡ false → filter stays (take k now) ≡ take k now) → gone_on ≡ gone || not (stays new)
    → gone_on ≡ false → filter stays (take (k + 1) (set now k new)) ≡ take (k + 1) (set now k new)
all_stay_on stays now k new gone gone_on within before is e =
    let none = neither gone (stays new) (sym is ∙ e) in
    let one : filter stays (new ∷ []) ≡ new ∷ [] = ap (λ b. if b then new ∷ [] else []) none.1 in
    subst (λ l. filter stays l ≡ l) (sym (take_more_set now k new within))
    (filter-append stays (take k now) (new ∷ [])
    ∙ (ap (λ l. l ++ filter stays (new ∷ [])) (before none.0) ∙ ap (λ l. take k now ++ l) one))
