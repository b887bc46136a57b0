-- What is kept is sound at each later look.
use Rattle.mum_router.proofs.Common.{◌≡◌, List, [], ◌∷◌, ◌++◌, ap, subst, sym, ◌∙◌, IsTrue, and_parts, fold-append, IsPrefix, Edit, all_fit, led_to, applied, fits, IsProper, StateValue, keeps_proper_lem, prefix_fits, Caches, AreSound, sound_stays_lem}

-- ---- edits after others

back_fits : (state : StateValue) (edits more : List Edit) → IsTrue (all_fit state (edits ++ more)) → IsTrue (all_fit (led_to state edits) more)
back_fits state [] more fit = fit
back_fits state (edit ∷ edits) more fit =
    back_fits (applied state edit) edits more (and_parts (fits state edit) (all_fit (applied state edit) (edits ++ more)) fit).1

-- those after the first of a list fit from where the first lead
pub rest_fits : (state : StateValue) (edits all : List Edit) (front : IsPrefix edits all) → IsTrue (all_fit state all) → IsTrue (all_fit (led_to state edits) front.0)
rest_fits state edits all front fit =
    back_fits state edits front.0 (subst (λ (list : List Edit). IsTrue (all_fit state list)) (sym front.1) fit)

-- and lead from there to where all lead
pub rest_leads : (state : StateValue) (edits all : List Edit) (front : IsPrefix edits all) → led_to state all ≡ led_to (led_to state edits) front.0
rest_leads state edits all front = ap (led_to state) (sym front.1) ∙ fold-append applied state edits front.0

-- the first lead to a proper state
pub front_proper : (state : StateValue) (edits all : List Edit) → IsProper state → IsPrefix edits all → IsTrue (all_fit state all) → IsProper (led_to state edits)
front_proper state edits all proper front fit = keeps_proper_lem state edits proper (prefix_fits state edits all front fit)

-- ---- what is kept

pub sound_later : (caches : Caches) (state : StateValue) (edits all : List Edit) → IsProper state → IsPrefix edits all → IsTrue (all_fit state all)
    → AreSound (led_to state edits) caches → AreSound (led_to state all) caches
sound_later caches state edits all proper front fit sound =
    subst (λ (later : StateValue). AreSound later caches) (sym (rest_leads state edits all front))
    (sound_stays_lem (led_to state edits) front.0 caches (front_proper state edits all proper front fit) (rest_fits state edits all front fit) sound)
