-- What is kept is sound after an edit.
use Rattle.std.proofs.Common.{◌≡◌, true, List, [], ◌∷◌, Result, Ok, Err, ap, subst, sym}
use Rattle.std.specs.Prelude.{◌&&◌, Bool, IsTrue, OnErr, OnOk}
use Rattle.mum_state.specs.declared.edit.Edit.{Edit}
use Rattle.mum_state.specs.{Applied.applied, Fits.fits, Proper.IsProper, State.StateValue}
use Rattle.mum_cache.proofs.Public.{nothing_is_sound_lem, sound_stays_lem}
use Rattle.mum_cache.specs.declared.perms.PermEntry.{PermEntry}
use Rattle.mum_cache.specs.{Perms.ArePermsSound, Routes.no_routes}

pub followed : {A E : Type 0} (state new : StateValue) (edit : Edit) (perms : List PermEntry) (r : Result A E) → IsProper state → IsTrue (fits state edit)
    → OnOk r (new ≡ applied state edit) → OnErr r (new ≡ state) → ArePermsSound state perms → ArePermsSound new perms
followed state new edit perms (Ok done) proper fit ok err sound =
    subst (λ (s : StateValue). ArePermsSound s perms) (sym ok)
    (sound_stays_lem state (edit ∷ []) (record { perms = perms; routes = no_routes }) proper (ap (λ (b : Bool). b && true) fit)
    (record { perms = sound; routes = (nothing_is_sound_lem state).routes })).perms
followed state new edit perms (Err error) proper fit ok err sound = subst (λ (s : StateValue). ArePermsSound s perms) (sym err) sound
