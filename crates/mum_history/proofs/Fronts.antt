-- The states after the fronts of a list of edits.
use Rattle.std.proofs.Common.{◌≡◌, ℕ, zero, suc, ◌+◌, ◌<◌, ◌≤◌, List, [], ◌∷◌, ◌++◌, length, get_or, Some, refl, sym, ap, ◌∙◌, arith, length-append}
use Rattle.std.proofs.{lemmas.Bool.and_parts, lemmas.List.take-append-le, lemmas.Option.slice_get_read, Math.Seq.take-length}
use Rattle.std.specs.Prelude.{IsTrue, slice_get}
use Rattle.std.specs.List.{All}
use Rattle.mum_state.specs.declared.edit.Edit.{Edit}
use Rattle.mum_state.specs.{After.all_fit, After.at, After.led_to, Applied.applied, Fits.fits, State.StateValue}
use Rattle.mum_history.specs.{Kept.IsKept, View.IsViewOf, View.ViewValue}

-- ---- each edit fits in its place, and leads on

pub edit_fits : (opening : StateValue) (edits : List Edit) (i : ℕ) (edit : Edit) → IsTrue (all_fit opening edits) → slice_get edits i ≡ Some edit
    → IsTrue (fits (at opening edits i) edit)
edit_fits opening [] i edit fit found = cc
edit_fits opening (first ∷ edits) zero edit fit found =
    let same : first ≡ edit = cc in
    let parts = and_parts (fits opening first) (all_fit (applied opening first) edits) fit in
    rw (sym same) parts.0
edit_fits opening (first ∷ edits) (suc i) edit fit found =
    let parts = and_parts (fits opening first) (all_fit (applied opening first) edits) fit in
    edit_fits (applied opening first) edits i edit parts.1 found

pub edit_leads : (opening : StateValue) (edits : List Edit) (i : ℕ) (edit : Edit) → slice_get edits i ≡ Some edit
    → at opening edits (suc i) ≡ applied (at opening edits i) edit
edit_leads opening [] i edit found = cc
edit_leads opening (first ∷ edits) zero edit found = let same : first ≡ edit = cc in ap (applied opening) same
edit_leads opening (first ∷ edits) (suc i) edit found = edit_leads (applied opening first) edits i edit found

-- the same of an edit that is read at its place
pub read_fits : (opening : StateValue) (edits : List Edit) (i : ℕ) (edit : Edit) → IsTrue (all_fit opening edits) → i < length edits → edit ≡ get_or edits i edit
    → IsTrue (fits (at opening edits i) edit)
read_fits opening edits i edit fit within is = edit_fits opening edits i edit fit (slice_get_read edits (length edits) i edit refl within is)

pub read_leads : (opening : StateValue) (edits : List Edit) (i : ℕ) (edit : Edit) → i < length edits → edit ≡ get_or edits i edit
    → at opening edits (i + 1) ≡ applied (at opening edits i) edit
read_leads opening edits i edit within is =
    let next : i + 1 ≡ suc i = omega arith in
    rw next (edit_leads opening edits i edit (slice_get_read edits (length edits) i edit refl within is))

pub at_all : (opening : StateValue) (edits : List Edit) → at opening edits (length edits) ≡ led_to opening edits
at_all opening edits = ap (led_to opening) (take-length edits)

-- ---- one edit more

pub led_on : (opening : StateValue) (edits : List Edit) (edit : Edit) → led_to opening (edits ++ edit ∷ []) ≡ applied (led_to opening edits) edit
led_on opening [] edit = refl
led_on opening (first ∷ edits) edit = led_on (applied opening first) edits edit

pub all_fit_on : (opening : StateValue) (edits : List Edit) (edit : Edit) → IsTrue (all_fit opening edits) → IsTrue (fits (led_to opening edits) edit)
    → IsTrue (all_fit opening (edits ++ edit ∷ []))
all_fit_on opening [] edit fit next = rw next refl
all_fit_on opening (first ∷ edits) edit fit next =
    let parts = and_parts (fits opening first) (all_fit (applied opening first) edits) fit in
    let later = all_fit_on (applied opening first) edits edit parts.1 next in
    rw (parts.0, later) refl

-- a front stays what it was
pub at_front : (opening : StateValue) (edits more : List Edit) (i : ℕ) → i ≤ length edits → at opening (edits ++ more) i ≡ at opening edits i
at_front opening edits more i within = ap (led_to opening) (take-append-le i edits more within)

-- ---- what a history keeps

pub kept_on : (opening : StateValue) (accepted new : List Edit) (published : ℕ) (current next : StateValue) (edit : Edit)
    → IsKept opening accepted published current → new ≡ accepted ++ edit ∷ [] → IsTrue (fits (led_to opening accepted) edit)
    → next ≡ applied (led_to opening accepted) edit → IsKept opening new published next
kept_on opening accepted new published current next edit kept grown fit led =
    let within = kept.published_accepted in
    rw grown (record {
      fitted = all_fit_on opening accepted edit kept.fitted fit;
      published_accepted = omega (arith, within, length-append accepted (edit ∷ []));
      current_led = led ∙ sym (led_on opening accepted edit);
    })

-- a view stays one when edits are added at the end
pub views_stay : (opening : StateValue) (edits more : List Edit) (view : ViewValue) → IsViewOf opening edits view → IsViewOf opening (edits ++ more) view
views_stay opening edits more view is =
    let within = is.within in
    record {
      within = omega (arith, within, length-append edits more);
      state_is = is.state_is ∙ sym (at_front opening edits more view.revision is.within);
    }

pub all_views_stay : (opening : StateValue) (edits more : List Edit) (views : List ViewValue) → All (IsViewOf opening edits) views → All (IsViewOf opening (edits ++ more)) views
all_views_stay opening edits more views all k d within = views_stay opening edits more (get_or views k d) (all k d within)
