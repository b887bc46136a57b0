-- Edits after limits that are set in the empty server.
use Rattle.std.proofs.Common.{◌≡◌, ◌∙◌, ℕ, List, [], ◌∷◌, ◌++◌, ap}
use Rattle.std.specs.Prelude.{IsTrue}
use Rattle.mum_state.specs.declared.edit.Edit.{Edit, TheVariants.SetLimits}
use Rattle.mum_state.specs.{After.after, After.all_fit, After.led_to, Fits.fits, State.StateValue, State.empty_state}
use Rattle.mum_config.specs.Limits.{FitAfterLimits}

-- edits that fit after limits fit the state that setting these leaves
pub fit_after : (limits : ℕ × ℕ) (first : Edit) (edits : List Edit) (state : StateValue) → FitAfterLimits edits → IsTrue (fits empty_state (SetLimits limits.0 limits.1))
    → first ≡ SetLimits limits.0 limits.1 → state ≡ after (first ∷ []) → IsTrue (all_fit state edits)
fit_after limits first edits state limited fit is leads = rw (leads, is) (limited limits.0 limits.1 fit)

-- and lead to where limits and edits in one list lead
pub led_after : (limits : ℕ × ℕ) (first : Edit) (edits : List Edit) (state led : StateValue) → first ≡ SetLimits limits.0 limits.1 → state ≡ after (first ∷ []) → led ≡ led_to state edits
    → led ≡ after ((SetLimits limits.0 limits.1 ∷ []) ++ edits)
led_after limits first edits state led is leads last =
    last ∙ ap (λ (s : StateValue). led_to s edits) leads ∙ ap (λ (one : Edit). after ((one ∷ []) ++ edits)) is
