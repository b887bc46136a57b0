-- What is decoded after the pass over a payload.
use Rattle.mum_fields.proofs.Common.{◌≡◌, ℕ, List, Option, Some, None, Result, Ok, Err, refl, sym, ap, subst, ◌∙◌, IsOk, FieldFault, MessageFault, Entry, Walk, first_fault, unless, Refuses, Decodes, Gathers, Layout, Values, no_values, values_after, rules, missing, unless_missing, whole, gathered, spelled_size}
use Rattle.mum_fields.specs.declared.message.MessageFault.TheVariants as faults

abbrev told : {X : Type 0} → X → Result X MessageFault
told x = Ok x

abbrev refused : {X : Type 0} → MessageFault → Result X MessageFault
refused e = Err e

same_fault : (d e : MessageFault) → refused {X = ℕ} d ≡ refused e → d ≡ e
same_fault d e h = cc

-- what a payload comes to is never out of memory
never_starved : (form : Layout) (w : Walk Entry) → whole form (gathered form w) ≡ refused faults.OutOfMemory → ⊥
never_starved form w h = by_fault (first_fault (rules form) w.items w.fault) refl
  where
    values : Values form
    values = values_after form (no_values form) w.items

    by_missing : (o : Option ℕ) → unless_missing o values ≡ refused faults.OutOfMemory → ⊥
    by_missing (Some number) e = cc
    by_missing None e = cc

    by_fault : (f : Option FieldFault) → first_fault (rules form) w.items w.fault ≡ f → ⊥
    by_fault (Some fault) is = let e = sym (ap (λ f. whole form (unless f values)) is) ∙ h in cc
    by_fault None is = by_missing (missing form values) (sym (ap (λ f. whole form (unless f values)) is) ∙ h)

refuses : (form : Layout) (r : Result (Values form) MessageFault) (e : MessageFault) → (r ≡ refused faults.OutOfMemory → ⊥) → refused e ≡ spelled_size form r → Refuses (IsOk r) e r
refuses form (Ok values) e never h = absurd cc
refuses form (Err (faults.Field fault)) e never h = subst (λ d. Refuses (IsOk (refused {X = Values form} (faults.Field fault))) d (refused {X = Values form} (faults.Field fault))) (sym (same_fault e (faults.Field fault) h)) refl
refuses form (Err (faults.MissingField number)) e never h = subst (λ d. Refuses (IsOk (refused {X = Values form} (faults.MissingField number))) d (refused {X = Values form} (faults.MissingField number))) (sym (same_fault e (faults.MissingField number) h)) refl
refuses form (Err faults.OutOfMemory) e never h = absurd (never refl)

-- a payload that the pass refuses is refused by its fault
pub decodes-refused : {M : Type 0} (form : Layout) (view : M → Values form) (w : Walk Entry) (e : MessageFault) → refused e ≡ spelled_size form (whole form (gathered form w))
    → Decodes view (Err e) (whole form (gathered form w))
decodes-refused form view w e h = refuses form (whole form (gathered form w)) e (never_starved form w) h

is_ok : (form : Layout) (r : Result (Values form) MessageFault) (n : ℕ) → told n ≡ spelled_size form r → IsOk r
is_ok form (Ok values) n h = refl
is_ok form (Err e) n h = absurd cc

whole_values : (form : Layout) (values : Values form) (n : ℕ) (o : Option ℕ) → told n ≡ spelled_size form (unless_missing o values) → unless_missing o values ≡ told values
whole_values form values n (Some number) h = absurd cc
whole_values form values n None h = refl

-- and one that it lets on is decoded, unless memory runs out
pub decodes-gathered : {M : Type 0} (form : Layout) (view : M → Values form) (w : Walk Entry) (n : ℕ) (result : Result M MessageFault) → told n ≡ spelled_size form (whole form (gathered form w))
    → Gathers view result (gathered form w) → Decodes view result (whole form (gathered form w))
decodes-gathered form view w n (Ok m) h is = ap (whole form) is ∙ whole_values form (view m) n (missing form (view m)) (h ∙ ap (λ g. spelled_size form (whole form g)) is)
decodes-gathered form view w n (Err (faults.Field fault)) h is = ap (whole form) is
decodes-gathered form view w n (Err (faults.MissingField number)) h is = ap (whole form) is
decodes-gathered form view w n (Err faults.OutOfMemory) h is = is_ok form (whole form (gathered form w)) n h
