-- What a look finds, and whether the text that was kept is still right.
use Rattle.mum_viewer.proofs.Common.{◌≡◌, ℕ, ◌==◌, List, length, Option, Some, None, Result, Ok, Err, true, sym, ap, ◌∙◌, arith, IfOk, IfSome, AllocError, eqb-true, prefix_whole, MayMeet, looked, state_of, PassFacts, Ask, StateValue, Edit, Looks, picture_of, picture_text, view_text, Picture}

-- a look that saw as many edits as were known saw these
pub same_known : (old new : PassFacts) (edits : List Edit) (ask : Ask) (before after : ℕ) → MayMeet old edits → new ≡ looked old edits ask
    → before ≡ length old.known → after ≡ length new.known → (after == before) ≡ true → new.known ≡ old.known
same_known old new edits ask before after met is was now same =
    let seen : new.known ≡ edits = ap (λ (pass : PassFacts). pass.known) is in
    let long : after ≡ length edits = now ∙ ap (λ (es : List Edit). length es) seen in
    let equal : after ≡ before = eqb-true after before same in
    seen ∙ sym (prefix_whole old.known edits met.known (omega (arith, long, equal, was)))

pub kept_is : (kept : Option (List ℕ)) (old new : PassFacts) (picture : Picture) → IfSome kept (λ text. text ≡ view_text (state_of old.opening old.known))
    → Looks picture_of old (Ok picture) new → new.known ≡ old.known → IfSome kept (λ text. text ≡ picture_text picture)
kept_is None old new picture was found same = tt
kept_is (Some text) old new picture was found same =
    let seen : old.known ≡ found.edits = sym same ∙ ap (λ (pass : PassFacts). pass.known) found.asked in
    was ∙ (ap (λ (es : List Edit). view_text (state_of old.opening es)) seen ∙ sym (ap picture_text found.is))

pub found_text : (old new : PassFacts) (picture : Picture) (text : Result (List ℕ) AllocError) → Looks picture_of old (Ok picture) new
    → IfOk text (λ found. found ≡ picture_text picture) → Looks view_text old text new
found_text old new picture (Ok text) found is = record { edits = found.edits; met = found.met; asked = found.asked; is = is ∙ ap picture_text found.is }
found_text old new picture (Err error) found is = record { edits = found.edits; met = found.met; asked = found.asked; is = tt }

pub nothing_found : {X Y : Type 0} (shows : StateValue → X) (other : StateValue → Y) (old new : PassFacts) (found : Result X AllocError) (error : AllocError)
    → Looks shows old found new → Looks other old (Err error) new
nothing_found shows other old new found error look = record { edits = look.edits; met = look.met; asked = look.asked; is = tt }
