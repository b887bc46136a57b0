-- What each answer of `next` says of the bytes that are kept.
use Rattle.mum_frame.proofs.Common.{◌≡◌, ℕ, List, Option, Some, None, Result, Ok, Err, refl, sym, ap, ◌∙◌, Frame, FrameFault, FrameTooLong, OutOfMemory, HasNoFrame, TooLong, named_length, NextGives}
use Rattle.mum_frame.proofs.Headers.{HasNoFrame-above_limit}

-- None comes where no frame begins and no length is too great
pub none_from : (old : List ℕ) (answer : Result (Option Frame) FrameFault) (new : List ℕ) → NextGives old answer new
    → answer ≡ Ok None → HasNoFrame old × (TooLong old → ⊥)
none_from old (Ok None) new is e = (is.0, is.1)
none_from old (Ok (Some frame)) new is e = cc
none_from old (Err (FrameTooLong length)) new is e = cc
none_from old (Err OutOfMemory) new is e = cc

-- and there it does come
pub none_to : (old : List ℕ) (answer : Result (Option Frame) FrameFault) (new : List ℕ) → NextGives old answer new
    → HasNoFrame old × (TooLong old → ⊥) → answer ≡ Ok None
none_to old (Ok None) new is stuck = refl
none_to old (Ok (Some frame)) new is stuck = absurd (stuck.0 frame new is.0 is.1)
none_to old (Err (FrameTooLong length)) new is stuck = absurd (stuck.1 is.0)
none_to old (Err OutOfMemory) new is stuck = absurd (is.0 stuck.0)

-- a length that is refused is above the limit
pub too_long_from : (old : List ℕ) (answer : Result (Option Frame) FrameFault) (new : List ℕ) (length : ℕ) → NextGives old answer new
    → answer ≡ Err (FrameTooLong length) → TooLong old × (length ≡ named_length old)
too_long_from old (Ok None) new length is e = cc
too_long_from old (Ok (Some frame)) new length is e = cc
too_long_from old (Err (FrameTooLong named)) new length is e =
    let same : named ≡ length = cc in
    (is.0, sym same ∙ is.1)
too_long_from old (Err OutOfMemory) new length is e = cc

-- and a length above the limit is refused
pub too_long_to : (old : List ℕ) (answer : Result (Option Frame) FrameFault) (new : List ℕ) → NextGives old answer new
    → TooLong old → answer ≡ Err (FrameTooLong (named_length old))
too_long_to old (Ok None) new is above = absurd (is.1 above)
too_long_to old (Ok (Some frame)) new is above = absurd (HasNoFrame-above_limit old above frame new is.0 is.1)
too_long_to old (Err (FrameTooLong length)) new is above = ap (λ (n : ℕ). Err (FrameTooLong n)) is.1
too_long_to old (Err OutOfMemory) new is above = absurd (is.0 (HasNoFrame-above_limit old above))

-- out of memory where a frame begins
pub NextGives-out_of_memory : (old : List ℕ) (answer : Result (Option Frame) FrameFault) → answer ≡ Err OutOfMemory → (HasNoFrame old → ⊥) → NextGives old answer old
NextGives-out_of_memory old answer e whole = rw e (whole, refl)
