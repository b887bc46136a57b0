-- What a framer was called with and answered, in any order of `feed` and `next`.
use Rattle.std.specs.Prelude.{◌≡◌, List, [], ◌∷◌, ◌++◌, ℕ, Option, Some, None, Result, Ok, Err, ⊤}
use Rattle.std.specs.declared.alloc.AllocError.{AllocError}
use Rattle.mum_frame.specs.declared.{frame.Frame.Frame, framer.FrameFault.FrameFault}
use Rattle.mum_frame.specs.Stream.{FeedKeeps, NextGives}

-- a call of `feed` with its piece, or of `next`, and the answer
pub data Call : Type 0 where
  fed : List ℕ → Result ⊤ AllocError → Call
  asked : Result (Option Frame) FrameFault → Call

-- the calls, one after another, lead from these kept bytes to those
abbrev pub Leads : List ℕ → List Call → List ℕ → Type 0
Leads old [] new = new ≡ old
Leads old (fed piece answer ∷ calls) new = (kept : List ℕ) × (FeedKeeps old piece answer kept × Leads kept calls new)
Leads old (asked answer ∷ calls) new = (kept : List ℕ) × (NextGives old answer kept × Leads kept calls new)

-- the pieces that were taken, joined
abbrev pub bytes_fed : List Call → List ℕ
bytes_fed [] = []
bytes_fed (fed piece (Ok done) ∷ calls) = piece ++ bytes_fed calls
bytes_fed (fed piece (Err e) ∷ calls) = bytes_fed calls
bytes_fed (asked answer ∷ calls) = bytes_fed calls

abbrev pub frames_given : List Call → List Frame
frames_given [] = []
frames_given (asked (Ok (Some frame)) ∷ calls) = frame ∷ frames_given calls
frames_given (asked (Ok None) ∷ calls) = frames_given calls
frames_given (asked (Err fault) ∷ calls) = frames_given calls
frames_given (fed piece answer ∷ calls) = frames_given calls
