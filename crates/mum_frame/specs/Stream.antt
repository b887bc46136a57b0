-- The frames of a stream that comes in pieces.
use Rattle.std.specs.Prelude.{◌≡◌, ℕ, ◌*◌, ◌≤◌, max, List, ◌++◌, length, All, Option, Some, None, Result, Ok, Err, ⊤}
use Rattle.std.specs.List.{flat_map}
use Rattle.std.specs.declared.alloc.AllocError.{AllocError}
use Rattle.mum_frame.specs.declared.{frame.Frame.Frame, framer.TheConstants.ROOM_FACTOR, framer.TheConstants.ROOM_LIMIT}
use Rattle.mum_frame.specs.declared.framer.FrameFault.{FrameFault, TheVariants.FrameTooLong, TheVariants.OutOfMemory}
use Rattle.mum_frame.specs.Frame.{frame_spelling, IsFrame, HasNoFrame, TooLong, named_length}

-- the stream is these frames, and then what no frame within the limit begins
pub record Splits (stream : List ℕ) (frames : List Frame) (rest : List ℕ) : Type 0 where
  pub whole : stream ≡ flat_map frame_spelling frames ++ rest
  pub each : All IsFrame frames
  pub no_frame : HasNoFrame rest

-- the second list begins with the first
abbrev pub IsFront : List Frame → List Frame → Type 0
IsFront front frames = (more : List Frame) × (frames ≡ front ++ more)

-- what a framer holds: the bytes that were fed and not yet given, and for how many it has memory
pub record FramerState : Type 0 where
  pub kept : List ℕ
  pub room : ℕ

-- what `feed` does to the bytes that are kept
abbrev pub FeedKeeps : List ℕ → List ℕ → Result ⊤ AllocError → List ℕ → Type 0
FeedKeeps old piece (Ok done) new = new ≡ old ++ piece
FeedKeeps old piece (Err e) new = new ≡ old

-- what `next` answers, and does to the bytes that are kept
abbrev pub NextGives : List ℕ → Result (Option Frame) FrameFault → List ℕ → Type 0
NextGives old (Ok (Some frame)) new = IsFrame frame × (old ≡ frame_spelling frame ++ new)
NextGives old (Ok None) new = HasNoFrame old × (¬ TooLong old) × (new ≡ old)
NextGives old (Err (FrameTooLong length)) new = TooLong old × (length ≡ named_length old) × (new ≡ old)
NextGives old (Err OutOfMemory) new = (¬ HasNoFrame old) × (new ≡ old)

-- the room did not grow, and it is at most the limit or the fixed multiple of what is kept
pub record HasGivenBack (old new : FramerState) : Type 0 where
  pub no_more : new.room ≤ old.room
  pub little : new.room ≤ max ROOM_LIMIT (ROOM_FACTOR * length new.kept)

-- what `next` leaves: with a frame it gives room back, and any other answer changes nothing
abbrev pub NextLeaves : FramerState → Result (Option Frame) FrameFault → FramerState → Type 0
NextLeaves old (Ok (Some frame)) new = HasGivenBack old new
NextLeaves old (Ok None) new = new ≡ old
NextLeaves old (Err fault) new = new ≡ old
