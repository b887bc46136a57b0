-- Views of a frame inside the bytes that hold it.
use Rattle.std.specs.Prelude.{◌≡◌, ◌+◌, ℕ, List, ◌++◌, length, drop}
use Rattle.mum_frame.specs.declared.frame.{TheConstants.HEADER_LENGTH, Frame.Frame, FrameView.FrameView}
use Rattle.mum_frame.specs.declared.frame.FirstFrame.{FirstFrame}
use Rattle.mum_frame.specs.declared.frame.FirstFrame.TheVariants.{Whole, Partial, AboveLimit}
use Rattle.mum_frame.specs.Frame.{frame_spelling, IsFrame, HasNoFrame, TooLong, named_length}

-- the frame that a view shows
abbrev pub viewed : FrameView → Frame
viewed view = record { kind = view.kind; payload = view.payload.now }

-- how the bytes begin
abbrev pub IsFirst : List ℕ → FirstFrame → Type 0
IsFirst bytes (Whole view) =
    IsFrame (viewed view)
    × (bytes ≡ frame_spelling (viewed view) ++ drop (HEADER_LENGTH + length view.payload.now) bytes)
IsFirst bytes Partial = HasNoFrame bytes × ¬ TooLong bytes
IsFirst bytes (AboveLimit length) = TooLong bytes × (length ≡ named_length bytes)
