-- The numbers of what a stream is closed for.
use Rattle.std.specs.Prelude.{ℕ, Option, Some, None}
use Rattle.mum_frame.specs.declared.framer.FrameFault.{FrameFault, TheVariants.FrameTooLong, TheVariants.OutOfMemory}

-- that memory ran out has no number
abbrev pub frame_fault_code : FrameFault → Option ℕ
frame_fault_code (FrameTooLong length) = Some 10
frame_fault_code OutOfMemory = None
