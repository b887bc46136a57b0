-- What is to be written to a link.
use Rattle.std.specs.Prelude.{◌≡◌, ℕ, ◌<◌, List, [], ◌++◌, length, All, Option}
use Rattle.std.specs.List.{concat}
use Rattle.mum_io.specs.Link.{Appends}
use Rattle.mum_io.specs.declared.link.PollWrite.{PollWrite}
use Rattle.mum_port.specs.declared.front.Held.{Held, TheVariants.Nothing, TheVariants.Wire, TheVariants.Voice}
use Rattle.mum_io.specs.declared.link.PollWrite.TheVariants as written

-- the frame at the front: none, one with bytes of its own, or the one in the room for voice
abbrev pub frame_at_front : Held → List ℕ → List ℕ
frame_at_front Nothing voice = []
frame_at_front (Wire bytes) voice = bytes
frame_at_front Voice voice = voice

-- what is left of the frame at the front, and the frames after it
abbrev pub unwritten : List ℕ → List (List ℕ) → List ℕ
unwritten front wires = front ++ concat wires

-- each frame has a byte
abbrev pub HaveBytes : List (List ℕ) → Type 0
HaveBytes wires = All (λ wire. 0 < length wire) wires

-- some bytes were written where the link took some, and else none
abbrev pub Wrote : PollWrite → List ℕ → Type 0
Wrote (written.Took n) wrote = 0 < length wrote
Wrote written.NotYet wrote = wrote ≡ []
Wrote written.Failed wrote = wrote ≡ []

-- the first bytes of those that are to be written were written, and the others are to be
pub record WritesFirst (before after : Option (List ℕ)) (answer : PollWrite) (old new : List ℕ) : Type 0 where
  pub wrote : List ℕ
  pub bytes : old ≡ wrote ++ new
  pub appended : Appends before after wrote
  pub some : Wrote answer wrote
