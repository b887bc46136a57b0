-- The lines of the steps of a recording: words separated by one space.
use Rattle.std.specs.Prelude.{◌≡◌, ℕ, ◌^◌, ◌<◌, List, [], ◌∷◌, Option, Some, None, IfSome, codes}
use Rattle.std.specs.Fmt.{decimal}
use Rattle.hex.specs.Hex.{encode_lower, IsBytes}
use Rattle.mum_base.specs.declared.number.Cause.{Cause}
use Rattle.mum_frame.specs.Frame.{IsOneFrame}
use Rattle.mum_record.specs.declared.step.Step.{Step}
use Rattle.mum_record.specs.Words.{line_of_words}
use Rattle.mum_record.specs.declared.step.Step.TheVariants.{Open, Frame, Edit, Publish, Tell, Look, Offer, Post, Drain, Collect, Close, End}
use Rattle.mum_base.specs.declared.number.Cause.TheVariants as causes

-- why a connection ended; no recording says the last of them
abbrev pub cause_word : Cause → List ℕ
cause_word causes.End = codes "end"
cause_word causes.LinkFault = codes "fault"
cause_word causes.FrameTooLong = codes "toolong"
cause_word causes.Rejected = codes "rejected"
cause_word causes.Kicked = codes "kicked"
cause_word causes.Lagged = codes "lagged"
cause_word causes.Memory = codes "memory"

-- a revision, or a dash where there is none
abbrev pub revision_word : Option ℕ → List ℕ
revision_word None = codes "-"
revision_word (Some revision) = decimal revision

-- numbers are decimal without leading zeros, and bytes are digits 0 to 9 and a to f, two for each
unfoldable pub words_of : Step → List (List ℕ)
words_of (Open connection worker) = codes "open" ∷ decimal connection ∷ decimal worker ∷ []
words_of (Frame connection bytes) = codes "frame" ∷ decimal connection ∷ encode_lower bytes ∷ []
words_of (Edit connection) = codes "edit" ∷ decimal connection ∷ []
words_of Publish = codes "publish" ∷ []
words_of (Tell connection revision) = codes "tell" ∷ decimal connection ∷ revision_word revision ∷ []
words_of (Look worker revision) = codes "look" ∷ decimal worker ∷ decimal revision ∷ []
words_of (Offer worker) = codes "offer" ∷ decimal worker ∷ []
words_of Post = codes "post" ∷ []
words_of (Drain connection) = codes "drain" ∷ decimal connection ∷ []
words_of (Collect connection) = codes "collect" ∷ decimal connection ∷ []
words_of (Close connection cause) = codes "close" ∷ decimal connection ∷ cause_word cause ∷ []
words_of End = codes "end" ∷ []

-- the line of a step, without its line feed
abbrev pub line_of : Step → List ℕ
line_of step = line_of_words (words_of step)

-- a cause that a recording may say
abbrev pub IsRecordedCause : Cause → Type 0
IsRecordedCause causes.Memory = ⊥
IsRecordedCause _ = Unit {0}

-- connections and workers fit 32 bits, revisions 64, and bytes 8
abbrev pub FitsTypes : Step → Type 0
FitsTypes (Open connection worker) = (connection < 2 ^ 32) × (worker < 2 ^ 32)
FitsTypes (Frame connection bytes) = (connection < 2 ^ 32) × IsBytes bytes
FitsTypes (Edit connection) = connection < 2 ^ 32
FitsTypes Publish = Unit {0}
FitsTypes (Tell connection revision) = (connection < 2 ^ 32) × IfSome revision (λ r. r < 2 ^ 64)
FitsTypes (Look worker revision) = (worker < 2 ^ 32) × (revision < 2 ^ 64)
FitsTypes (Offer worker) = worker < 2 ^ 32
FitsTypes Post = Unit {0}
FitsTypes (Drain connection) = connection < 2 ^ 32
FitsTypes (Collect connection) = connection < 2 ^ 32
FitsTypes (Close connection cause) = connection < 2 ^ 32
FitsTypes End = Unit {0}

-- what no type says: the bytes are exactly one frame, and a recording may say the cause
abbrev pub IsWritable : Step → Type 0
IsWritable (Frame connection bytes) = IsOneFrame bytes
IsWritable (Close connection cause) = IsRecordedCause cause
IsWritable _ = Unit {0}

-- a step that has a line
abbrev pub IsRecordable : Step → Type 0
IsRecordable step = FitsTypes step × IsWritable step

-- a line says a step: the step has a line, and it is this one
abbrev pub IsLineOf : List ℕ → Step → Type 0
IsLineOf line step = IsRecordable step × (line ≡ line_of step)
