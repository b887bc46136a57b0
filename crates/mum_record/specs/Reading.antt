-- The step that a line says, computed from its words.
use Rattle.std.specs.Prelude.{ℕ, ◌&&◌, List, [], ◌∷◌, Option, Some, None, if◌then◌else◌, option_and_then, option_map, codes}
use Rattle.std.specs.{Str.bytes_eq, Result.result_ok}
use Rattle.hex.specs.Hex.{encode_lower, decode_of}
use Rattle.mum_base.specs.declared.number.Cause.{Cause}
use Rattle.mum_frame.specs.Frame.{is_one_frame}
use Rattle.mum_record.specs.Words.{words_in, place_of, revision_of}
use Rattle.mum_record.specs.declared.step.Step.{Step}
use Rattle.mum_record.specs.declared.step.Step.TheVariants.{Open, Frame, Edit, Publish, Tell, Look, Offer, Post, Drain, Collect, Close, End}
use Rattle.mum_base.specs.declared.number.Cause.TheVariants as causes

-- the frame whose digits the word is
unfoldable pub frame_of : List ℕ → Option (List ℕ)
frame_of word =
    option_and_then (λ bytes. if bytes_eq word (encode_lower bytes) && is_one_frame bytes then Some bytes else None)
    (result_ok (decode_of word))

-- a revision, or none
unfoldable pub told_of : List ℕ → Option (Option ℕ)
told_of word = if bytes_eq word (codes "-") then Some None else option_map Some (revision_of word)

-- the cause that a word of a recording says
unfoldable pub cause_of : List ℕ → Option Cause
cause_of word =
    if bytes_eq word (codes "end") then Some causes.End
    else if bytes_eq word (codes "fault") then Some causes.LinkFault
    else if bytes_eq word (codes "toolong") then Some causes.FrameTooLong
    else if bytes_eq word (codes "rejected") then Some causes.Rejected
    else if bytes_eq word (codes "kicked") then Some causes.Kicked
    else if bytes_eq word (codes "lagged") then Some causes.Lagged
    else None

-- a step of one word
unfoldable pub step_of_verb : List ℕ → Option Step
step_of_verb verb =
    if bytes_eq verb (codes "publish") then Some Publish
    else if bytes_eq verb (codes "post") then Some Post
    else if bytes_eq verb (codes "end") then Some End
    else None

-- a step of a word and a connection or a worker
unfoldable pub step_naming : List ℕ → ℕ → Option Step
step_naming verb number =
    if bytes_eq verb (codes "edit") then Some (Edit number)
    else if bytes_eq verb (codes "offer") then Some (Offer number)
    else if bytes_eq verb (codes "drain") then Some (Drain number)
    else if bytes_eq verb (codes "collect") then Some (Collect number)
    else None

-- a step of those and a third word
unfoldable pub step_with : List ℕ → ℕ → List ℕ → Option Step
step_with verb number word =
    if bytes_eq verb (codes "open") then option_map (Open number) (place_of word)
    else if bytes_eq verb (codes "frame") then option_map (Frame number) (frame_of word)
    else if bytes_eq verb (codes "tell") then option_map (Tell number) (told_of word)
    else if bytes_eq verb (codes "look") then option_map (Look number) (revision_of word)
    else if bytes_eq verb (codes "close") then option_map (Close number) (cause_of word)
    else None

-- the step that the words of a line say
unfoldable pub step_of_words : List (List ℕ) → Option Step
step_of_words [] = None
step_of_words (verb ∷ []) = step_of_verb verb
step_of_words (verb ∷ name ∷ []) = option_and_then (step_naming verb) (place_of name)
step_of_words (verb ∷ name ∷ word ∷ []) = option_and_then (λ number. step_with verb number word) (place_of name)
step_of_words (verb ∷ name ∷ word ∷ more ∷ others) = None

-- the step that a line says, if it says one
unfoldable pub step_of : List ℕ → Option Step
step_of line = step_of_words (words_in line)
