-- What the words of the command line ask for.
use Rattle.std.specs.Prelude.{ℕ, List, [], ◌∷◌, Option, Some, None, codes, option_and_then, if◌then◌else◌}
use Rattle.std.specs.{Option.option_map, Str.bytes_eq}
use Rattle.mum_base.specs.declared.number.{ChannelId.ChannelId, SessionId.SessionId}
use Rattle.mum_record.specs.Words.{number_within, place_of, revision_of}
use Rattle.mum_route.specs.declared.routes.TheConstants.{LOOPBACK}
use Rattle.murmur_why.specs.declared.words.Command.{Command}
use Rattle.murmur_why.specs.declared.words.Command.TheVariants.{Heard, May, Other, Who}

-- numbers of sessions and channels fit 32 bits
abbrev pub session_numbered : ℕ → SessionId
session_numbered n = record { 0 = n }

abbrev pub channel_numbered : ℕ → ChannelId
channel_numbered n = record { 0 = n }

unfoldable pub session_of : List ℕ → Option SessionId
session_of word = option_map session_numbered (place_of word)

unfoldable pub channel_of : List ℕ → Option ChannelId
channel_of word = option_map channel_numbered (place_of word)

-- a target is at most loopback
unfoldable pub target_of : List ℕ → Option ℕ
target_of word = number_within 0 LOOPBACK word

-- a line, or each line
unfoldable pub every_or : List ℕ → Option (Option ℕ)
every_or word = if bytes_eq word (codes "-") then Some None else option_map Some (revision_of word)

-- a number that may be left out
unfoldable pub number_if_given : List (List ℕ) → Option (Option ℕ)
number_if_given [] = Some None
number_if_given (word ∷ []) = option_map Some (revision_of word)
number_if_given (word ∷ more ∷ others) = None

-- the words after the verb
unfoldable pub heard_of : List (List ℕ) → Option Command
heard_of [] = None
heard_of (line ∷ []) = option_map (λ (l : Option ℕ). Heard l None) (every_or line)
heard_of (line ∷ session ∷ []) =
    option_and_then (λ (l : Option ℕ). option_map (λ (s : SessionId). Heard l (Some s)) (session_of session))
    (every_or line)
heard_of (line ∷ session ∷ more ∷ others) = None

unfoldable pub who_of : List (List ℕ) → Option Command
who_of [] = None
who_of (speaker ∷ []) = None
who_of (speaker ∷ target ∷ rest) =
    option_and_then (λ (s : SessionId). option_and_then (λ (t : ℕ).
    option_map (λ (r : Option ℕ). Who s t r) (number_if_given rest)) (target_of target)) (session_of speaker)

unfoldable pub may_of : List (List ℕ) → Option Command
may_of [] = None
may_of (session ∷ []) = None
may_of (session ∷ channel ∷ rest) =
    option_and_then (λ (s : SessionId). option_and_then (λ (c : ChannelId).
    option_map (λ (r : Option ℕ). May s c r) (number_if_given rest)) (channel_of channel)) (session_of session)

unfoldable pub other_of : List (List ℕ) → Option Command
other_of [] = None
other_of (file ∷ []) = Some Other
other_of (file ∷ more ∷ others) = None

-- what words ask for
unfoldable pub command_of : List (List ℕ) → Option Command
command_of [] = None
command_of (verb ∷ rest) =
    if bytes_eq verb (codes "heard") then heard_of rest
    else if bytes_eq verb (codes "who") then who_of rest
    else if bytes_eq verb (codes "may") then may_of rest
    else if bytes_eq verb (codes "other") then other_of rest
    else None
