-- The lines above the steps of a recording and above the entries of a journal.
use Rattle.std.specs.Prelude.{◌≡◌, ℕ, ◌+◌, ◌≤◌, Bool, List, [], ◌∷◌, ◌++◌, length, Option, Some, None, option_and_then, option_map, codes, if◌then◌else◌}
use Rattle.std.specs.{Fmt.decimal, Str.bytes_eq}
use Rattle.hex.specs.Hex.{encode_lower, IsBytes}
use Rattle.mum_record.specs.Words.{words_in, line_of_words, number_within, bytes_of}
use Rattle.mum_record.specs.declared.head.TheConstants.{WORKERS_LIMIT, LEAST_SESSIONS, MOST_SESSIONS, LEAST_CHANNELS, MOST_CHANNELS}
use Rattle.mum_record.specs.declared.head.Version.{Version, TheVariants.One, TheVariants.Two}

-- ---- the first line

-- the first line of a recording
abbrev pub recording_line : Version → List ℕ
recording_line One = codes "recording 1"
recording_line Two = codes "recording 2"

-- the first line of a journal
abbrev pub journal_line : Version → List ℕ
journal_line One = codes "journal 1"
journal_line Two = codes "journal 2"

-- the version that has this first line, of the two first lines of recordings or of journals
abbrev pub version_by : (Version → List ℕ) → List ℕ → Option Version
version_by first line =
    if bytes_eq line (first One) then Some One
    else if bytes_eq line (first Two) then Some Two
    else None

-- the version of the recording that a line begins
unfoldable pub recording_version : List ℕ → Option Version
recording_version line = version_by recording_line line

-- the version of the journal that a line begins
unfoldable pub journal_version : List ℕ → Option Version
journal_version line = version_by journal_line line

-- ---- the workers

-- the line of a number of workers
abbrev pub workers_line : ℕ → List ℕ
workers_line workers = line_of_words (codes "workers" ∷ decimal workers ∷ [])

-- a line says how many workers there are, 1 to 8
abbrev pub IsWorkersLine : List ℕ → ℕ → Type 0
IsWorkersLine line workers = (1 ≤ workers) × (workers ≤ WORKERS_LIMIT) × (line ≡ workers_line workers)

-- the workers that the words of a line name
abbrev pub workers_in : List (List ℕ) → Option ℕ
workers_in (name ∷ word ∷ []) = if bytes_eq name (codes "workers") then number_within 1 WORKERS_LIMIT word else None
workers_in others = None

-- the workers whose line it is
unfoldable pub workers_of : List ℕ → Option ℕ
workers_of line = workers_in (words_in line)

-- ---- the limits, which version 2 alone names

-- limits of sessions and of channels, in this order, that a line may name
abbrev pub AreLimits : ℕ × ℕ → Type 0
AreLimits limits =
    (LEAST_SESSIONS ≤ limits.0) × (limits.0 ≤ MOST_SESSIONS) × (LEAST_CHANNELS ≤ limits.1) × (limits.1 ≤ MOST_CHANNELS)

-- the line of a limit of sessions and one of channels
abbrev pub limits_line : ℕ × ℕ → List ℕ
limits_line limits = line_of_words (codes "limits" ∷ decimal limits.0 ∷ decimal limits.1 ∷ [])

-- a line says these limits
abbrev pub IsLimitsLine : List ℕ → ℕ × ℕ → Type 0
IsLimitsLine line limits = AreLimits limits × (line ≡ limits_line limits)

-- the limits that two words say
abbrev pub limits_with : List ℕ → List ℕ → Option (ℕ × ℕ)
limits_with sessions channels =
    option_and_then (λ (s : ℕ). option_map (λ (c : ℕ). (s, c)) (number_within LEAST_CHANNELS MOST_CHANNELS channels))
    (number_within LEAST_SESSIONS MOST_SESSIONS sessions)

-- the limits that the words of a line name
abbrev pub limits_in : List (List ℕ) → Option (ℕ × ℕ)
limits_in (name ∷ sessions ∷ channels ∷ []) = if bytes_eq name (codes "limits") then limits_with sessions channels else None
limits_in others = None

-- the limits whose line it is
unfoldable pub limits_of : List ℕ → Option (ℕ × ℕ)
limits_of line = limits_in (words_in line)

-- ---- the configuration

-- the line where there is no configuration
abbrev pub empty_config_line : List ℕ
empty_config_line = codes "config -"

-- whether a line says that there is no configuration
abbrev pub is_empty_config : List ℕ → Bool
is_empty_config line = bytes_eq line empty_config_line

-- the document of a configuration as a word, or a dash where there is none
abbrev pub config_word : List ℕ → List ℕ
config_word [] = codes "-"
config_word (byte ∷ bytes) = encode_lower (byte ∷ bytes)

-- the line of a document, which has no bytes where there is no configuration
abbrev pub config_line : List ℕ → List ℕ
config_line document = line_of_words (codes "config" ∷ config_word document ∷ [])

-- a line says this document
abbrev pub IsConfigLine : List ℕ → List ℕ → Type 0
IsConfigLine line document = IsBytes document × (line ≡ config_line document)

-- the document that a word says
abbrev pub document_of : List ℕ → Option (List ℕ)
document_of word = if bytes_eq word (codes "-") then Some [] else bytes_of word

-- the document that the words of a line name
abbrev pub config_in : List (List ℕ) → Option (List ℕ)
config_in (name ∷ word ∷ []) = if bytes_eq name (codes "config") then document_of word else None
config_in others = None

-- the document whose line it is
unfoldable pub config_of : List ℕ → Option (List ℕ)
config_of line = config_in (words_in line)

-- ---- the head

-- the version in which a text with these limits, or without any, is written
abbrev pub version_with : Option (ℕ × ℕ) → Version
version_with None = One
version_with (Some limits) = Two

-- the line of the limits, where there are any
abbrev pub limits_lines : Option (ℕ × ℕ) → List (List ℕ)
limits_lines None = []
limits_lines (Some limits) = limits_line limits ∷ []

-- the lines of a head: the first line of the version, the workers, the limits where there are any, and the configuration
abbrev pub head_lines : (Version → List ℕ) → ℕ → Option (ℕ × ℕ) → List ℕ → List (List ℕ)
head_lines first workers limits document =
    first (version_with limits) ∷ workers_line workers ∷ limits_lines limits ++ config_line document ∷ []

-- the line at which steps or entries begin, counted from 1
abbrev pub first_step_line : Version → ℕ
first_step_line One = 4
first_step_line Two = 5

-- steps and entries begin at the line below the head
abbrev pub BeginBelowTheHead : Type 0
BeginBelowTheHead =
    (first : Version → List ℕ) (workers : ℕ) (limits : Option (ℕ × ℕ)) (document : List ℕ)
    → first_step_line (version_with limits) ≡ length (head_lines first workers limits document) + 1
