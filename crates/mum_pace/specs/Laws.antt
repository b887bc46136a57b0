-- What the contracts of a meter come to.
use Rattle.std.specs.Prelude.{◌≡◌, ℕ, ◌+◌, ◌*◌, ◌<◌, ◌≤◌, List, [], ◌∷◌, length, Option, Some, None, unwrap_or}
use Rattle.std.specs.List.{flat_map}
use Rattle.mum_pace.specs.declared.{frames.TheConstants.HEADER_LENGTH, pace.Pace.Pace}
use Rattle.mum_pace.specs.declared.pace.{Pace.TheVariants.Limited, Pace.TheVariants.Unlimited, Rate.Rate}
use Rattle.mum_pace.specs.declared.used.TheConstants.{FRAME}
use Rattle.mum_pace.specs.Places.{Place}
use Rattle.mum_pace.specs.Meters.{MeterState, after_read, allowance_of, at_time}

-- what is true of each place to which bytes lead
pub record IsPlace (place : Place) : Type 0 where
  pub unfinished : length place.header < HEADER_LENGTH
  pub within : place.left ≤ place.payload
  pub apart : 0 < place.left → place.header ≡ []

-- neither of a rate's numbers is 0
abbrev pub IsNotZero : Rate → Type 0
IsNotZero rate = (0 < rate.each_second) × (0 < rate.at_once)

-- no more is used up than the rates allow at once
abbrev pub UsesNoMore : Pace → ℕ → ℕ → Type 0
UsesNoMore Unlimited messages voice = Unit {0}
UsesNoMore (Limited of_messages of_voice) messages voice =
    (messages ≤ of_messages.at_once * FRAME) × (voice ≤ of_voice.at_once * FRAME)

pub record KeepsPace (meter : MeterState) : Type 0 where
  pub place : IsPlace meter.place
  pub used : UsesNoMore meter.pace meter.messages meter.voice

-- the meter where the allowance is asked for at this time, and then these bytes come
abbrev pub asked_and_read : MeterState → ℕ → List ℕ → MeterState
asked_and_read meter time bytes = after_read (at_time meter time) bytes

-- what is read at a time
pub record Read : Type 0 where
  pub time : ℕ
  pub bytes : List ℕ

-- each of these reads keeps the allowance of its time, and no time is before the one before it
abbrev pub KeepAllowances : MeterState → ℕ → List Read → Type 0
KeepAllowances meter earliest [] = Unit {0}
KeepAllowances meter earliest (read ∷ reads) =
    (earliest ≤ read.time) × (length read.bytes ≤ allowance_of (at_time meter read.time))
    × KeepAllowances (asked_and_read meter read.time read.bytes) read.time reads

-- the bytes of all of these reads, joined
abbrev pub all_bytes : List Read → List ℕ
all_bytes reads = flat_map (λ read. read.bytes) reads

-- the time of the last read, or this time if there is none
abbrev pub last_time : ℕ → List Read → ℕ
last_time time [] = time
last_time time (read ∷ reads) = last_time read.time reads

-- n frames are no more than a rate allows at once and in this time
abbrev pub AreWithin : Rate → ℕ → ℕ → Type 0
AreWithin rate milliseconds frames = frames * FRAME ≤ rate.at_once * FRAME + milliseconds * rate.each_second

-- ---- a meter as it is used

-- At some time the meter is asked for its allowance, and nothing comes.
abbrev pub IsAsked : MeterState → MeterState → Type 0
IsAsked old new = (time : ℕ) × (new ≡ at_time old time)

-- At some time the meter is asked, and bytes come: no more than it allows, and they are counted.
abbrev pub IsReadInPace : List ℕ → MeterState → MeterState → Type 0
IsReadInPace bytes old new =
    (time : ℕ) × (length bytes ≤ allowance_of (at_time old time)) × (new ≡ asked_and_read old time bytes)

-- nothing comes, or these bytes do
abbrev pub IsUse : Option (List ℕ) → MeterState → MeterState → Type 0
IsUse None old new = IsAsked old new
IsUse (Some bytes) old new = IsReadInPace bytes old new

-- one use after another leads from the one meter to the other
abbrev pub AreUses : List (Option (List ℕ)) → MeterState → MeterState → Type 0
AreUses [] old new = new ≡ old
AreUses (one ∷ more) old new = (next : MeterState) × IsUse one old next × AreUses more next new

-- the bytes that come in all of these uses, joined
abbrev pub bytes_that_come : List (Option (List ℕ)) → List ℕ
bytes_that_come uses = flat_map (λ one. unwrap_or one []) uses
