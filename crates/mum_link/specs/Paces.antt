-- How fast a link is read, and what it holds of the allowance for long frames.
use Rattle.std.specs.Prelude.{◌≡◌, ℕ, List, take}
use Rattle.mum_pace.specs.{Laws.IsAsked, Laws.IsReadInPace, Meters.MeterState, Meters.new_meter}
use Rattle.mum_pace.specs.{Places.payload_under_way, Reserved.bytes_for, Reserved.bytes_kept}
use Rattle.mum_pace.specs.declared.pace.Pace.{Pace}
use Rattle.mum_io.specs.declared.link.PollRead.{PollRead}
use Rattle.mum_io.specs.declared.link.PollRead.TheVariants.{End, Failed, Got, NotYet}

-- a meter of this pace, at which nothing came yet
abbrev pub IsNew : Pace → MeterState → Type 0
IsNew pace meter = (time : ℕ) × (meter ≡ new_meter pace time)

-- what a read into a slice, which it leaves as buf, makes of the meter
abbrev pub ReadsInPace : PollRead → List ℕ → MeterState → MeterState → Type 0
ReadsInPace (Got n) buf old new = IsReadInPace (take n buf) old new
ReadsInPace End buf old new = IsAsked old new
ReadsInPace NotYet buf old new = IsAsked old new
ReadsInPace Failed buf old new = IsAsked old new

-- Bytes come only while the link holds all that the frame under way reserves. It holds that still, if they do not end the
-- frame, and else nothing.
abbrev pub HoldsForFrame : PollRead → MeterState → MeterState → ℕ → Type 0
HoldsForFrame (Got n) old new held =
    held ≡ bytes_kept (bytes_for (payload_under_way old.place)) (payload_under_way new.place)
HoldsForFrame End old new held = Unit {0}
HoldsForFrame NotYet old new held = Unit {0}
HoldsForFrame Failed old new held = Unit {0}
