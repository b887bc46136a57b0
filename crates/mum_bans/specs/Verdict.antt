-- What a BanList comes to.
use Rattle.std.specs.Prelude.{ℕ, ◌≤◌, Bool, false, List, length, Option, Some, None, Result, Ok, Err, unwrap_or, if◌then◌else◌}
use Rattle.mum_frame.specs.declared.frame.TheConstants.{PAYLOAD_LIMIT}
use Rattle.mum_fields.specs.declared.message.MessageFault.{MessageFault}
use Rattle.mum_bans.specs.declared.{ban.Ban.Ban, ban_list.BanList.BanList, verdict.BanVerdict.BanVerdict}
use Rattle.mum_bans.specs.{Limits.is_sound_list, Book.Event, Book.Sets, Answer.answer}
use Rattle.mum_bans.specs.declared.verdict.BanVerdict.TheVariants as verdicts

-- of a list from somebody who may ban
abbrev pub verdict_of_list : List Ban → BanList → BanVerdict
verdict_of_list bans list =
    if unwrap_or list.query false then verdicts.Answer (answer bans)
    else if is_sound_list list then verdicts.Set
    else verdicts.Refused

-- of a payload that is a list, or is none by a fault
abbrev pub verdict_of : List Ban → Bool → Result BanList MessageFault → BanVerdict
verdict_of bans allowed (Err fault) = verdicts.Ignored
verdict_of bans allowed (Ok list) = if allowed then verdict_of_list bans list else verdicts.Lacks

-- bans are set from this moment on, where that is the verdict
abbrev pub event_of_list : ℕ → BanVerdict → BanList → Option Event
event_of_list moment verdicts.Ignored list = None
event_of_list moment verdicts.Lacks list = None
event_of_list moment (verdicts.Answer payload) list = None
event_of_list moment verdicts.Refused list = None
event_of_list moment verdicts.Set list = Some (Sets list.bans moment)

-- the event that a decision is
abbrev pub event_of : ℕ → BanVerdict → Result BanList MessageFault → Option Event
event_of moment verdict (Err fault) = None
event_of moment verdict (Ok list) = event_of_list moment verdict list

-- the payload of an answer is within a frame
abbrev pub FitsFrame : BanVerdict → Type 0
FitsFrame verdicts.Ignored = Unit {0}
FitsFrame verdicts.Lacks = Unit {0}
FitsFrame (verdicts.Answer payload) = length payload ≤ PAYLOAD_LIMIT
FitsFrame verdicts.Refused = Unit {0}
FitsFrame verdicts.Set = Unit {0}
