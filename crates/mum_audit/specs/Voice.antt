-- The voice entries: the tests of one, in their order. What the control entries left is all of them.
use Rattle.std.specs.Prelude.{ℕ, nat_lt, List, length, Option, Some, None, Result, Ok, Err, if◌then◌else◌}
use Rattle.mum_base.specs.declared.number.SessionId.{SessionId}
use Rattle.mum_voice.specs.declared.fault.BadVoice.{BadVoice}
use Rattle.mum_voice.specs.Packet.{Parts, packet}
use Rattle.mum_record.specs.declared.journal.Marked.{Marked}
use Rattle.mum_route.specs.Route.{Member, route}
use Rattle.mum_audit.specs.declared.finding.Finding.{Finding}
use Rattle.mum_audit.specs.Finding.{audiences_differ, members_of, numbers_differ, packet_is_faulty, same_members}
use Rattle.mum_audit.specs.Past.{Past, session_of, state_at}

-- a finding, or else another
abbrev pub or_else : Option Finding → Option Finding → Option Finding
or_else None other = other
or_else (Some finding) other = Some finding

-- the revision is not below the one before it, which is tested first, and not above all accepted edits
abbrev pub revision_finding : ℕ → ℕ → ℕ → Option Finding
revision_finding least greatest revision =
    if nat_lt revision least then Some (numbers_differ revision least)
    else if nat_lt greatest revision then Some (numbers_differ revision greatest)
    else None

-- the copies are for those who hear the packet
abbrev pub audience_finding : List Member → List Member → Option Finding
audience_finding given defined = if same_members given defined then None else Some (audiences_differ given defined)

-- who hears what the session says to a target, in the state after the first accepted edits; no session is 0
abbrev pub speaker_finding : Past → ℕ → ℕ → List Marked → ℕ → Option SessionId → Option Finding
speaker_finding past revision connection copies target None = Some (numbers_differ connection 0)
speaker_finding past revision connection copies target (Some session) =
    audience_finding (members_of copies) (route (state_at past revision) session target)

-- the packet parses, the connection is a logged-in one, and the copies are for those who hear it
abbrev pub packet_finding : Past → ℕ → ℕ → List ℕ → List Marked → Result Parts BadVoice → Option Finding
packet_finding past connection revision packet copies (Err fault) = Some (packet_is_faulty packet fault.code)
packet_finding past connection revision packet copies (Ok parts) =
    speaker_finding past revision connection copies parts.target (session_of past connection)

-- the first of the tests that a voice entry does not pass, after one of this revision
unfoldable pub voice_finding : Past → ℕ → ℕ → ℕ → List ℕ → List Marked → Option Finding
voice_finding past least connection revision bytes copies =
    or_else (revision_finding least (length past.accepted) revision)
    (packet_finding past connection revision bytes copies (packet bytes))
