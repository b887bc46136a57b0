-- The control entries: each has the verdict of the state that the accepted entries before it leave.
use Rattle.std.specs.Prelude.{List, [], ◌∷◌, fold, Option, Some, None, if◌then◌else◌}
use Rattle.mum_base.specs.declared.reply.Mark.{Mark}
use Rattle.mum_record.specs.declared.journal.ControlEntry.{ControlEntry}
use Rattle.mum_state.specs.declared.verdict.Verdict.{Verdict}
use Rattle.mum_session.specs.Reply.{mark}
use Rattle.mum_audit.specs.{Decision.decided, Finding.same_verdict, Finding.verdicts_differ}
use Rattle.mum_audit.specs.declared.finding.Finding.{Finding}
use Rattle.mum_audit.specs.Past.{Past, after_verdict, current, next_revision, session_of}

-- what is decided of an entry: the actor is the session that its connection got before
abbrev pub verdict_on : Past → ControlEntry → Verdict
verdict_on past entry = decided (current past) (session_of past entry.connection) entry.version entry.frame

-- the verdict of an entry, as a journal has it
abbrev pub mark_on : Past → ControlEntry → Mark
mark_on past entry = mark (next_revision past) (verdict_on past entry)

-- after an entry
abbrev pub after_entry : Past → ControlEntry → Past
after_entry past entry = after_verdict past entry.connection (verdict_on past entry)

-- after entries, the first of them first
abbrev pub after_entries : Past → List ControlEntry → Past
after_entries past entries = fold after_entry past entries

-- an entry with a different verdict is wrong
abbrev pub entry_finding : Past → ControlEntry → Option Finding
entry_finding past entry =
    if same_verdict entry.verdict (mark_on past entry) then None
    else Some (verdicts_differ entry.verdict (mark_on past entry))

-- what is wrong with each of these entries, if anything
unfoldable pub control_findings : Past → List ControlEntry → List (Option Finding)
control_findings past [] = []
control_findings past (entry ∷ entries) = entry_finding past entry ∷ control_findings (after_entry past entry) entries
