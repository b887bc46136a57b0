-- What a run of the core and a journal say of commands and of packets.
use Rattle.std.specs.Prelude.{◌≡◌, ℕ, ◌+◌, ◌==◌, List, [], ◌∷◌, length, map, filter, Option, Some, None, Ok, option_to_list, if◌then◌else◌, slice_get}
use Rattle.std.specs.{List.AllZip, List.filter_map, List.list_any, Option.option_map}
use Rattle.mum_base.specs.declared.{number.SessionId.SessionId, reply.Mark.Mark}
use Rattle.mum_frame.specs.Frame.{kind_of, payload_of}
use Rattle.mum_frame.specs.declared.kind.TheConstants.{AUTHENTICATE}
use Rattle.mum_voice.specs.Packet.{Parts, packet}
use Rattle.mum_record.specs.declared.journal.{ControlEntry.ControlEntry, Journal.Journal, WorkerEntry.WorkerEntry}
use Rattle.mum_record.specs.declared.journal.WorkerEntry.TheVariants.{Closed, Voice}
use Rattle.mum_record.specs.declared.step.Step.{Step}
use Rattle.mum_route.specs.Route.{Member}
use Rattle.mum_rules_user.specs.declared.message.UserMessage.TheVariants.{Leave}
use Rattle.mum_session.specs.{Action.commands_after_login, Heard.command_heard, Heard.login_heard, Reply.mark}
use Rattle.mum_session.specs.Verdict.{verdict}
use Rattle.mum_session.specs.declared.{command.Asked.Asked, command.Asked.TheVariants.User, heard.Heard.Heard}
use Rattle.mum_session.specs.declared.heard.Heard.TheVariants.{Malformed, Message}
use Rattle.mum_core.specs.{Connection.next_command, Connection.session_of, Laws.gathered, Worker.HeldPacket}
use Rattle.mum_core.specs.steps.Look.{audience}
use Rattle.mum_core.specs.Core.{CoreState, connection_at, current, state_at, worker_at}
use Rattle.mum_audit.specs.{Audit.is_voice, Audit.past_of, Finding.members_of, Legal.closed_by}
use Rattle.mum_audit.specs.Past.{Past, session_of as session_in}
use Rattle.mum_record.specs.declared.step.Step.TheVariants as steps

-- ---- of a run

-- a command that is decided: of which connection, what it asks for, and the outcome
pub record Decided : Type 0 where
  pub connection : ℕ
  pub what : Asked
  pub outcome : Mark

-- the command that a step decides: the one of the connection that waits first, at the state after all accepted edits
abbrev pub decided : CoreState → Step → List Decided
decided core (steps.Edit c) =
    option_to_list (option_map (λ what. record {
      connection = c;
      what = what;
      outcome = mark (length core.accepted + 1) (verdict (current core) (session_of (connection_at core c)) what);
    }) (next_command (connection_at core c)))
decided core step = []

-- a packet that is routed: whose, at which revision, and who hears it in which context
pub record Routed : Type 0 where
  pub speaker : SessionId
  pub parts : Parts
  pub revision : ℕ
  pub members : List Member

abbrev pub routed_at : CoreState → ℕ → HeldPacket → Routed
routed_at core revision held = record {
  speaker = held.speaker;
  parts = held.parts;
  revision = revision;
  members = map (λ hearer. (hearer.session, hearer.context)) (audience (state_at core revision) (Some held));
}

-- the packet for which worker w looks in a step
abbrev pub routed : ℕ → CoreState → Step → List Routed
routed w core (steps.Look v revision) =
    if v == w then option_to_list (option_map (routed_at core revision) (worker_at core w).held) else []
routed w core step = []

-- the connection of worker w that a step closes
abbrev pub closed : ℕ → CoreState → Step → List ℕ
closed w core (steps.Close c cause) = if (connection_at core c).worker == w then c ∷ [] else []
closed w core step = []

-- ---- of a journal

-- the command that a frame asks for
abbrev pub frame_heard : Option ℕ → ℕ → List ℕ → Heard Asked
frame_heard version kind payload =
    if kind == AUTHENTICATE then login_heard version payload
    else if list_any (λ known. known == kind) commands_after_login then command_heard kind payload
    else Malformed

-- the command of an entry, which is a frame or a leave
abbrev pub command_of : Option ℕ → Option (List ℕ) → Heard Asked
command_of version None = Message (User Leave)
command_of version (Some bytes) = frame_heard version (kind_of bytes) (payload_of bytes)

-- the entry says that this was decided
pub record IsDecided (entry : ControlEntry) (one : Decided) : Type 0 where
  pub connection : entry.connection ≡ one.connection
  pub asked : command_of entry.version entry.frame ≡ Message one.what
  pub outcome : entry.verdict ≡ one.outcome

-- the entry says that this was routed, where the control entries leave the session of its connection
abbrev pub IsRouted : Past → WorkerEntry → Routed → Type 0
IsRouted past (Voice connection revision bytes copies) one =
    (session_in past connection ≡ Some one.speaker) × (packet bytes ≡ Ok one.parts) × (revision ≡ one.revision)
    × (members_of copies ≡ one.members)
IsRouted past (Closed connection cause) one = ⊥

-- the control entries are the commands that a run decides, in their order, and the voice entries of each worker the
-- packets that it routes
pub record AreOfRun (journal : Journal) (first : CoreState) (steps : List Step) : Type 0 where
  pub commands : AllZip IsDecided journal.controls (gathered decided first steps)
  pub packets : (w : ℕ) (entries : List WorkerEntry) → slice_get journal.by_worker w ≡ Some entries
      → AllZip (IsRouted (past_of journal)) (filter is_voice entries) (gathered (routed w) first steps)

-- and the closing entries of each worker are the connections of its own that close
pub record IsRecorded (journal : Journal) (first : CoreState) (steps : List Step) : Type 0 where
  pub entries : AreOfRun journal first steps
  pub closings : (w : ℕ) (entries : List WorkerEntry) → slice_get journal.by_worker w ≡ Some entries
      → filter_map closed_by entries ≡ gathered (closed w) first steps
