-- The packets that are said to a worker, and those for which it looks.
use Rattle.std.specs.Prelude.{ℕ, ◌==◌, List, [], ◌∷◌, Option, Some, None, Result, Ok, if◌then◌else◌, option_to_list}
use Rattle.std.specs.Option.{option_map}
use Rattle.mum_base.specs.declared.number.SessionId.{SessionId}
use Rattle.mum_frame.specs.Frame.{kind_of, payload_of}
use Rattle.mum_voice.specs.Packet.{Parts, packet}
use Rattle.mum_voice.specs.declared.fault.BadVoice.{BadVoice}
use Rattle.mum_record.specs.declared.step.Step.{Step, TheVariants.Frame, TheVariants.Look}
use Rattle.mum_core.specs.{Core.CoreState, Core.connection_at, Core.worker_at, Worker.HeldPacket}
use Rattle.mum_core.specs.declared.connection.Connection.{Connection}

-- the session that a connection was sent, unless it was notified that its login is rejected
abbrev pub speaker_of : Connection → Option SessionId
speaker_of connection = if connection.rejected then None else option_map (λ seat. seat.session) connection.seat

-- a packet of a session, where the bytes are one
abbrev pub packet_by : Option SessionId → Result Parts BadVoice → List HeldPacket
packet_by (Some speaker) (Ok parts) = record { speaker = speaker; parts = parts } ∷ []
packet_by speaker read = []

-- the packet that a frame of a connection is: its type is 1
abbrev pub packet_in : Connection → List ℕ → List HeldPacket
packet_in connection bytes = if kind_of bytes == 1 then packet_by (speaker_of connection) (packet (payload_of bytes)) else []

-- the packet that a step says to worker w
abbrev pub said : ℕ → CoreState → Step → List HeldPacket
said w core (Frame c bytes) = if (connection_at core c).worker == w then packet_in (connection_at core c) bytes else []
said w core step = []

-- the packet for which worker w looks in a step
abbrev pub looked_for : ℕ → CoreState → Step → List HeldPacket
looked_for w core (Look v revision) = if v == w then option_to_list (worker_at core w).held else []
looked_for w core step = []
