-- The voice entries of a worker's journal.
use Rattle.std.specs.Prelude.{ℕ, List, length, map, Option, Some, None, Result, Ok}
use Rattle.mum_voice.specs.Packet.{Parts, packet}
use Rattle.mum_voice.specs.declared.fault.BadVoice.{BadVoice}
use Rattle.mum_record.specs.declared.journal.{Marked.Marked, WorkerEntry.WorkerEntry}
use Rattle.mum_router.specs.Offering.{mark_of}
use Rattle.mum_worker_laws.specs.Laws.{Look}
use Rattle.mum_record.specs.declared.journal.WorkerEntry.TheVariants as entries

-- what a voice entry says: whose packet was routed, at which revision, as what its bytes are read, and what became of each
-- copy
pub record Talk : Type 0 where
  pub connection : ℕ
  pub revision : ℕ
  pub read : Result Parts BadVoice
  pub copies : List Marked

abbrev pub talk_in : WorkerEntry → Option Talk
talk_in (entries.Voice connection revision bytes copies) =
    Some (record { connection = connection; revision = revision; read = packet bytes; copies = copies })
talk_in (entries.Closed connection cause) = None

-- what the entry of a packet has to say
abbrev pub talk_made : Look → Talk
talk_made look = record {
  connection = look.connection;
  revision = length look.edits;
  read = Ok look.packet;
  copies = map mark_of look.deliveries;
}
