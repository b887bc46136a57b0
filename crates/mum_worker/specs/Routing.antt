-- What a worker makes of a packet.
use Rattle.std.specs.Prelude.{◌≡◌, ◌⊎◌, ℕ, List, Err, Ok}
use Rattle.mum_base.specs.declared.number.SessionId.{SessionId}
use Rattle.mum_voice.specs.Packet.{Parts, packet}
use Rattle.mum_voice.specs.declared.fault.BadVoice.{BadVoice}
use Rattle.mum_published.specs.Facts.{Opening}
use Rattle.mum_router.specs.{Facts.RouterFacts, Routing.Routes}
use Rattle.mum_router.specs.declared.offering.Routed.{Routed}
use Rattle.mum_worker.specs.Record.{RecordFacts, with_voice, without_room}

-- what the ports of a worker have together: its router, and its record without the room of a voice entry
pub record CommonFacts : Type 0 where
  pub router : RouterFacts
  pub kept : RecordFacts

abbrev pub bare : CommonFacts → CommonFacts
bare common = record common { kept = without_room common.kept }

-- bytes that are no packet: nothing is routed
pub record IsNoPacket (bytes : List ℕ) (router after : RouterFacts) : Type 0 where
  pub fault : BadVoice
  pub parsed : packet bytes ≡ Err fault
  pub same : after ≡ router

-- bytes that are a packet: it is routed once
pub record RoutesOnce (opening : Opening) (router : RouterFacts) (speaker : SessionId) (bytes : List ℕ)
    (routed : Routed) (after : RouterFacts) : Type 0 where
  pub parts : Parts
  pub parsed : packet bytes ≡ Ok parts
  pub routes : Routes opening router speaker parts after routed

-- what a connection says is routed once, where its bytes are a packet, and has its entry where a journal is kept: the
-- connection, the revision of the look, the bytes as they came, and what became of each copy
pub record RoutesAndKeeps (opening : Opening) (old : CommonFacts) (connection : ℕ) (speaker : SessionId)
    (bytes : List ℕ) (new : CommonFacts) : Type 0 where
  pub routed : Routed
  pub once : RoutesOnce opening old.router speaker bytes routed new.router
  pub entry : new.kept ≡ with_voice connection routed.revision bytes new.router.marks old.kept

pub record DropsPacket (old : CommonFacts) (bytes : List ℕ) (new : CommonFacts) : Type 0 where
  pub not_one : IsNoPacket bytes old.router new.router
  pub none_kept : new.kept ≡ old.kept

abbrev pub RoutesPacket : Opening → CommonFacts → ℕ → SessionId → List ℕ → CommonFacts → Type 0
RoutesPacket opening old connection speaker bytes new =
    DropsPacket old bytes new ⊎ RoutesAndKeeps opening old connection speaker bytes new
