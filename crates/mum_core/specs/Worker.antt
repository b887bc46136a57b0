-- What a worker is to the steps.
use Rattle.std.specs.Prelude.{ℕ, List, [], Option, None, length, is_some, max, if◌then◌else◌}
use Rattle.mum_base.specs.declared.number.SessionId.{SessionId}
use Rattle.mum_voice.specs.Packet.{Parts}
use Rattle.mum_core.specs.declared.worker.Outgoing.{Outgoing}

-- a packet that a worker took, and who sent it
pub record HeldPacket : Type 0 where
  pub speaker : SessionId
  pub parts : Parts

pub record WorkerState : Type 0 where
  -- the revision of its last look
  pub seen : ℕ
  -- the greatest revision of which its connections were notified
  pub told : ℕ
  -- the packet that it took and has not looked for yet
  pub held : Option HeldPacket
  -- the copies that it has still to offer, the next first
  pub copies : List Outgoing

-- a worker that has done nothing
abbrev pub idle : WorkerState
idle = record { seen = 0; told = 0; held = None; copies = [] }

-- the copies that it has left, or 1 for a packet that it holds
abbrev pub in_hand : WorkerState → ℕ
in_hand worker = if is_some worker.held then 1 else length worker.copies

-- the least revision of its next look
abbrev pub least_look : WorkerState → ℕ
least_look worker = max worker.seen worker.told
