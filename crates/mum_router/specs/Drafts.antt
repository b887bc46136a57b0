-- The copy of a packet that was made last.
use Rattle.std.specs.Prelude.{◌≡◌, ◌⊎◌, []}
use Rattle.mum_voice.specs.Packet.{Parts, copy}
use Rattle.mum_router.specs.declared.draft.Draft.{Draft}

-- it has no bytes yet, or those of a copy of this packet of its speaker for its context, with the position or without
abbrev pub IsDraft : Parts → Draft → Type 0
IsDraft packet draft =
    (draft.bytes.items ≡ []) ⊎ (draft.bytes.items ≡ copy packet draft.speaker.0 draft.context draft.same)

-- a draft of the same speaker, with the same note
pub record IsOfSame (old new : Draft) : Type 0 where
  pub speaker : new.speaker ≡ old.speaker
  pub note : new.note ≡ old.note
