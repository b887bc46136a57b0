-- What contracts see of a parcel, as plain data.
use Rattle.std.specs.Prelude.{ℕ, Bool, List}
use Rattle.mum_base.specs.declared.number.SessionId.{SessionId}
use Rattle.mum_state.specs.declared.edit.Edit.{Edit}

-- a copy of a voice packet: for which session it is, its bytes, and the edits after which the packet was routed
pub record VoiceFacts : Type 0 where
  pub to : SessionId
  pub bytes : List ℕ
  pub edits : List Edit

-- a notice: for which session it is, its frame, whether nothing follows it, and the edits that were published when it was
-- posted
pub record PostFacts : Type 0 where
  pub to : SessionId
  pub bytes : List ℕ
  pub last : Bool
  pub edits : List Edit
