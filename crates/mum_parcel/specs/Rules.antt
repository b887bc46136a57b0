-- What a parcel is true of: a copy is one that the rules give its session, and a notice reports an edit.
use mathlib.Core.List.{IsPrefix}
use Rattle.std.specs.Prelude.{◌≡◌, ℕ, List, [], ◌∷◌, ◌++◌}
use Rattle.std.specs.List.{Contains}
use Rattle.mum_base.specs.declared.number.SessionId.{SessionId}
use Rattle.mum_voice.specs.Packet.{IsPacket, Parts}
use Rattle.mum_state.specs.declared.edit.Edit.{Edit}
use Rattle.mum_route.specs.declared.hearer.Hearer.{Hearer}
use Rattle.mum_route.specs.Hearers.{copy_for, hearers_at}
use Rattle.mum_published.specs.{Calls.state_of, Facts.Opening}
use Rattle.mum_notify.specs.declared.notice.Notice.{Notice}
use Rattle.mum_notify.specs.Notices.{notices}
use Rattle.mum_parcel.specs.Facts.{PostFacts, VoiceFacts}

-- after these edits the session hears what the speaker says to the target of this packet, and the bytes are its copy: with
-- the speaker as the sender, the context in which it hears, and the position where they share one. Which packets are routed,
-- and that each copy is offered once, is said of the workers
pub record Hears (opening : Opening) (edits : List Edit) (session : SessionId) (bytes : List ℕ) : Type 0 where
  pub speaker : SessionId
  pub packet : Parts
  pub valid : IsPacket packet
  pub hearer : Hearer
  pub in_route : Contains (hearers_at (state_of opening edits) speaker packet.target) hearer
  pub session_is : hearer.session ≡ session
  pub copied : bytes ≡ copy_for speaker packet hearer

-- the copy is what the rules give its session after its edits
abbrev pub IsCopy : Opening → VoiceFacts → Type 0
IsCopy opening parcel = Hears opening parcel.edits parcel.to parcel.bytes

-- the notice reports an edit of this list, which was decided at the state of those before it
pub record Reports (opening : Opening) (edits : List Edit) (notice : Notice) : Type 0 where
  pub before : List Edit
  pub edit : Edit
  pub accepted : IsPrefix (before ++ edit ∷ []) edits
  pub noticed : Contains (notices (state_of opening before) edit (state_of opening (before ++ edit ∷ []))) notice

-- a notice as the parcel that its box takes, when these edits are published
abbrev pub parcel_of : List Edit → Notice → PostFacts
parcel_of edits notice = record { to = notice.to; bytes = notice.bytes; last = notice.last; edits = edits }

-- the parcel is a notice that reports one of its edits
pub record IsNotice (opening : Opening) (parcel : PostFacts) : Type 0 where
  pub notice : Notice
  pub is : parcel ≡ parcel_of parcel.edits notice
  pub reports : Reports opening parcel.edits notice
