-- The passes of a port, and what is true of the parcels that it took by them.
use mathlib.Core.List.{IsPrefix}
use Rattle.std.specs.Prelude.{◌≡◌, ⊤, Option, Some, None}
use Rattle.std.specs.{List.All, Option.ForSome}
use Rattle.mum_base.specs.declared.number.Slot.{Slot}
use Rattle.mum_outbox.specs.Facts.{PassFacts}
use Rattle.mum_outbox.specs.declared.rule.Tagged.{Tagged}
use Rattle.mum_published.specs.{Calls.edits_told, Facts.NoteFacts, Facts.Opening}
use Rattle.mum_parcel.specs.{Facts.PostFacts, Facts.VoiceFacts, Rules.IsCopy, Rules.IsNotice}

-- the slot of a session, the passes of its two boxes, and the note of the longest list of edits among those of the parcels
-- that were taken by them; there is none before the first
pub record PassesFacts : Type 0 where
  pub slot : Slot
  pub post : PassFacts PostFacts
  pub voice : PassFacts VoiceFacts
  pub told : Option NoteFacts

-- the notice reports an edit of its list, with which this list begins
pub record IsToldNotice (opening : Opening) (told : Option NoteFacts) (taken : Tagged PostFacts) : Type 0 where
  pub rules : IsNotice opening taken.item
  pub begins : IsPrefix taken.item.edits (edits_told told)

-- the copy is what the rules give its session after its list, with which this list begins
pub record IsToldCopy (opening : Opening) (told : Option NoteFacts) (taken : Tagged VoiceFacts) : Type 0 where
  pub rules : IsCopy opening taken.item
  pub begins : IsPrefix taken.item.edits (edits_told told)

-- so it is with all that was taken
pub record HaveTaken (opening : Opening) (passes : PassesFacts) : Type 0 where
  pub book : ForSome passes.told (λ note. note.book ≡ opening.book)
  pub notices : All (IsToldNotice opening passes.told) passes.post.taken
  pub copies : All (IsToldCopy opening passes.told) passes.voice.taken

-- the note of the passes, where there are passes
abbrev pub told_by : Option PassesFacts → Option NoteFacts
told_by None = None
told_by (Some passes) = passes.told

abbrev pub HasTaken : Opening → Option PassesFacts → Type 0
HasTaken opening None = ⊤
HasTaken opening (Some passes) = HaveTaken opening passes

-- the note after a parcel with this one was taken: both lists begin its list
pub record NotesParcel (told : Option NoteFacts) (note : NoteFacts) (after : Option NoteFacts) : Type 0 where
  pub book : ForSome after (λ one. one.book ≡ note.book)
  pub mine : IsPrefix (edits_told told) (edits_told after)
  pub its : IsPrefix note.edits (edits_told after)
