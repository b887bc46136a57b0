-- What a port takes from the boxes of its slot.
use Rattle.std.specs.Prelude.{◌≡◌, ◌≢◌, ◌⊎◌, ℕ, Bool, true, false, List, [], slice_get, Option, Some, None, MatchOption, if◌then◌else◌}
use Rattle.mum_base.specs.declared.number.{SessionId.SessionId, Slot.Slot}
use Rattle.mum_base.specs.declared.number.TheConstants.{POST_CAPACITY, VOICE_CAPACITY}
use Rattle.mum_frame.specs.declared.kind.TheConstants.{UDP_TUNNEL}
use Rattle.mum_frame.specs.Frame.{spelling_of}
use Rattle.mum_outbox.specs.{Calls.Takes, Facts.PassFacts, Facts.QueueFacts}
use Rattle.mum_parcel.specs.Facts.{PostFacts, VoiceFacts}
use Rattle.mum_port.specs.declared.{outbound.Taking.Taking, stage.Parting.TheVariants.Kicked, stage.Stage.Stage}
use Rattle.mum_port.specs.declared.stage.Stage.TheVariants.{Ending}
use Rattle.mum_port.specs.declared.outbound.Taking.TheVariants.{NotDue, Nothing, Own, Foreign}
use Rattle.mum_port.specs.Passes.{PassesFacts}

abbrev pub has_taken : Taking → Bool
has_taken Own = true
has_taken Foreign = true
has_taken others = false

abbrev pub foreign_count : Taking → ℕ
foreign_count Foreign = 1
foreign_count others = 0

-- the pass is one of the box of this slot, where there is such a box
abbrev pub IsPassOf : {I : Type 0} → List QueueFacts → Slot → PassFacts I → Type 0
IsPassOf boxes slot pass = (queue : QueueFacts) → slice_get boxes slot.0 ≡ Some queue → pass.queue ≡ queue.queue

-- the passes of a port, where it has some, are those of the post box and of the voice box of its slot
abbrev pub IsPosted : List QueueFacts → Option PassesFacts → Type 0
IsPosted posts None = Unit {0}
IsPosted posts (Some passes) = IsPassOf posts passes.slot passes.post

abbrev pub IsVoiced : List QueueFacts → Option PassesFacts → Type 0
IsVoiced voices None = Unit {0}
IsVoiced voices (Some passes) = IsPassOf voices passes.slot passes.voice

-- after the last parcel of its session a port ends, as one that was kicked
abbrev pub stage_after_post : Bool → Stage → Stage
stage_after_post last stage = if last then Ending Kicked else stage

-- a parcel of the post box is to be written, where it is for the session, and else it is dropped
abbrev pub PostsParcel : PostFacts → SessionId → Taking → List ℕ → Stage → Stage → Type 0
PostsParcel parcel session Own out stage stage_after =
    (parcel.to ≡ session) × (out ≡ parcel.bytes) × (stage_after ≡ stage_after_post parcel.last stage)
PostsParcel parcel session Foreign out stage stage_after = (parcel.to ≢ session) × (out ≡ []) × (stage_after ≡ stage)
PostsParcel parcel session others out stage stage_after = ⊥

-- a parcel of the voice box is to be written as a frame of type 1, where it is for the session, and else it is dropped
abbrev pub HearsParcel : VoiceFacts → SessionId → Taking → List ℕ → Type 0
HearsParcel parcel session Own out = (parcel.to ≡ session) × (out ≡ spelling_of UDP_TUNNEL parcel.bytes)
HearsParcel parcel session Foreign out = (parcel.to ≢ session) × (out ≡ [])
HearsParcel parcel session others out = ⊥

-- one take from the post box
pub record TakesPost (session : SessionId) (passes : PassesFacts) (stage : Stage) (took : Taking)
    (passes_after : PassesFacts) (out : List ℕ) (stage_after : Stage) : Type 0 where
  pub pass : PassFacts PostFacts
  pub parcel : Option PostFacts
  pub after : passes_after ≡ record passes { post = pass; told = passes_after.told }
  pub takes : Takes POST_CAPACITY passes.post parcel pass
  pub posted : MatchOption parcel ((took ≡ Nothing) × (out ≡ []) × (stage_after ≡ stage))
      (λ one. PostsParcel one session took out stage stage_after)

-- one take from the voice box
pub record TakesVoice (session : SessionId) (passes : PassesFacts) (took : Taking) (passes_after : PassesFacts)
    (out : List ℕ) : Type 0 where
  pub pass : PassFacts VoiceFacts
  pub parcel : Option VoiceFacts
  pub after : passes_after ≡ record passes { voice = pass; told = passes_after.told }
  pub takes : Takes VOICE_CAPACITY passes.voice parcel pass
  pub heard : MatchOption parcel ((took ≡ Nothing) × (out ≡ [])) (λ one. HearsParcel one session took out)

-- nothing was taken, since there is no box of the slot
pub record FindsNoBox (boxes : List QueueFacts) (passes : PassesFacts) (took : Taking) (passes_after : PassesFacts)
    (out : List ℕ) : Type 0 where
  pub no_box : slice_get boxes passes.slot.0 ≡ None
  pub not_due : took ≡ NotDue
  pub passes_same : passes_after ≡ passes
  pub out_same : out ≡ []

abbrev pub PassesCollect : List QueueFacts → SessionId → PassesFacts → Stage → Taking → PassesFacts → List ℕ → Stage
    → Type 0
PassesCollect posts session passes stage took passes_after out stage_after =
    (FindsNoBox posts passes took passes_after out × (stage_after ≡ stage))
    ⊎ TakesPost session passes stage took passes_after out stage_after

abbrev pub PassesDrain : List QueueFacts → SessionId → PassesFacts → Taking → PassesFacts → List ℕ → Type 0
PassesDrain voices session passes took passes_after out =
    FindsNoBox voices passes took passes_after out ⊎ TakesVoice session passes took passes_after out

-- a port takes from the boxes of its passes, and nothing where it has none
abbrev pub Collects : List QueueFacts → SessionId → Option PassesFacts → Stage → Taking → Option PassesFacts → List ℕ
    → Stage → Type 0
Collects posts session None stage took None out stage_after = (took ≡ NotDue) × (out ≡ []) × (stage_after ≡ stage)
Collects posts session (Some passes) stage took (Some after) out stage_after =
    PassesCollect posts session passes stage took after out stage_after
Collects posts session passes stage took after out stage_after = ⊥

abbrev pub Drains : List QueueFacts → SessionId → Option PassesFacts → Taking → Option PassesFacts → List ℕ → Type 0
Drains voices session None took None out = (took ≡ NotDue) × (out ≡ [])
Drains voices session (Some passes) took (Some after) out = PassesDrain voices session passes took after out
Drains voices session passes took after out = ⊥
