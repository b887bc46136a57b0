-- The boxes of all slots, from which ports take.
use Rattle.std.specs.Prelude.{◌≡◌, ◌⊎◌, ◌<◌, ◌+◌, ℕ, List, map, slice_get, Option, Some, None}
use Rattle.std.specs.List.{AllZip}
use Rattle.mum_base.specs.declared.{number.Slot.Slot, reply.ReplyEnd.ReplyEnd}
use Rattle.mum_base.specs.declared.reply.ReplyEnd.TheVariants.{Joined, Decided, Rejected}
use Rattle.mum_outbox.specs.{Calls.HasNumbers, Calls.IsNewPass, Facts.PassFacts, Facts.QueueFacts, Facts.QueueId}
use Rattle.mum_outbox.specs.declared.rule.TheConstants.{LAST}
use Rattle.mum_port.specs.Passes.{PassesFacts}

-- of each slot a post box and a voice box, by the number of the slot
pub record BoxesFacts : Type 0 where
  pub posts : List QueueFacts
  pub voices : List QueueFacts

-- which queues these are
abbrev pub queues : List QueueFacts → List QueueId
queues boxes = map (λ (box : QueueFacts). box.queue) boxes

-- an owner that gave one number at most
abbrev pub GaveOne : QueueFacts → QueueFacts → Type 0
GaveOne old new = (count : ℕ) → HasNumbers (count + 1) old → HasNumbers count new

-- the boxes are the same, whatever passes were made of them, and each gave one number at most
pub record AreSameBoxes (old new : BoxesFacts) : Type 0 where
  pub posts : queues new.posts ≡ queues old.posts
  pub voices : queues new.voices ≡ queues old.voices
  pub post_numbers : AllZip GaveOne old.posts new.posts
  pub voice_numbers : AllZip GaveOne old.voices new.voices

-- the box at this place has a number for a pass
abbrev pub CanPass : List QueueFacts → ℕ → Type 0
CanPass boxes place = (box : QueueFacts) × (slice_get boxes place ≡ Some box) × HasNumbers 1 box

-- a new pass of the box at this place, with a number that no other pass of it has
pub record GivesPass {I : Type 0} (olds : List QueueFacts) (place : ℕ) (pass : PassFacts I)
    (news : List QueueFacts) : Type 0 where
  pub box : QueueFacts
  pub there : slice_get olds place ≡ Some box
  pub new : IsNewPass box pass
  pub number : pass.number < LAST
  pub same : queues news ≡ queues olds
  pub gave : AllZip GaveOne olds news

-- new passes of a slot, one of each box, each with a number that no other pass of its box has
pub record AreNewPasses (boxes : BoxesFacts) (slot : Slot) (passes : PassesFacts) : Type 0 where
  pub slot_is : passes.slot ≡ slot
  pub post_box : QueueFacts
  pub voice_box : QueueFacts
  pub post_there : slice_get boxes.posts slot.0 ≡ Some post_box
  pub voice_there : slice_get boxes.voices slot.0 ≡ Some voice_box
  pub none_told : passes.told ≡ None
  pub post : IsNewPass post_box passes.post
  pub voice : IsNewPass voice_box passes.voice
  pub post_number : passes.post.number < LAST
  pub voice_number : passes.voice.number < LAST

-- there is no box at this place, or it has no number left for a pass
abbrev pub HasNoPass : List QueueFacts → ℕ → Type 0
HasNoPass boxes place =
    (slice_get boxes place ≡ None) ⊎ ((box : QueueFacts) × (slice_get boxes place ≡ Some box) × ¬ HasNumbers 1 box)

abbrev pub HasNoBoxes : BoxesFacts → Slot → Type 0
HasNoBoxes boxes slot = HasNoPass boxes.posts slot.0 ⊎ HasNoPass boxes.voices slot.0

-- passes of a slot that has boxes with numbers for them, and none where it has not
abbrev pub ArePassesIn : BoxesFacts → Slot → Option PassesFacts → Type 0
ArePassesIn boxes slot None = HasNoBoxes boxes slot
ArePassesIn boxes slot (Some passes) = AreNewPasses boxes slot passes

-- a login that was accepted gives passes of its slot, and another end gives none
abbrev pub ArePassesFor : BoxesFacts → ReplyEnd → Option PassesFacts → Type 0
ArePassesFor boxes (Joined session slot) passes = ArePassesIn boxes slot passes
ArePassesFor boxes Decided passes = passes ≡ None
ArePassesFor boxes Rejected passes = passes ≡ None
