-- The queues between the roles of a server.
use Rattle.std.specs.Prelude.{◌≡◌, ◌≢◌, ⊤, ℕ, zero, suc, ◌+◌, ◌-◌, ◌*◌, ◌^◌, List, [], ◌∷◌, length, map}
use Rattle.std.specs.List.{All, AllByRecursion, AllPairs}
use Rattle.mum_base.specs.declared.number.TheConstants.{SLOTS}
use Rattle.mum_outbox.specs.{Calls.HasNumbers, Calls.lower_half, Calls.upper_half, Facts.QueueFacts, Facts.QueueId}
use Rattle.mum_worker.specs.Boxes.{queues as queues_of}
use Rattle.mum_worker.specs.declared.worker.Shared.{Shared}
use Rattle.mum_serve.specs.declared.queues.{Ends.Ends, Queues.Queues}

-- these are two queues
abbrev pub AreTwo : QueueId → QueueId → Type 0
AreTwo queue other = queue ≢ other

-- these queues have the numbers from this one on for their names
abbrev pub AreNamedFrom : ℕ → List QueueId → Type 0
AreNamedFrom number [] = ⊤
AreNamedFrom number (queue ∷ queues) = (queue.name ≡ number) × AreNamedFrom (number + 1) queues

-- n, doubled k times
abbrev pub doubled : ℕ → ℕ → ℕ
doubled count zero = count
doubled count (suc often) = 2 * doubled count often

-- how many numbers each owner has left, at least, when n of at most 8 workers have got their halves
abbrev pub numbers_behind : ℕ → ℕ
numbers_behind workers = doubled (2 ^ 33) (8 - workers)

-- each of the owners that is halved for every worker has n numbers left
pub record HaveNumbers {N : Type 0} (count : ℕ) (ends : Ends N) : Type 0 where
  pub voices : All (HasNumbers count) ends.voices.items
  pub posts : All (HasNumbers count) ends.posts.items
  pub desk : HasNumbers count ends.desk

module _ {L N : Type 0} where
  -- a worker has two boxes for each slot, and numbers for the passes that it makes of them, and of the desk
  pub record HasBoxes (shared : Shared L N) : Type 0 where
    pub voice : length shared.voice.items ≡ SLOTS
    pub posts : length shared.posts.items ≡ SLOTS
    pub voice_numbers : All (HasNumbers (2 ^ 33)) shared.voice.items
    pub post_numbers : All (HasNumbers (2 ^ 33)) shared.posts.items
    pub desk_numbers : HasNumbers (2 ^ 33) shared.desk

  -- one worker got the upper half of the numbers of each owner, and this bell
  pub record SharesHalf (old new : Ends N) (bell : QueueFacts) (shared : Shared L N) : Type 0 where
    pub voices : new.voices.items ≡ map lower_half old.voices.items
    pub posts : new.posts.items ≡ map lower_half old.posts.items
    pub desk : new.desk ≡ lower_half old.desk
    pub voice_half : shared.voice.items ≡ map upper_half old.voices.items
    pub post_half : shared.posts.items ≡ map upper_half old.posts.items
    pub desk_half : shared.desk ≡ upper_half old.desk
    pub bell_is : shared.bell ≡ bell

  -- a worker has these post boxes and these voice boxes, slot by slot, and this desk
  pub record SharesQueues (posts voices : List QueueId) (desk : QueueId) (shared : Shared L N) : Type 0 where
    pub posts_are : queues_of shared.posts.items ≡ posts
    pub voices_are : queues_of shared.voice.items ≡ voices
    pub desk_is : shared.desk.queue ≡ desk

  -- the bells of these workers, by their places
  abbrev pub bells_of : List (Shared L N) → List QueueId
  bells_of shared = map (λ (one : Shared L N). one.bell.queue) shared

  -- these are the bells of the workers, by their places, and each worker has these post boxes, slot by slot, this desk, and
  -- the voice boxes that the others have, slot by slot. No two bells, and no two boxes of a kind, are one queue
  pub record AreShared (posts : List QueueId) (desk : QueueId) (bells : List QueueId)
      (shared : List (Shared L N)) : Type 0 where
    pub bells_are : bells_of shared ≡ bells
    pub voices : List QueueId
    pub each : AllByRecursion (SharesQueues posts voices desk) shared
    pub bells_apart : AllPairs AreTwo bells
    pub posts_apart : AllPairs AreTwo posts
    pub voices_apart : AllPairs AreTwo voices

  -- n workers have got their halves, with a bell for each, and the owners that are left have numbers for the others
  pub record HaveShared (workers : ℕ) (ends : Ends N) (bells : List QueueFacts)
      (shared : List (Shared L N)) : Type 0 where
    pub numbers : HaveNumbers (numbers_behind workers) ends
    pub voices : length ends.voices.items ≡ SLOTS
    pub posts : length ends.posts.items ≡ SLOTS
    pub voices_named : AreNamedFrom 0 (queues_of ends.voices.items)
    pub posts_named : AreNamedFrom 0 (queues_of ends.posts.items)
    pub bells_named : AreNamedFrom 0 (queues_of bells)
    pub bells_many : length bells ≡ workers
    pub shares : length shared ≡ workers
    pub boxes : All HasBoxes shared
    pub bells_are : bells_of shared ≡ queues_of bells
    pub each : AllByRecursion
        (SharesQueues (queues_of ends.posts.items) (queues_of ends.voices.items) ends.desk.queue) shared

  -- a post box for each slot, and a bell and two boxes of each slot for each of this many workers; the workers share the
  -- post boxes, the desk and the bells of the owners
  pub record AreFor (workers : ℕ) (queues : Queues L N) : Type 0 where
    pub posts : length queues.posts.items ≡ SLOTS
    pub bells : length queues.bells.items ≡ workers
    pub shares : length queues.shared.items ≡ workers
    pub boxes : All HasBoxes queues.shared.items
    pub shared : AreShared (queues_of queues.posts.items) queues.desk.queue
        (queues_of queues.bells.items) queues.shared.items
    -- each owner has a number for a pass
    pub post_numbers : All (HasNumbers 1) queues.posts.items
    pub desk_numbers : HasNumbers 1 queues.desk
