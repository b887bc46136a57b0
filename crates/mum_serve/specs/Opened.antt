-- The roles of a server as they are opened.
use Rattle.std.specs.Prelude.{◌≡◌, ⊤, ℕ, ◌+◌, ◌≤◌, Bool, List, [], ◌∷◌, length, Option}
use Rattle.std.specs.{Global.Vec, List.All, List.AllByRecursion, Vec.vec_capacity}
use Rattle.mum_outbox.specs.{Calls.IsNewPass, Facts.QueueFacts, Facts.QueueId}
use Rattle.mum_published.specs.{Calls.appended, Facts.Opening, Facts.PassFacts}
use Rattle.mum_control.specs.{Facts.ControlFacts, Posting.IsOpened as IsOpenedControl}
use Rattle.mum_worker.specs.{Facts.WorkerFacts, Opening.HasOpened, Opening.IsUnused}
use Rattle.mum_owner.specs.{Facts.OwnerFacts, Opened.IsOpened}
use Rattle.mum_serve.specs.Clocks.{ClockFacts, clock_of}

-- the control owner is new, of this published state, to which nothing was appended, and no login was accepted
pub record ControlBegins (opening : Opening) (control : ControlFacts) : Type 0 where
  pub posts : List QueueFacts
  pub opened : IsOpenedControl control.publisher posts control
  pub opening_is : control.publisher.opening ≡ opening
  pub nothing : appended control.publisher ≡ []
  pub no_login : control.publisher.roll ≡ []

module _ {D L : Type 0} where
  -- the owner is new, over this door, and so are its control owner and its pass of the desk; it asks a clock that has
  -- counted this, and has a queue for a store or none
  pub record OwnerBegins (opening : Opening) (door : D) (clock : ClockFacts) (journal : Bool) (connections : ℕ)
      (owner : OwnerFacts D L) : Type 0 where
    pub bells : List QueueId
    pub store : Option QueueId
    pub opened : IsOpened owner.control door connections journal bells store owner
    pub control : ControlBegins opening owner.control
    pub desk : QueueFacts
    pub nothing_taken : IsNewPass desk owner.desk.pass
    pub clock_is : clock_of owner ≡ clock

-- the pass of a worker that has seen, learnt and asked nothing
abbrev pub fresh_pass : Opening → PassFacts
fresh_pass opening = record { opening = opening; seen = []; known = []; asks = []; roll = [] }

module _ {L : Type 0} where
  -- the worker of this number is new, and has offered no copy. With a journal it has room for n closing entries
  pub record WorkerBegins (opening : Opening) (closings : Option ℕ) (number : ℕ) (worker : WorkerFacts L) : Type 0 where
    pub opened : HasOpened number (fresh_pass opening) closings worker
    pub unused : All IsUnused worker.common.router.outs

  -- such are these workers, numbered from this number on
  abbrev pub AreOpenedFrom : Opening → Option ℕ → ℕ → List (WorkerFacts L) → Type 0
  AreOpenedFrom opening closings number [] = ⊤
  AreOpenedFrom opening closings number (worker ∷ workers) =
      WorkerBegins opening closings number worker × AreOpenedFrom opening closings (number + 1) workers

  -- there are n, and each knows that
  pub record AreOpened (opening : Opening) (closings : Option ℕ) (count : ℕ)
      (workers : List (WorkerFacts L)) : Type 0 where
    pub many : length workers ≡ count
    pub each : AreOpenedFrom opening closings 0 workers
    pub among : AllByRecursion (λ worker. worker.workers ≡ count) workers

-- nothing is in it yet, and there is room for n
abbrev pub HasRoom : {X : Type 0} → ℕ → Vec X → Type 0
HasRoom count room = (room.items ≡ []) × (count ≤ vec_capacity room)
