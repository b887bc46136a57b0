-- The numbers of the passes by which the roles of a server use their queues.
use Rattle.std.specs.Prelude.{ℕ, ◌<◌, ◌^◌, List}
use Rattle.std.specs.List.{All, AllByRecursion}
use Rattle.mum_outbox.specs.{Calls.HasNumbers, Facts.PassFacts}
use Rattle.mum_outbox.specs.declared.rule.TheConstants.{LAST}
use Rattle.mum_worker.specs.Facts.{WorkerFacts}
use Rattle.mum_owner.specs.Facts.{OwnerFacts}

-- no other pass of its queue has the number of this one, so that the rule of the queue speaks of all that it offers
abbrev pub HasOwnNumber : {I : Type 0} → PassFacts I → Type 0
HasOwnNumber pass = pass.number < LAST

-- so do the passes of a worker, and it has n numbers for the logins of each slot
pub record IsNumbered {L : Type 0} (worker : WorkerFacts L) : Type 0 where
  pub desk : HasOwnNumber worker.desk
  pub outs : All HasOwnNumber worker.common.router.outs
  pub posts : All (HasNumbers (2 ^ 32)) worker.boxes.posts
  pub voices : All (HasNumbers (2 ^ 32)) worker.boxes.voices

-- and the passes of an owner and of its workers
pub record AreNumbered {D L : Type 0} (owner : OwnerFacts D L) (workers : List (WorkerFacts L)) : Type 0 where
  pub desk : HasOwnNumber owner.desk.pass
  pub posts : All HasOwnNumber owner.control.posts
  pub each : AllByRecursion IsNumbered workers
