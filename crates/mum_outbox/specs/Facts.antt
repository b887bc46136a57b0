-- What contracts see of a queue and of a pass, as plain data.
use Rattle.std.specs.Prelude.{ℕ, List}
use Rattle.atomic_table.specs.Seated.{TableId}
use Rattle.mum_outbox.specs.declared.rule.{Tagged.Tagged, Hand.Hand}

-- which queue it is: its table, and the name that it was given when it was made. Owners and passes of one queue have its
-- name, so queues of two names are two queues
pub record QueueId : Type 0 where
  pub table : TableId
  pub name : ℕ

-- an owner of a queue: which queue it is, and the numbers from low up to end that it may give to new passes
pub record QueueFacts : Type 0 where
  pub queue : QueueId
  pub low : ℕ
  pub end : ℕ

-- a pass: its queue, its number, the items that it has offered, those that it has taken, each with its tag, how often
-- its offers found the queue full, and how often its takes found it empty
pub record PassFacts (I : Type 0) : Type 0 where
  pub queue : QueueId
  pub number : ℕ
  pub offered : List I
  pub taken : List (Tagged I)
  pub full : ℕ
  pub empty : ℕ

-- what the pass has done, as its hand. It may give no number to another pass
abbrev pub hand_of_pass : {I : Type 0} → PassFacts I → Hand I
hand_of_pass pass = record { number = pass.number; low = 0; end = 0; offered = pass.offered; taken = pass.taken }
