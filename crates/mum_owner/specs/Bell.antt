-- What is put into the bell of a worker, as plain data.
use Rattle.std.specs.Prelude.{ℕ, Bool, false, List, [], map, Option, Some, None}
use Rattle.mum_outbox.specs.Facts.{PassFacts, QueueFacts, QueueId}
use Rattle.mum_published.specs.{Bell.Rung, Bell.rung, Facts.ReplyFacts}
use Rattle.mum_published.specs.declared.bell.BellItem.{BellItem}
use Rattle.mum_owner.specs.declared.kept.Coming.{Coming}
use Rattle.mum_published.specs.declared.bell.BellItem.TheVariants as items

-- the reply in an item, if it is one
abbrev pub reply_in : {L N : Type 0} → BellItem L N → Option ReplyFacts
reply_in (items.Reply reply) = Some reply
reply_in others = None

-- the connection in an item, if it is one, with its link
abbrev pub coming_in : {L N : Type 0} → BellItem L N → Option (Coming L)
coming_in (items.Conn connection link) = Some (record { connection = connection; link = link })
coming_in others = None

-- which queue the bell of a worker is, what the owner has put into it, how often the owner found it full, and whether it
-- took that no more connections come
pub record SideFacts (L : Type 0) : Type 0 where
  pub queue : QueueId
  pub put : List (Rung L)
  pub full : ℕ
  pub is_told : Bool

-- nothing yet was put into this queue
abbrev pub new_side : {L : Type 0} → QueueId → SideFacts L
new_side queue = record { queue = queue; put = []; full = 0; is_told = false }

-- which queues these are
abbrev pub queues : List QueueFacts → List QueueId
queues bells = map (λ (bell : QueueFacts). bell.queue) bells

abbrev pub side_facts : {L N : Type 0} → PassFacts (BellItem L N) → Bool → SideFacts L
side_facts pass is_told =
    record { queue = pass.queue; put = map rung pass.offered; full = pass.full; is_told = is_told }
