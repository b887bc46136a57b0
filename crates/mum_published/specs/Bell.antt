-- What the bell of a worker carries, as plain data.
use Rattle.std.specs.Prelude.{ℕ}
use Rattle.mum_base.specs.declared.number.SessionId.{SessionId}
use Rattle.mum_published.specs.Facts.{ReplyFacts}
use Rattle.mum_published.specs.declared.bell.BellItem.{BellItem}
use Rattle.mum_published.specs.declared.bell.BellItem.TheVariants as items

-- the answer to a command, a connection by its number with its link, a session that lags, or that no more connections come
pub data Rung (L : Type 0) : Type 0 where
  Answer : ReplyFacts → Rung L
  Comes : ℕ → L → Rung L
  Lagging : SessionId → Rung L
  NoMore : Rung L

abbrev pub rung : {L N : Type 0} → BellItem L N → Rung L
rung (items.Reply reply) = Answer reply
rung (items.Conn connection link) = Comes connection link
rung (items.Lagged session) = Lagging session
rung items.Ended = NoMore
