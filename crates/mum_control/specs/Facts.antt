-- What contracts see of the control owner.
use Rattle.std.specs.Prelude.{List, Option}
use Rattle.mum_base.specs.declared.{number.SessionId.SessionId, reply.Mark.Mark}
use Rattle.mum_outbox.specs.Facts.{PassFacts as BoxFacts}
use Rattle.mum_published.specs.Facts.{PublisherFacts}
use Rattle.mum_notify.specs.declared.notice.Notice.{Notice}
use Rattle.mum_parcel.specs.Facts.{PostFacts}

-- the control owner: its publisher, its pass of each slot's post box, the notices that it has not posted yet, the
-- sessions whose box was full, and the outcome of its last command, if that was decided
pub record ControlFacts : Type 0 where
  pub publisher : PublisherFacts
  pub posts : List (BoxFacts PostFacts)
  pub pending : List Notice
  pub lagged : List SessionId
  pub mark : Option Mark
