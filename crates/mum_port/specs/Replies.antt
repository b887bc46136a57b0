-- What a reply of the control owner, and a lag, leave of a port.
use Rattle.std.specs.Prelude.{◌≡◌, ◌⊎◌, ℕ, true, false, List, ◌++◌, Option, Some, None}
use Rattle.mum_base.specs.declared.{number.Cause.Cause, reply.ReplyEnd.ReplyEnd}
use Rattle.mum_base.specs.declared.reply.ReplyEnd.TheVariants.{Joined, Decided, Rejected}
use Rattle.mum_io.specs.Link.{LinkFacts}
use Rattle.mum_session.specs.Machine.{answered}
use Rattle.mum_port.specs.{Facts.PortFacts, Stage.is_closed, Stage.stage_after_reply, Steps.ClosesFor}
use Rattle.mum_port.specs.Passes.{PassesFacts}
use Rattle.mum_base.specs.declared.number.Cause.TheVariants as causes

-- a login that was accepted gives passes, or none where its slot has no boxes
abbrev pub passes_after : ReplyEnd → Option PassesFacts → Option PassesFacts → Option PassesFacts
passes_after (Joined session slot) given passes = given
passes_after Decided given passes = passes
passes_after Rejected given passes = passes

-- an open port that took a reply, before its bytes are written
abbrev pub with_reply : {L : Type 0} → ReplyEnd → PortFacts L → PortFacts L
with_reply end port = record port { machine = answered end port.machine }

module _ {L : Type 0} (facts : L → LinkFacts) where
  -- a port that is closed already stays as it is
  pub record StaysClosed (old : PortFacts L) (closed : Option Cause) (new : PortFacts L) : Type 0 where
    pub was_closed : is_closed old.stage ≡ true
    pub so : closed ≡ None
    pub same : new ≡ old

  -- an open one ends its wait, and is to write the bytes after all else
  pub record TakesReply (end : ReplyEnd) (wire : List ℕ) (passes : Option PassesFacts) (old : PortFacts L)
      (closed : Option Cause) (new : PortFacts L) : Type 0 where
    pub was_open : is_closed old.stage ≡ false
    pub so : closed ≡ None
    pub rest : new ≡ record (with_reply end old) {
      out = old.out ++ wire;
      passes = passes_after end passes old.passes;
      stage = stage_after_reply end old.stage;
    }

  -- or closes, since there is no memory for the bytes
  pub record ClosesAtReply (end : ReplyEnd) (old : PortFacts L) (closed : Option Cause)
      (new : PortFacts L) : Type 0 where
    pub was_open : is_closed old.stage ≡ false
    pub so : closed ≡ Some causes.Memory
    pub closes : ClosesFor facts causes.Memory (with_reply end old) new

  abbrev pub Answers : ReplyEnd → List ℕ → Option PassesFacts → PortFacts L → Option Cause → PortFacts L → Type 0
  Answers end wire passes old closed new =
      StaysClosed old closed new ⊎ (TakesReply end wire passes old closed new ⊎ ClosesAtReply end old closed new)

  -- an open port closes at a lag, and a closed one stays as it is
  abbrev pub Lags : PortFacts L → Option Cause → PortFacts L → Type 0
  Lags old closed new =
      StaysClosed old closed new
      ⊎ ((is_closed old.stage ≡ false) × (closed ≡ Some causes.Lagged) × ClosesFor facts causes.Lagged old new)
