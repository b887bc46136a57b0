use Rattle.mum_core.proofs.Common.{◌∙◌, sym, next_of_frame}
use Rattle.mum_core.proofs.Nexts.{frame_answered}
use Rattle.mum_core.proofs.connection.Connection.answer.Goals as goal

pub returns-then-frame_is_next : goal.returns-then-frame_is_next
returns-then-frame_is_next c =
    rw (c.take.ensures.after, c.replace.ensures.after) (frame_answered (next_of_frame c.args.self.now) c.args.reply c.args.self.now (sym c.frame_is_next.ensures ∙ c.if-frame_is_next.true))
