use Rattle.mum_notify.proofs.Common.{◌∙◌, ◌-◌, List, ap, length, take, Notice}
use Rattle.mum_notify.proofs.Fewer.{take-fewer}
use Rattle.mum_notify.proofs.waiting.NoticeQueue.take_back.Goals as goal

pub loop-taken-preserved : goal.loop-taken-preserved
loop-taken-preserved c =
    c.drop_back.ensures
    ∙ ap (λ (seen : List Notice). take (length seen - 1) seen) c.loop-taken.invariant
    ∙ take-fewer c.args.self.now c.loop-taken._taken
