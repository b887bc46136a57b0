-- One worker more shares what the others do, and has a bell.
use Rattle.mum_serve.proofs.Common.{◌∙◌}
use Rattle.mum_serve.proofs.Sharing.{one_more}
use Rattle.mum_serve.proofs.queues.add_worker.Goals as goal

pub returns-in-Ok-push_both : goal.returns-in-Ok-push_both
returns-in-Ok-push_both g c =
    one_more _ _ _ _ _ _ _ c.push_both.new.some.items c.args.shared.now.items c.push_both.new.others.items c.requires.few c.requires.shared c.in-Ok-share.ensures
    c.in-Ok.ensures.same (c.in-Ok.ensures.name ∙ c.from.ensures) c.in-Ok-push_both.ensures.some c.in-Ok-push_both.ensures.others
