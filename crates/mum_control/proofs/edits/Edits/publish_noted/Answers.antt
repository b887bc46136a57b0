use Rattle.mum_control.proofs.Settling.{publishes_so}
use Rattle.mum_control.proofs.edits.Edits.publish_noted.Goals as goal

pub returns : goal.returns
returns g c =
    rw c.ok.ensures.value
    (publishes_so c.publish.result c.args.self.now c.publish.new.self c.publish.ensures.ok c.publish.ensures.err c.publish.ensures.note)
