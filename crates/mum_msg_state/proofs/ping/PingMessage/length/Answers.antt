use Rattle.mum_msg_state.proofs.Common.{◌∙◌, layout, parts, fields-counted, ping}
use Rattle.mum_msg_state.proofs.ping.PingMessage.length.Goals as goal

pub returns : goal.returns
returns c =
    c.total.ensures
    ∙ fields-counted (layout ping) (parts ping c.args.self.now)
    _ c.new.ensures
    _ c.number.ensures
