use Rattle.mum_msg_state.proofs.Common.{◌∙◌, layout, parts, fields-counted, channel_remove}
use Rattle.mum_msg_state.proofs.channel_remove.ChannelRemoveMessage.length.Goals as goal

pub returns : goal.returns
returns c =
    c.total.ensures
    ∙ fields-counted (layout channel_remove) (parts channel_remove c.args.self.now)
    _ c.new.ensures
    _ c.number.ensures
