use Rattle.mum_msg_state.proofs.Common.{◌∙◌, layout, parts, fields-counted, channel_state}
use Rattle.mum_msg_state.proofs.channel_state.ChannelStateMessage.length.Goals as goal

pub returns : goal.returns
returns c =
    c.total.ensures
    ∙ fields-counted (layout channel_state) (parts channel_state c.args.self.now)
    _ c.new.ensures
    _ c.number.ensures
    _ c.number-2.ensures
    _ c.text.ensures
    _ c.each_number.ensures
    _ c.text-2.ensures
    _ c.each_number-2.ensures
    _ c.each_number-3.ensures
    _ c.number-3.ensures
    _ c.number-4.ensures
    _ c.number-5.ensures
