use Rattle.mum_msg_state.proofs.Common.{layout, parts, fields-added, channel_state}
use Rattle.mum_msg_state.proofs.channel_state.ChannelStateMessage.put.Goals as goal

pub returns-clause-ok : goal.returns-clause-ok
returns-clause-ok c =
    fields-added (layout channel_state) (parts channel_state c.args.self.now) c.args.writer
    _ c.in_ok-put_number.ensures.ok
    _ c.in_ok-put_number-2.ensures.ok
    _ c.in_ok-put_text.ensures.ok
    _ c.in_ok-put_each_number.ensures.ok
    _ c.in_ok-put_text-2.ensures.ok
    _ c.in_ok-put_each_number-2.ensures.ok
    _ c.in_ok-put_each_number-3.ensures.ok
    _ c.in_ok-put_number-3.ensures.ok
    _ c.in_ok-put_number-4.ensures.ok
    _ c.in_ok-put_number-5.ensures.ok
