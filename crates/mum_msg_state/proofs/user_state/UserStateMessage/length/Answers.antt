use Rattle.mum_msg_state.proofs.Common.{◌∙◌, layout, parts, fields-counted, user_state}
use Rattle.mum_msg_state.proofs.user_state.UserStateMessage.length.Goals as goal

pub returns : goal.returns
returns c =
    c.total.ensures
    ∙ fields-counted (layout user_state) (parts user_state c.args.self.now)
    _ c.new.ensures
    _ c.number.ensures
    _ c.number-2.ensures
    _ c.text.ensures
    _ c.number-3.ensures
    _ c.number-4.ensures
    _ c.number-5.ensures
    _ c.number-6.ensures
    _ c.number-7.ensures
    _ c.number-8.ensures
    _ c.number-9.ensures
    _ c.octets.ensures
    _ c.text-2.ensures
    _ c.text-3.ensures
    _ c.number-10.ensures
    _ c.number-11.ensures
    _ c.each_text.ensures
    _ c.each_number.ensures
    _ c.each_number-2.ensures
