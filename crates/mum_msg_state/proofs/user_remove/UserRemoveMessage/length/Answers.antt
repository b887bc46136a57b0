use Rattle.mum_msg_state.proofs.Common.{◌∙◌, layout, parts, fields-counted, user_remove}
use Rattle.mum_msg_state.proofs.user_remove.UserRemoveMessage.length.Goals as goal

pub returns : goal.returns
returns c =
    c.total.ensures
    ∙ fields-counted (layout user_remove) (parts user_remove c.args.self.now)
    _ c.new.ensures
    _ c.number.ensures
    _ c.number-2.ensures
    _ c.text.ensures
    _ c.number-3.ensures
