use Rattle.mum_msg_rule.proofs.Common.{◌∙◌, layout, parts, fields-counted, text_message}
use Rattle.mum_msg_rule.proofs.text_message.TextMessageMessage.length.Goals as goal

pub returns : goal.returns
returns c =
    c.total.ensures
    ∙ fields-counted (layout text_message) (parts text_message c.args.self.now)
    _ c.new.ensures
    _ c.number.ensures
    _ c.each_number.ensures
    _ c.each_number-2.ensures
    _ c.each_number-3.ensures
    _ c.text.ensures
