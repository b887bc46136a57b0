use Rattle.mum_msg_rule.proofs.Common.{◌∙◌, layout, parts, fields-counted, acl}
use Rattle.mum_msg_rule.proofs.acl.AclMessage.length.Goals as goal

pub returns : goal.returns
returns c =
    c.total.ensures
    ∙ fields-counted (layout acl) (parts acl c.args.self.now)
    _ c.new.ensures
    _ c.number.ensures
    _ c.number-2.ensures
    _ c.each_message.ensures
    _ c.each_message-2.ensures
    _ c.number-3.ensures
