use Rattle.mum_msg_rule.proofs.Common.{◌∙◌, layout, parts, fields-counted, acl_group}
use Rattle.mum_msg_rule.proofs.acl_group.AclGroupMessage.length.Goals as goal

pub returns : goal.returns
returns c =
    c.total.ensures
    ∙ fields-counted (layout acl_group) (parts acl_group c.args.self.now)
    _ c.new.ensures
    _ c.text.ensures
    _ c.number.ensures
    _ c.number-2.ensures
    _ c.number-3.ensures
    _ c.each_number.ensures
    _ c.each_number-2.ensures
    _ c.each_number-3.ensures
