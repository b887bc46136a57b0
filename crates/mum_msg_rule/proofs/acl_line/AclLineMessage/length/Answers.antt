use Rattle.mum_msg_rule.proofs.Common.{◌∙◌, layout, parts, fields-counted, acl_line}
use Rattle.mum_msg_rule.proofs.acl_line.AclLineMessage.length.Goals as goal

pub returns : goal.returns
returns c =
    c.total.ensures
    ∙ fields-counted (layout acl_line) (parts acl_line c.args.self.now)
    _ c.new.ensures
    _ c.number.ensures
    _ c.number-2.ensures
    _ c.number-3.ensures
    _ c.number-4.ensures
    _ c.text.ensures
    _ c.number-5.ensures
    _ c.number-6.ensures
