use Rattle.mum_msg_rule.proofs.Common.{◌∙◌, layout, parts, fields-counted, permission_query}
use Rattle.mum_msg_rule.proofs.permission_query.PermissionQueryMessage.length.Goals as goal

pub returns : goal.returns
returns c =
    c.total.ensures
    ∙ fields-counted (layout permission_query) (parts permission_query c.args.self.now)
    _ c.new.ensures
    _ c.number.ensures
    _ c.number-2.ensures
    _ c.number-3.ensures
