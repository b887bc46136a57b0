use Rattle.mum_msg_rule.proofs.Common.{◌∙◌, layout, parts, fields-counted, permission_denied}
use Rattle.mum_msg_rule.proofs.permission_denied.PermissionDeniedMessage.length.Goals as goal

pub returns : goal.returns
returns c =
    c.total.ensures
    ∙ fields-counted (layout permission_denied) (parts permission_denied c.args.self.now)
    _ c.new.ensures
    _ c.number.ensures
    _ c.number-2.ensures
    _ c.number-3.ensures
    _ c.text.ensures
    _ c.number-4.ensures
    _ c.text-2.ensures
