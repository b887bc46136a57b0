use Rattle.mum_msg_rule.proofs.Common.{◌∙◌, layout, parts, fields-counted, target_block}
use Rattle.mum_msg_rule.proofs.target_block.TargetBlockMessage.length.Goals as goal

pub returns : goal.returns
returns c =
    c.total.ensures
    ∙ fields-counted (layout target_block) (parts target_block c.args.self.now)
    _ c.new.ensures
    _ c.each_number.ensures
    _ c.number.ensures
    _ c.text.ensures
    _ c.number-2.ensures
    _ c.number-3.ensures
