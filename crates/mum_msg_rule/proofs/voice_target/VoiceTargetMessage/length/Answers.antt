use Rattle.mum_msg_rule.proofs.Common.{◌∙◌, layout, parts, fields-counted, voice_target}
use Rattle.mum_msg_rule.proofs.voice_target.VoiceTargetMessage.length.Goals as goal

pub returns : goal.returns
returns c =
    c.total.ensures
    ∙ fields-counted (layout voice_target) (parts voice_target c.args.self.now)
    _ c.new.ensures
    _ c.number.ensures
    _ c.each_message.ensures
