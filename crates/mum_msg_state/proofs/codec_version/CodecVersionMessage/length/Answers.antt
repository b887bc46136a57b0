use Rattle.mum_msg_state.proofs.Common.{◌∙◌, layout, parts, fields-counted, codec_version}
use Rattle.mum_msg_state.proofs.codec_version.CodecVersionMessage.length.Goals as goal

pub returns : goal.returns
returns c =
    c.total.ensures
    ∙ fields-counted (layout codec_version) (parts codec_version c.args.self.now)
    _ c.new.ensures
    _ c.number.ensures
    _ c.number-2.ensures
    _ c.number-3.ensures
    _ c.number-4.ensures
