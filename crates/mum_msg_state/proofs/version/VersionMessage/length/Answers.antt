use Rattle.mum_msg_state.proofs.Common.{◌∙◌, layout, parts, fields-counted, version}
use Rattle.mum_msg_state.proofs.version.VersionMessage.length.Goals as goal

pub returns : goal.returns
returns c =
    c.total.ensures
    ∙ fields-counted (layout version) (parts version c.args.self.now)
    _ c.new.ensures
    _ c.number.ensures
    _ c.text.ensures
    _ c.text-2.ensures
    _ c.text-3.ensures
