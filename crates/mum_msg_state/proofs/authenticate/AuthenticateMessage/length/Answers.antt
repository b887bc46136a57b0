use Rattle.mum_msg_state.proofs.Common.{◌∙◌, layout, parts, fields-counted, authenticate}
use Rattle.mum_msg_state.proofs.authenticate.AuthenticateMessage.length.Goals as goal

pub returns : goal.returns
returns c =
    c.total.ensures
    ∙ fields-counted (layout authenticate) (parts authenticate c.args.self.now)
    _ c.new.ensures
    _ c.text.ensures
    _ c.text-2.ensures
    _ c.each_text.ensures
    _ c.each_number.ensures
    _ c.number.ensures
