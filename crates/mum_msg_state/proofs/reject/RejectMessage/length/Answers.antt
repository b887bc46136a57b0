use Rattle.mum_msg_state.proofs.Common.{◌∙◌, layout, parts, fields-counted, reject}
use Rattle.mum_msg_state.proofs.reject.RejectMessage.length.Goals as goal

pub returns : goal.returns
returns c =
    c.total.ensures
    ∙ fields-counted (layout reject) (parts reject c.args.self.now)
    _ c.new.ensures
    _ c.number.ensures
    _ c.text.ensures
