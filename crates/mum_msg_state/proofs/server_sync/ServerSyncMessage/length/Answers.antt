use Rattle.mum_msg_state.proofs.Common.{◌∙◌, layout, parts, fields-counted, server_sync}
use Rattle.mum_msg_state.proofs.server_sync.ServerSyncMessage.length.Goals as goal

pub returns : goal.returns
returns c =
    c.total.ensures
    ∙ fields-counted (layout server_sync) (parts server_sync c.args.self.now)
    _ c.new.ensures
    _ c.number.ensures
    _ c.number-2.ensures
    _ c.text.ensures
    _ c.number-3.ensures
