use Rattle.mum_notify.proofs.Common.{ap, TextMessage}
use Rattle.mum_notify.proofs.Sent.{sent_fits, so_on_ok, text_sent}
use Rattle.mum_notify.proofs.texts.tell_of_text.Goals as goal

pub send_text-requires : goal.send_text-requires
send_text-requires c = record {
  within =
      sent_fits c.args.edit.now _ _ c.as_slice-sessions.result.now _ c.as_slice-channels.result.now _ c.as_slice-trees.result.now _ c.in_ok-told.told
      c.requires c.in-Text.is c.as_slice-sessions.ensures c.as_slice-channels.ensures c.as_slice-trees.ensures c.in_ok-told.ensures;
  sessions = ap (λ (told : TextMessage). told.session) c.in_ok-told.ensures;
  channels = ap (λ (told : TextMessage). told.channel_id) c.in_ok-told.ensures;
  trees = ap (λ (told : TextMessage). told.tree_id) c.in_ok-told.ensures;
}

pub returns : goal.returns
returns c =
    so_on_ok c.send_text.result
    (text_sent c.args.after.now c.args.edit.now _ _ c.as_slice-sessions.result.now _ c.as_slice-channels.result.now _ c.as_slice-trees.result.now _
    c.in_ok-told.told c.args.list.now.items c.send_text.new.list.items
    c.in-Text.is c.as_slice-sessions.ensures c.as_slice-channels.ensures c.as_slice-trees.ensures c.in_ok-told.ensures)
    c.send_text.ensures
