use Rattle.mum_notify.proofs.Common.{map, channel_changes_told, new_channels_told, channel_frame}
use Rattle.mum_notify.proofs.Sent.{two_sent}
use Rattle.mum_notify.proofs.telling.tell_of_channels.Goals as goal

pub returns : goal.returns
returns c =
    two_sent c.args.after.now.roster.sessions c.args.list.now.items c.tell_here.new.list.items c.tell_here-2.new.list.items
    (map channel_frame (new_channels_told c.args.after.now c.args.edit.now)) c.in_ok-made.made.items c.as_slice.result.now
    (map channel_frame (channel_changes_told c.args.before.now c.args.edit.now c.args.after.now)) c.in_ok-changed.changed.items c.as_slice-2.result.now
    c.as_slice.ensures.value c.in_ok-made.ensures c.as_slice-2.ensures.value c.in_ok-changed.ensures c.in_ok-tell_here.ensures c.in_ok-tell_here-2.ensures
