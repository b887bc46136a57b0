use Rattle.mum_notify.proofs.Common.{◌∙◌, Bool, List, ap, map, not, ChannelId, is_empty, channel_gone, channels_gone, closes, channel_gone_frame, user_frame, user_changes_told}
use Rattle.mum_notify.proofs.Sent.{two_sent}
use Rattle.mum_notify.proofs.telling.tell_of_changes.Goals as goal

pub returns : goal.returns
returns c =
    let before = c.args.before.now in
    let edit = c.args.edit.now in
    let after = c.args.after.now in
    let ids = c.as_slice-ids.ensures.value ∙ c.in_ok-gone.ensures in
    two_sent after.roster.sessions c.args.list.now.items c.tell_here.new.list.items c.tell_here-2.new.list.items
    (map user_frame (user_changes_told before edit after (closes before edit after))) c.in_ok-changed.changed.items c.as_slice.result.now
    (map (λ id. channel_gone_frame (channel_gone id)) (channels_gone before edit after)) c.in_ok-closed.closed.items c.as_slice-2.result.now
    c.as_slice.ensures.value
    (c.in_ok-changed.ensures ∙ ap (λ (b : Bool). map user_frame (user_changes_told before edit after b)) (c.has_some-closes.ensures ∙ ap (λ (xs : List ChannelId). not (is_empty xs)) ids))
    c.as_slice-2.ensures.value
    (c.in_ok-closed.ensures ∙ ap (λ (xs : List ChannelId). map (λ id. channel_gone_frame (channel_gone id)) xs) ids)
    c.in_ok-tell_here.ensures c.in_ok-tell_here-2.ensures
