use Rattle.mum_notify.proofs.Common.{◌∙◌, map, channel_changes_told, new_channels_told, channel_gone, channels_gone, departure, arrival, closes, all_to_each, channel_frame, channel_gone_frame, user_frame, permission_parcels, text_parcels, user_changes_told}
use Rattle.mum_notify.proofs.Sent.{all_sent}
use Rattle.mum_notify.proofs.telling.notices.Goals as goal

pub returns : goal.returns
returns c =
    let before = c.args.before.now in
    let edit = c.args.edit.now in
    let after = c.args.after.now in
    let here = after.roster.sessions in
    c.from_vec.ensures
    ∙ all_sent (all_to_each here (map channel_frame (new_channels_told after edit))) (all_to_each here (map channel_frame (channel_changes_told before edit after))) (arrival after edit)
    (all_to_each here (map user_frame (user_changes_told before edit after (closes before edit after)))) (all_to_each here (map (λ id. channel_gone_frame (channel_gone id)) (channels_gone before edit after)))
    (departure before edit after) (text_parcels after edit) (permission_parcels after edit)
    c.new-list.result.items c.tell_of_channels.new.list.items c.tell_of_arrival.new.list.items c.tell_of_changes.new.list.items c.tell_of_departure.new.list.items c.tell_of_text.new.list.items c.tell_of_policy.new.list.items
    c.new-list.ensures.items c.in_ok-tell_of_channels.ensures c.in_ok-tell_of_arrival.ensures c.in_ok-tell_of_changes.ensures c.in_ok-tell_of_departure.ensures c.in_ok-tell_of_text.ensures c.in_ok-tell_of_policy.ensures
