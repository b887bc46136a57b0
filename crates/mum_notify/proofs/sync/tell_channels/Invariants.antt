use Rattle.mum_notify.proofs.Common.{◌≡◌, ◌++◌, map, take, flat_map, given, channel_of, channel_told, channel_frame}
use Rattle.mum_notify.proofs.sync.tell_channels.Given as goal

abbrev pub invariant-loop-id : goal.invariant-loop-id
invariant-loop-id l = l.frames.items ≡ l.fn.frames.items ++ map channel_frame (flat_map (λ id. map channel_told (given (channel_of l.state.tree id))) (take l.id-index l.ids))
