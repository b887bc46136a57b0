use Rattle.mum_notify.proofs.Common.{◌≡◌, map, take, channel_gone, channel_gone_frame}
use Rattle.mum_notify.proofs.gone.channel_gone_frames.Given as goal

abbrev pub invariant-loop-id : goal.invariant-loop-id
invariant-loop-id l = l.frames.items ≡ map (λ id. channel_gone_frame (channel_gone id)) (take l.id-index l.gone)
