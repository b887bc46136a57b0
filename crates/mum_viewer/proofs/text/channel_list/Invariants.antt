use Rattle.mum_viewer.proofs.Common.{◌≡◌, map, take, view, channel_object}
use Rattle.mum_viewer.proofs.text.channel_list.Given as goal

abbrev pub invariant-loop-channel : goal.invariant-loop-channel
invariant-loop-channel l = map view l.objects.items ≡ map channel_object (take l.channel-index l.channels)
