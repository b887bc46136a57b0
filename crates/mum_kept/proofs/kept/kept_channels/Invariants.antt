use Rattle.mum_kept.proofs.Common.{◌≡◌, take, flat_map, kept_of}
use Rattle.mum_kept.proofs.kept.kept_channels.Given as goal

abbrev pub invariant-loop-id : goal.invariant-loop-id
invariant-loop-id l = l.channels.items ≡ flat_map (kept_of l.state) (take l.id-index l.ids)
