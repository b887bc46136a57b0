use Rattle.mum_viewer.proofs.Common.{◌≡◌, map, take, view, whole}
use Rattle.mum_viewer.proofs.text.channel_numbers.Given as goal

abbrev pub invariant-loop-id : goal.invariant-loop-id
invariant-loop-id l = map view l.numbers.items ≡ map (λ id. whole id.0) (take l.id-index l.ids)
