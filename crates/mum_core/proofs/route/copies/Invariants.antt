use Rattle.mum_core.proofs.Common.{◌≡◌, take, map, plain_parts, outgoing}
use Rattle.mum_core.proofs.route.copies.Given as goal

abbrev pub invariant-loop-hearer : goal.invariant-loop-hearer
invariant-loop-hearer l = l.copies.items ≡ map (outgoing (record { speaker = l.speaker; parts = plain_parts l.packet })) (take l.hearer-index l.hearers)
