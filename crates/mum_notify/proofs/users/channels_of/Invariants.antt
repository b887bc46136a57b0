use Rattle.mum_notify.proofs.Common.{◌≡◌, map, take, ListenerPair}
use Rattle.mum_notify.proofs.users.channels_of.Given as goal

abbrev pub invariant-loop-pair : goal.invariant-loop-pair
invariant-loop-pair l = l.listed.items ≡ map (λ (pair : ListenerPair). pair.channel.0) (take l.pair-index l.pairs)
