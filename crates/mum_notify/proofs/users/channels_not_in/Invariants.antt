use Rattle.mum_notify.proofs.Common.{◌≡◌, filter, map, not, take, listens, ListenerPair}
use Rattle.mum_notify.proofs.users.channels_not_in.Given as goal

abbrev pub invariant-loop-pair : goal.invariant-loop-pair
invariant-loop-pair l = l.listed.items ≡ map (λ (pair : ListenerPair). pair.channel.0) (filter (λ pair. not (listens l.other l.session pair.channel)) (take l.pair-index l.pairs))
