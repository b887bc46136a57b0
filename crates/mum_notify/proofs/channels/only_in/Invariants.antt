use Rattle.mum_notify.proofs.Common.{◌≡◌, filter, not, take, is_among, numbers}
use Rattle.mum_notify.proofs.channels.only_in.Given as goal

abbrev pub invariant-loop-id : goal.invariant-loop-id
invariant-loop-id l = l.listed.items ≡ numbers (filter (λ id. not (is_among l.others id)) (take l.id-index l.ids))
