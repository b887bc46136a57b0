use Rattle.mum_users.proofs.Common.{◌≡◌, ◌≤◌, length, drop, count_by, staying, with_channels, is_of_session}
use Rattle.mum_users.proofs.edit.listens_to_too_many.Given as goal

abbrev pub invariant-channels : goal.invariant-channels
invariant-channels l = record {
  rest : l.rest ≤ length l.channels;
  count : l.count ≡ count_by (is_of_session l.session) (with_channels l.session l.left (drop l.rest l.channels) (staying l.session l.left l.listeners));
}

abbrev pub decreases-channels : goal.decreases-channels
decreases-channels l = l.rest
