use Rattle.mum_users.proofs.Common.{◌≡◌, ◌+◌, ◌≤◌, length, drop, vec_capacity, vec_len, with_channels, IsIndexed}
use Rattle.mum_users.proofs.listeners.put_channels.Given as goal

abbrev pub invariant-channels : goal.invariant-channels
invariant-channels l = record {
  rest : l.rest ≤ length l.channels;
  items : l.by_session.items ≡ with_channels l.session l.left (drop l.rest l.channels) l.initial.by_session.items;
  indexed : IsIndexed l.by_session.items l.by_channel.items;
  room : vec_len l.by_session + l.rest ≤ vec_capacity l.by_session;
  channel_room : vec_len l.by_channel + l.rest ≤ vec_capacity l.by_channel;
}

abbrev pub decreases-channels : goal.decreases-channels
decreases-channels l = l.rest
