use Rattle.mum_users.proofs.Common.{◌≡◌, ℕ, suc, ◌-◌, ◌<◌, cond, List, ◌∷◌, length, get_or, drop, drop-cons, sym, ap, ◌∙◌, arith, SessionId, ChannelId, ListenerPair, is_among, with_channels, pair_below, with_pair}
use Rattle.mum_users.proofs.listeners.put_channels.Goals as goal

-- one channel more, from the last on
one_more_channel : (session : SessionId) (left channels : List ChannelId) (pairs was new : List ListenerPair) (rest : ℕ) (d : ChannelId) → 0 < rest → rest - 1 < length channels
    → was ≡ with_channels session left (drop rest channels) pairs
    → new ≡ cond (is_among left (get_or channels (rest - 1) d)) was (with_pair pair_below (record { session = session; channel = get_or channels (rest - 1) d }) was)
    → new ≡ with_channels session left (drop (rest - 1) channels) pairs
one_more_channel session left channels pairs was new rest d some within before after =
    let next : suc (rest - 1) ≡ rest = omega arith in
    let front : drop (rest - 1) channels ≡ get_or channels (rest - 1) d ∷ drop rest channels = drop-cons channels (rest - 1) d within ∙ ap (λ (k : ℕ). get_or channels (rest - 1) d ∷ drop k channels) next in
    after
    ∙ ap (λ (ps : List ListenerPair). cond (is_among left (get_or channels (rest - 1) d)) ps (with_pair pair_below (record { session = session; channel = get_or channels (rest - 1) d }) ps)) before
    ∙ sym (ap (λ (cs : List ChannelId). with_channels session left cs pairs) front)

pub channels-preserved : goal.channels-preserved
channels-preserved c = record {
  rest = omega arith;
  items = one_more_channel c.args.session c.args.left.now c.args.channels.now _ _ _ c.channels.rest _ (omega arith) (omega arith) c.channels.invariant.items c.put_channel.ensures.items;
  indexed = c.put_channel.ensures.indexed;
  room = omega arith;
  channel_room = omega arith;
}
