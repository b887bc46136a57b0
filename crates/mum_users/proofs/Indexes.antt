-- Pairs in two orders stay the same pairs.
use Rattle.mum_users.proofs.Common.{◌≡◌, Bool, true, false, cond, List, [], ◌∷◌, refl, sym, ap, ◌∙◌, filter, ChannelId, ListenerPair, BySession, ByChannel, IsIndexed, channel_below, pair_below, with_pair, is_of_channel}
use Rattle.mum_users.proofs.{Orders.Rises-filter, Pairs.Rises-put, Pairs.agree, Pairs.filter-put, Pairs.same_channel}

pub filter-swap : {X : Type 0} (p q : X → Bool) (xs : List X) → filter p (filter q xs) ≡ filter q (filter p xs)
filter-swap p q [] = refl
filter-swap p q (x ∷ xs) = split (p x) (q x) refl refl (filter-swap p q xs)
  where
    split : (a b : Bool) → p x ≡ a → q x ≡ b → filter p (filter q xs) ≡ filter q (filter p xs) → filter p (filter q (x ∷ xs)) ≡ filter q (filter p (x ∷ xs))
    split true true e f rest = rw (e, f, e) (ap (λ ys. x ∷ ys) rest)
    split true false e f rest = rw (e, f) rest
    split false true e f rest = rw (e, f, e) rest
    split false false e f rest = rw (e, f) rest

pub IsIndexed-filter : (q : ListenerPair → Bool) (pairs by_channel : List ListenerPair) → IsIndexed pairs by_channel → IsIndexed (filter q pairs) (filter q by_channel)
IsIndexed-filter q pairs by_channel indexed = record {
  rise = Rises-filter pair_below q pairs indexed.rise;
  channels_rise = Rises-filter channel_below q by_channel indexed.channels_rise;
  same = λ channel. filter-swap (is_of_channel channel) q by_channel ∙ ap (filter q) (indexed.same channel) ∙ filter-swap q (is_of_channel channel) pairs;
}

module _ (channel : ChannelId) (new : ListenerPair) where
  one_order : is_of_channel channel new ≡ true → (pairs : List ListenerPair) → with_pair channel_below new (filter (is_of_channel channel) pairs) ≡ with_pair pair_below new (filter (is_of_channel channel) pairs)
  one_order here [] = refl
  one_order here (pair ∷ pairs) = split (is_of_channel channel pair) refl (one_order here pairs)
    where
      split : (b : Bool) → is_of_channel channel pair ≡ b → with_pair channel_below new (filter (is_of_channel channel) pairs) ≡ with_pair pair_below new (filter (is_of_channel channel) pairs)
          → with_pair channel_below new (filter (is_of_channel channel) (pair ∷ pairs)) ≡ with_pair pair_below new (filter (is_of_channel channel) (pair ∷ pairs))
      split true e rest = let same : channel_below pair new ≡ pair_below pair new = agree channel new pair here e in rw (e, same, rest) refl
      split false e rest = rw e rest

  in_one_order : (pairs : List ListenerPair) → cond (is_of_channel channel new) (with_pair channel_below new (filter (is_of_channel channel) pairs)) (filter (is_of_channel channel) pairs) ≡ cond (is_of_channel channel new) (with_pair pair_below new (filter (is_of_channel channel) pairs)) (filter (is_of_channel channel) pairs)
  in_one_order pairs = split (is_of_channel channel new) refl
    where
      split : (b : Bool) → is_of_channel channel new ≡ b → cond b (with_pair channel_below new (filter (is_of_channel channel) pairs)) (filter (is_of_channel channel) pairs) ≡ cond b (with_pair pair_below new (filter (is_of_channel channel) pairs)) (filter (is_of_channel channel) pairs)
      split true e = one_order e pairs
      split false e = refl

pub IsIndexed-put : (new : ListenerPair) (pairs by_channel : List ListenerPair) → IsIndexed pairs by_channel → IsIndexed (with_pair pair_below new pairs) (with_pair channel_below new by_channel)
IsIndexed-put new pairs by_channel indexed = record {
  rise = Rises-put BySession new pairs indexed.rise;
  channels_rise = Rises-put ByChannel new by_channel indexed.channels_rise;
  same = λ channel.
      filter-put ByChannel new (is_of_channel channel) (same_channel channel new) by_channel indexed.channels_rise
      ∙ ap (λ (ps : List ListenerPair). cond (is_of_channel channel new) (with_pair channel_below new ps) ps) (indexed.same channel)
      ∙ in_one_order channel new pairs
      ∙ sym (filter-put BySession new (is_of_channel channel) (same_channel channel new) pairs indexed.rise);
}
