-- Pairs in either order: a pair put in, what is left out, and what is found.
use Rattle.mum_users.proofs.Common.{◌≡◌, ℕ, ◌+◌, ◌<◌, Bool, true, false, not, cond, eqb, List, [], ◌∷◌, length, get_or, refl, sym, ap, ◌∙◌, arith, IsTrue, filter, insert, list_any, position_or_len, nat_tests, SessionId, ChannelId, ListenerPair, PairOrder, BySession, ByChannel, below_in, channel_below, pair_below, with_pair, IsBelowAll, Rises, is_of_channel, is_of_session, is_pair}
use Rattle.mum_users.proofs.{Orders.IsBelowAll-filter, Orders.IsBelowAll-through, Places.one_more}

-- ---- the two orders

pub pair_through : (o : PairOrder) (a b c : ListenerPair) → IsTrue (below_in o a b) → IsTrue (below_in o b c) → IsTrue (below_in o a c)
pair_through BySession a b c x y = grind (arith, nat_tests)
pair_through ByChannel a b c x y = grind (arith, nat_tests)

-- of two pairs that differ one is below the other
pub pair_other_way : (o : PairOrder) (new pair : ListenerPair) → is_pair new.session new.channel pair ≡ false → below_in o pair new ≡ false → IsTrue (below_in o new pair)
pair_other_way BySession new pair other not_below = grind (arith, nat_tests)
pair_other_way ByChannel new pair other not_below = grind (arith, nat_tests)

not_back : (o : PairOrder) (new pair : ListenerPair) → IsTrue (below_in o new pair) → below_in o pair new ≡ false
not_back BySession new pair lower = grind (arith, nat_tests)
not_back ByChannel new pair lower = grind (arith, nat_tests)

pub above_is_other : (o : PairOrder) (new pair : ListenerPair) → IsTrue (below_in o new pair) → is_pair new.session new.channel pair ≡ false
above_is_other BySession new pair lower = grind (arith, nat_tests)
above_is_other ByChannel new pair lower = grind (arith, nat_tests)

pub below_is_other : (o : PairOrder) (new pair : ListenerPair) → below_in o pair new ≡ true → is_pair new.session new.channel pair ≡ false
below_is_other BySession new pair lower = grind (arith, nat_tests)
below_is_other ByChannel new pair lower = grind (arith, nat_tests)

-- pairs of one channel are in one order by both
pub agree : (channel : ChannelId) (new pair : ListenerPair) → is_of_channel channel new ≡ true → is_of_channel channel pair ≡ true → channel_below pair new ≡ pair_below pair new
agree channel new pair e f = grind (arith, nat_tests)

-- a pair is of the same channel as the same pair
pub same_channel : (channel : ChannelId) (new pair : ListenerPair) → is_pair new.session new.channel pair ≡ true → is_of_channel channel new ≡ is_of_channel channel pair
same_channel channel new pair same = grind (arith, nat_tests)

module _ (o : PairOrder) (new : ListenerPair) where
  IsBelowAll-put : (first : ListenerPair) (pairs : List ListenerPair) → IsTrue (below_in o first new) → IsBelowAll (below_in o) first pairs → IsBelowAll (below_in o) first (with_pair (below_in o) new pairs)
  IsBelowAll-put first [] lower all = (lower, tt)
  IsBelowAll-put first (pair ∷ pairs) lower all = split (below_in o pair new) (is_pair new.session new.channel pair) refl refl (IsBelowAll-put first pairs lower all.1)
    where
      split : (b s : Bool) → below_in o pair new ≡ b → is_pair new.session new.channel pair ≡ s → IsBelowAll (below_in o) first (with_pair (below_in o) new pairs) → IsBelowAll (below_in o) first (with_pair (below_in o) new (pair ∷ pairs))
      split true s e f rest = rw e (all.0, rest)
      split false true e f rest = rw (e, f) all
      split false false e f rest = rw (e, f) (lower, all)

  pub Rises-put : (pairs : List ListenerPair) → Rises (below_in o) pairs → Rises (below_in o) (with_pair (below_in o) new pairs)
  Rises-put [] rise = (tt, tt)
  Rises-put (pair ∷ pairs) rise = split (below_in o pair new) (is_pair new.session new.channel pair) refl refl (Rises-put pairs rise.1)
    where
      split : (b s : Bool) → below_in o pair new ≡ b → is_pair new.session new.channel pair ≡ s → Rises (below_in o) (with_pair (below_in o) new pairs) → Rises (below_in o) (with_pair (below_in o) new (pair ∷ pairs))
      split true s e f rest = rw e (IsBelowAll-put pair pairs e rise.0, rest)
      split false true e f rest = rw (e, f) rise
      split false false e f rest =
          let lower = pair_other_way o new pair f e in
          rw (e, f) ((lower, IsBelowAll-through (below_in o) (pair_through o) new pair pairs lower rise.0), rise)

  -- before all that it is below
  put_first : (pairs : List ListenerPair) → IsBelowAll (below_in o) new pairs → with_pair (below_in o) new pairs ≡ new ∷ pairs
  put_first [] all = refl
  put_first (pair ∷ pairs) all = rw (not_back o new pair all.0, above_is_other o new pair all.0) refl

  -- a filter that keeps the pair keeps its place
  pub filter-put : (p : ListenerPair → Bool) → ((pair : ListenerPair) → is_pair new.session new.channel pair ≡ true → p new ≡ p pair) → (pairs : List ListenerPair) → Rises (below_in o) pairs → filter p (with_pair (below_in o) new pairs) ≡ cond (p new) (with_pair (below_in o) new (filter p pairs)) (filter p pairs)
  filter-put p respects [] rise = split (p new) refl
    where
      split : (k : Bool) → p new ≡ k → filter p (new ∷ []) ≡ cond (p new) (new ∷ []) []
      split true e = rw e refl
      split false e = rw e refl
  filter-put p respects (pair ∷ pairs) rise = split (below_in o pair new) (is_pair new.session new.channel pair) (p new) (p pair) refl refl refl refl (filter-put p respects pairs rise.1)
    where
      split : (b s k q : Bool) → below_in o pair new ≡ b → is_pair new.session new.channel pair ≡ s → p new ≡ k → p pair ≡ q
          → filter p (with_pair (below_in o) new pairs) ≡ cond (p new) (with_pair (below_in o) new (filter p pairs)) (filter p pairs)
          → filter p (with_pair (below_in o) new (pair ∷ pairs)) ≡ cond (p new) (with_pair (below_in o) new (filter p (pair ∷ pairs))) (filter p (pair ∷ pairs))
      split true s true true e f g h rest = rw (e, g, h, e) (ap (λ ps. pair ∷ ps) (rw g at rest))
      split true s true false e f g h rest = rw (e, g, h) (rw g at rest)
      split true s false true e f g h rest = rw (e, g, h) (ap (λ ps. pair ∷ ps) (rw g at rest))
      split true s false false e f g h rest = rw (e, g, h) (rw g at rest)
      split false true true true e f g h rest = rw (e, f, g, h, e, f) refl
      split false true true false e f g h rest = cc (respects pair f)
      split false true false true e f g h rest = cc (respects pair f)
      split false true false false e f g h rest = rw (e, f, g, h) refl
      split false false true q e f g h rest =
          let lower = pair_other_way o new pair f e in
          let all : IsBelowAll (below_in o) new (pair ∷ pairs) = (lower, IsBelowAll-through (below_in o) (pair_through o) new pair pairs lower rise.0) in
          rw (e, f, g) (sym (put_first (filter p (pair ∷ pairs)) (IsBelowAll-filter (below_in o) p new (pair ∷ pairs) all)))
      split false false false q e f g h rest = rw (e, f, g) refl

-- a pair is among all exactly where its channel is among the channels of its session
pub is_pair-of_session : (session : SessionId) (channel : ChannelId) (pairs : List ListenerPair) → list_any (λ pair. eqb pair.channel.0 channel.0) (filter (is_of_session session) pairs) ≡ list_any (is_pair session channel) pairs
is_pair-of_session session channel [] = refl
is_pair-of_session session channel (pair ∷ pairs) = split (is_of_session session pair) refl (is_pair-of_session session channel pairs)
  where
    split : (b : Bool) → is_of_session session pair ≡ b → list_any (λ p. eqb p.channel.0 channel.0) (filter (is_of_session session) pairs) ≡ list_any (is_pair session channel) pairs → list_any (λ p. eqb p.channel.0 channel.0) (filter (is_of_session session) (pair ∷ pairs)) ≡ list_any (is_pair session channel) (pair ∷ pairs)
    split true e rest = rw (e, rest) refl
    split false e rest = rw e rest

-- ---- a pair put in by code

-- the first pair that is not below the new one
abbrev pub place_in : PairOrder → ListenerPair → List ListenerPair → ℕ
place_in o new pairs = position_or_len (λ pair. not (below_in o pair new)) pairs

-- where the pair is there, it is at its place
stays : (o : PairOrder) (new : ListenerPair) (pairs : List ListenerPair) (d : ListenerPair) → place_in o new pairs < length pairs → is_pair new.session new.channel (get_or pairs (place_in o new pairs) d) ≡ true → with_pair (below_in o) new pairs ≡ pairs
stays o new [] d within there = absurd (omega arith)
stays o new (pair ∷ pairs) d within there = split (below_in o pair new) refl (stays o new pairs d)
  where
    split : (b : Bool) → below_in o pair new ≡ b → (place_in o new pairs < length pairs → is_pair new.session new.channel (get_or pairs (place_in o new pairs) d) ≡ true → with_pair (below_in o) new pairs ≡ pairs) → with_pair (below_in o) new (pair ∷ pairs) ≡ pair ∷ pairs
    split true e rest =
        let inside : 1 + place_in o new pairs < length (pair ∷ pairs) = rw e at within in
        let same = rw (e, one_more (place_in o new pairs)) at there in
        rw e (ap (λ ys. pair ∷ ys) (rest (omega arith) same))
    split false e rest = let same : is_pair new.session new.channel pair ≡ true = rw e at there in rw (e, same) refl

-- else it goes in before
goes_in : (o : PairOrder) (new : ListenerPair) (pairs : List ListenerPair) → ((d : ListenerPair) → place_in o new pairs < length pairs → is_pair new.session new.channel (get_or pairs (place_in o new pairs) d) ≡ false) → insert pairs (place_in o new pairs) new ≡ with_pair (below_in o) new pairs
goes_in o new [] apart = refl
goes_in o new (pair ∷ pairs) apart = split (below_in o pair new) refl (goes_in o new pairs)
  where
    split : (b : Bool) → below_in o pair new ≡ b → (((d : ListenerPair) → place_in o new pairs < length pairs → is_pair new.session new.channel (get_or pairs (place_in o new pairs) d) ≡ false) → insert pairs (place_in o new pairs) new ≡ with_pair (below_in o) new pairs) → insert (pair ∷ pairs) (place_in o new (pair ∷ pairs)) new ≡ with_pair (below_in o) new (pair ∷ pairs)
    split true e rest =
        rw (e, one_more (place_in o new pairs)) (ap (λ ys. pair ∷ ys) (rest (λ d lt. rw (e, one_more (place_in o new pairs)) at (apart d (rw e (omega arith))))))
    split false e rest = let other : is_pair new.session new.channel pair ≡ false = rw e at (apart new (rw e (omega arith))) in rw (e, other) refl

-- the same, as code finds the place and tests the pair there
module _ (o : PairOrder) (new : ListenerPair) (pairs seen again : List ListenerPair) (place : ℕ) (e : seen ≡ pairs) (f : again ≡ pairs) (found : place ≡ place_in o new seen) where
  place_is : place ≡ place_in o new pairs
  place_is = found ∙ ap (place_in o new) e

  pub put_stays : (d : ListenerPair) → (IsTrue true → place < length again) → ((d : ListenerPair) → place < length again → is_pair new.session new.channel (get_or again place d) ≡ true) → pairs ≡ with_pair (below_in o) new pairs
  put_stays d within same =
      let lt : place < length again = within refl in
      let is = rw (f, place_is) at (same d lt) in
      sym (stays o new pairs d (omega (arith, lt, place_is, ap length f)) is)

  pub put_goes_in : ((d : ListenerPair) → place < length again → is_pair new.session new.channel (get_or again place d) ≡ false) → insert pairs place new ≡ with_pair (below_in o) new pairs
  put_goes_in other =
      rw place_is (goes_in o new pairs (λ d lt. rw (f, place_is) at (other d (omega (arith, lt, place_is, ap length f)))))
