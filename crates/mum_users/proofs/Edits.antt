-- What a change of a session leaves of listeners, and how many.
use Rattle.mum_users.proofs.Common.{◌≡◌, ℕ, zero, suc, ◌+◌, ◌-◌, ◌<◌, ◌≤◌, Bool, true, false, not, cond, eqb, leb, ltb, ◌&&◌, ◌||◌, List, [], ◌∷◌, length, get_or, set, take, drop, drop-cons, filter, map, Some, None, refl, sym, ap, subst, ◌∙◌, arith, inl, inr, count_by, list_any, position, cases_Bool, eqb-true, false≢true, le-ltb, ltb-false, or_parts, nat_tests, take_rest, any-filter_same, SessionId, ChannelId, ListenerPair, CHANNEL_LISTENERS, LISTENED_CHANNELS, BySession, User, NoSession, ListenerLimit, UserListenerLimit, changed, is_among, UserEdit, changed_user, edit_fault, edited, is_crowded, pairs_after, staying, with_channels, pair_below, with_pair, Rises, IsProper, RosterState, has_number, is_of_channel, is_of_session, is_pair}
use Rattle.mum_users.proofs.{Counts.count_by-cons, Counts.count_by-filter-le, Counts.count_by-filter_others, Counts.count_by-map, Orders.Rises-filter, Pairs.Rises-put, PairCounts.count-put, PairCounts.count-put_other, Places.absent_from, Places.present_from, Rosters.IsProper-changed, Rosters.apart_from, Rosters.set-changed, Silence.changed_user_keeps}

-- ---- one pair

or_last : (a b c : Bool) → (a || (b || c)) ≡ ((a || b) || c)
or_last true b c = refl
or_last false b c = refl

or_swap : (a b : Bool) → (a || b) ≡ (b || a)
or_swap true true = refl
or_swap true false = refl
or_swap false true = refl
or_swap false false = refl

or_twice : (a b : Bool) → (a || b) ≡ ((a || b) || a)
or_twice true b = refl
or_twice false true = refl
or_twice false false = refl

same_pair : (session : SessionId) (channel : ChannelId) (new pair : ListenerPair) → is_pair new.session new.channel pair ≡ true → is_pair session channel new ≡ is_pair session channel pair
same_pair session channel new pair same = grind (arith, nat_tests)

pub listed-put : (session : SessionId) (channel : ChannelId) (new : ListenerPair) (pairs : List ListenerPair) → list_any (is_pair session channel) (with_pair pair_below new pairs) ≡ (list_any (is_pair session channel) pairs || is_pair session channel new)
listed-put session channel new [] = or_swap (is_pair session channel new) false
listed-put session channel new (pair ∷ pairs) = split (pair_below pair new) (is_pair new.session new.channel pair) refl refl (listed-put session channel new pairs)
  where
    split : (b s : Bool) → pair_below pair new ≡ b → is_pair new.session new.channel pair ≡ s → list_any (is_pair session channel) (with_pair pair_below new pairs) ≡ (list_any (is_pair session channel) pairs || is_pair session channel new)
        → list_any (is_pair session channel) (with_pair pair_below new (pair ∷ pairs)) ≡ (list_any (is_pair session channel) (pair ∷ pairs) || is_pair session channel new)
    split true s e f rest = rw e (ap (λ (b : Bool). is_pair session channel pair || b) rest ∙ or_last (is_pair session channel pair) (list_any (is_pair session channel) pairs) (is_pair session channel new))
    split false true e f rest = rw (e, f, same_pair session channel new pair f) (or_twice (is_pair session channel pair) (list_any (is_pair session channel) pairs))
    split false false e f rest = rw (e, f) (or_swap (is_pair session channel new) (list_any (is_pair session channel) (pair ∷ pairs)))

-- ---- channels of a session

pub among_same : (channels : List ChannelId) (channel other : ChannelId) → eqb channel.0 other.0 ≡ true → is_among channels channel ≡ is_among channels other
among_same channels channel other same = ap (λ (n : ℕ). list_any (λ (c : ChannelId). eqb c.0 n) channels) (eqb-true _ _ same)

module _ (session : SessionId) (left : List ChannelId) where
  pub Rises-with_channels : (channels : List ChannelId) (pairs : List ListenerPair) → Rises pair_below pairs → Rises pair_below (with_channels session left channels pairs)
  Rises-with_channels [] pairs rise = rise
  Rises-with_channels (channel ∷ channels) pairs rise = split (is_among left channel) refl (Rises-with_channels channels pairs rise)
    where
      split : (b : Bool) → is_among left channel ≡ b → Rises pair_below (with_channels session left channels pairs) → Rises pair_below (with_channels session left (channel ∷ channels) pairs)
      split true e rest = rw e rest
      split false e rest = rw e (Rises-put BySession (record { session = session; channel = channel }) (with_channels session left channels pairs) rest)

  -- it listens to what it did, and to those of the channels that it does not leave
  pub listed-with_channels : (channel : ChannelId) (channels : List ChannelId) (pairs : List ListenerPair) → list_any (is_pair session channel) (with_channels session left channels pairs) ≡ (list_any (is_pair session channel) pairs || (not (is_among left channel) && is_among channels channel))
  listed-with_channels channel [] pairs = nothing (list_any (is_pair session channel) pairs) (is_among left channel)
    where
      nothing : (a b : Bool) → a ≡ (a || (not b && false))
      nothing true b = refl
      nothing false true = refl
      nothing false false = refl
  listed-with_channels channel (other ∷ channels) pairs = split (is_among left other) (eqb other.0 channel.0) refl refl (listed-with_channels channel channels pairs)
    where
      itself : is_pair session channel (record { session = session; channel = other }) ≡ eqb other.0 channel.0
      itself = grind (arith, nat_tests)

      taken : (a b : Bool) → ((a || b) || true) ≡ (a || true)
      taken true b = refl
      taken false true = refl
      taken false false = refl

      kept : (a b : Bool) → ((a || b) || false) ≡ (a || b)
      kept true b = refl
      kept false true = refl
      kept false false = refl

      split : (b s : Bool) → is_among left other ≡ b → eqb other.0 channel.0 ≡ s → list_any (is_pair session channel) (with_channels session left channels pairs) ≡ (list_any (is_pair session channel) pairs || (not (is_among left channel) && is_among channels channel))
          → list_any (is_pair session channel) (with_channels session left (other ∷ channels) pairs) ≡ (list_any (is_pair session channel) pairs || (not (is_among left channel) && is_among (other ∷ channels) channel))
      split true true e f rest =
          let gone : is_among left channel ≡ true = sym (among_same left other channel f) ∙ e in
          rw (e, gone) (rw gone at rest)
      split true false e f rest = rw (e, f) rest
      split false true e f rest =
          let stays : is_among left channel ≡ false = sym (among_same left other channel f) ∙ e in
          rw (e, listed-put session channel (record { session = session; channel = other }) (with_channels session left channels pairs), rest, itself, f, stays) (taken (list_any (is_pair session channel) pairs) (is_among channels channel))
      split false false e f rest =
          rw (e, listed-put session channel (record { session = session; channel = other }) (with_channels session left channels pairs), rest, itself, f) (kept (list_any (is_pair session channel) pairs) (not (is_among left channel) && is_among channels channel))

  -- how many listen to a channel
  count_of_channel : (channel : ChannelId) (channels : List ChannelId) (pairs : List ListenerPair) → Rises pair_below pairs → count_by (is_of_channel channel) (with_channels session left channels pairs) ≡ count_by (is_of_channel channel) pairs + cond (not (is_among left channel) && is_among channels channel && not (list_any (is_pair session channel) pairs)) 1 0
  count_of_channel channel [] pairs rise = nothing (is_among left channel) (list_any (is_pair session channel) pairs)
    where
      nothing : (a b : Bool) → count_by (is_of_channel channel) pairs ≡ count_by (is_of_channel channel) pairs + cond (not a && false && not b) 1 0
      nothing true b = omega arith
      nothing false b = omega arith
  count_of_channel channel (other ∷ channels) pairs rise = split (is_among left other) (eqb other.0 channel.0) (is_among channels channel) (list_any (is_pair session channel) pairs) refl refl refl refl (count_of_channel channel channels pairs rise)
    where
      split : (b s m l : Bool) → is_among left other ≡ b → eqb other.0 channel.0 ≡ s → is_among channels channel ≡ m → list_any (is_pair session channel) pairs ≡ l
          → count_by (is_of_channel channel) (with_channels session left channels pairs) ≡ count_by (is_of_channel channel) pairs + cond (not (is_among left channel) && is_among channels channel && not (list_any (is_pair session channel) pairs)) 1 0
          → count_by (is_of_channel channel) (with_channels session left (other ∷ channels) pairs) ≡ count_by (is_of_channel channel) pairs + cond (not (is_among left channel) && is_among (other ∷ channels) channel && not (list_any (is_pair session channel) pairs)) 1 0
      split true true m l e f g h rest =
          let gone : is_among left channel ≡ true = sym (among_same left other channel f) ∙ e in
          rw (e, gone) (rw gone at rest)
      split true false m l e f g h rest = rw (e, f) rest
      split false false m l e f g h rest = rw (e, f) (count-put_other (is_of_channel channel) (record { session = session; channel = other }) (with_channels session left channels pairs) f ∙ rest)
      split false true m l e f g h rest =
          let stays : is_among left channel ≡ false = sym (among_same left other channel f) ∙ e in
          let put = count-put (is_of_channel channel) (record { session = session; channel = other }) (with_channels session left channels pairs) f (Rises-with_channels channels pairs rise) in
          let same : list_any (is_pair session other) (with_channels session left channels pairs) ≡ list_any (is_pair session channel) (with_channels session left channels pairs) = ap (λ (n : ℕ). list_any (λ (pair : ListenerPair). eqb pair.session.0 session.0 && eqb pair.channel.0 n) (with_channels session left channels pairs)) (eqb-true _ _ f) in
          let listed = rw (stays, g, h) at (listed-with_channels channel channels pairs) in
          let before = rw (stays, g, h) at rest in
          rw (e, f, stays, h) (put ∙ last m l (same ∙ listed) before)
        where
          last : (m l : Bool) → list_any (is_pair session other) (with_channels session left channels pairs) ≡ (l || (true && m)) → count_by (is_of_channel channel) (with_channels session left channels pairs) ≡ count_by (is_of_channel channel) pairs + cond (true && m && not l) 1 0
              → count_by (is_of_channel channel) (with_channels session left channels pairs) + cond (list_any (is_pair session other) (with_channels session left channels pairs)) 0 1 ≡ count_by (is_of_channel channel) pairs + cond (not l) 1 0
          last true true e f = omega (arith, f, ap (λ (b : Bool). cond {A = ℕ} b 0 1) e)
          last true false e f = omega (arith, f, ap (λ (b : Bool). cond {A = ℕ} b 0 1) e)
          last false true e f = omega (arith, f, ap (λ (b : Bool). cond {A = ℕ} b 0 1) e)
          last false false e f = omega (arith, f, ap (λ (b : Bool). cond {A = ℕ} b 0 1) e)

  -- pairs of another session stay as many
  count_of_other : (other : SessionId) → eqb session.0 other.0 ≡ false → (channels : List ChannelId) (pairs : List ListenerPair) → count_by (is_of_session other) (with_channels session left channels pairs) ≡ count_by (is_of_session other) pairs
  count_of_other other apart [] pairs = refl
  count_of_other other apart (channel ∷ channels) pairs = split (is_among left channel) refl (count_of_other other apart channels pairs)
    where
      split : (b : Bool) → is_among left channel ≡ b → count_by (is_of_session other) (with_channels session left channels pairs) ≡ count_by (is_of_session other) pairs → count_by (is_of_session other) (with_channels session left (channel ∷ channels) pairs) ≡ count_by (is_of_session other) pairs
      split true e rest = rw e rest
      split false e rest = rw e (count-put_other (is_of_session other) (record { session = session; channel = channel }) (with_channels session left channels pairs) apart ∙ rest)

  -- ---- what stays

  stays_at : (channel : ChannelId) (pair : ListenerPair) → is_among left channel ≡ false → eqb pair.channel.0 channel.0 ≡ true → not (is_of_session session pair && is_among left pair.channel) ≡ true
  stays_at channel pair kept same =
      let stays : is_among left pair.channel ≡ false = among_same left pair.channel channel same ∙ kept in
      rw stays (either (is_of_session session pair))
    where
      either : (b : Bool) → not (b && false) ≡ true
      either true = refl
      either false = refl

  pub listed-staying : (channel : ChannelId) (pairs : List ListenerPair) → is_among left channel ≡ false → list_any (is_pair session channel) (staying session left pairs) ≡ list_any (is_pair session channel) pairs
  listed-staying channel pairs kept =
      any-filter_same (is_pair session channel) (λ pair. not (is_of_session session pair && is_among left pair.channel)) true
      (λ pair is. stays_at channel pair kept (second (eqb pair.session.0 session.0) (eqb pair.channel.0 channel.0) is)) pairs
    where
      second : (a b : Bool) → (a && b) ≡ true → b ≡ true
      second true b e = e
      second false b e = cc

  count-staying_channel : (channel : ChannelId) (pairs : List ListenerPair) → is_among left channel ≡ false → count_by (is_of_channel channel) (staying session left pairs) ≡ count_by (is_of_channel channel) pairs
  count-staying_channel channel pairs kept =
      count_by-filter_others (is_of_channel channel) (λ pair. not (is_of_session session pair && is_among left pair.channel))
      (λ pair gone. apart pair gone (eqb pair.channel.0 channel.0) refl) pairs
    where
      apart : (pair : ListenerPair) → not (is_of_session session pair && is_among left pair.channel) ≡ false → (b : Bool) → eqb pair.channel.0 channel.0 ≡ b → b ≡ false
      apart pair gone true e = cc (stays_at channel pair kept e)
      apart pair gone false e = refl

  pub count-staying_own : (pairs : List ListenerPair) → count_by (λ pair. not (is_among left pair.channel)) (filter (is_of_session session) pairs) ≡ count_by (is_of_session session) (staying session left pairs)
  count-staying_own [] = refl
  count-staying_own (pair ∷ pairs) = split (is_of_session session pair) (is_among left pair.channel) refl refl (count-staying_own pairs)
    where
      split : (b s : Bool) → is_of_session session pair ≡ b → is_among left pair.channel ≡ s → count_by (λ p. not (is_among left p.channel)) (filter (is_of_session session) pairs) ≡ count_by (is_of_session session) (staying session left pairs)
          → count_by (λ p. not (is_among left p.channel)) (filter (is_of_session session) (pair ∷ pairs)) ≡ count_by (is_of_session session) (staying session left (pair ∷ pairs))
      split true true e f rest = rw (e, f) (omega (arith, rest, count_by-cons (λ (p : ListenerPair). not (is_among left p.channel)) pair (filter (is_of_session session) pairs), ap (λ (b : Bool). cond {A = ℕ} (not b) 1 0) f))
      split true false e f rest = rw (e, f) (omega (arith, rest, count_by-cons (λ (p : ListenerPair). not (is_among left p.channel)) pair (filter (is_of_session session) pairs), ap (λ (b : Bool). cond {A = ℕ} (not b) 1 0) f, count_by-cons (is_of_session session) pair (staying session left pairs), ap (λ (b : Bool). cond {A = ℕ} b 1 0) e))
      split false s e f rest = rw e (omega (arith, rest, count_by-cons (is_of_session session) pair (staying session left pairs), ap (λ (b : Bool). cond {A = ℕ} b 1 0) e))

  -- one channel before others is one more exactly where it is new and not among them
  own_step : (channel : ChannelId) (channels : List ChannelId) (pairs : List ListenerPair) → Rises pair_below pairs
      → count_by (is_of_session session) (with_channels session left (channel ∷ channels) (staying session left pairs))
      ≡ count_by (is_of_session session) (with_channels session left channels (staying session left pairs)) + cond (not (is_among left channel) && not (list_any (is_pair session channel) pairs) && not (is_among channels channel)) 1 0
  own_step channel channels pairs rise = split (is_among left channel) refl
    where
      itself : is_of_session session (record { session = session; channel = channel }) ≡ true
      itself = grind (arith, nat_tests)

      count : (l m : Bool) → list_any (is_pair session channel) (with_channels session left channels (staying session left pairs)) ≡ (l || (true && m))
          → cond {A = ℕ} (list_any (is_pair session channel) (with_channels session left channels (staying session left pairs))) 0 1 ≡ cond (true && not l && not m) 1 0
      count true m e = rw e refl
      count false true e = rw e refl
      count false false e = rw e refl

      split : (b : Bool) → is_among left channel ≡ b
          → count_by (is_of_session session) (with_channels session left (channel ∷ channels) (staying session left pairs))
          ≡ count_by (is_of_session session) (with_channels session left channels (staying session left pairs)) + cond (not (is_among left channel) && not (list_any (is_pair session channel) pairs) && not (is_among channels channel)) 1 0
      split true e = rw e (omega arith)
      split false e =
          let put = count-put (is_of_session session) (record { session = session; channel = channel }) (with_channels session left channels (staying session left pairs)) itself (Rises-with_channels channels (staying session left pairs) (Rises-filter pair_below (λ pair. not (is_of_session session pair && is_among left pair.channel)) pairs rise)) in
          let listed = rw (e, listed-staying channel pairs e) at (listed-with_channels channel channels (staying session left pairs)) in
          rw e (put ∙ ap (λ (n : ℕ). count_by (is_of_session session) (with_channels session left channels (staying session left pairs)) + n) (count (list_any (is_pair session channel) pairs) (is_among channels channel) listed))

  -- the more channels, the more pairs
  pub own_grows : (channels : List ChannelId) (pairs : List ListenerPair) (i : ℕ) → Rises pair_below pairs
      → count_by (is_of_session session) (with_channels session left (drop i channels) (staying session left pairs)) ≤ count_by (is_of_session session) (with_channels session left channels (staying session left pairs))
  own_grows [] pairs zero rise = omega arith
  own_grows [] pairs (suc i) rise = omega arith
  own_grows (channel ∷ channels) pairs zero rise = omega arith
  own_grows (channel ∷ channels) pairs (suc i) rise = omega (arith, own_step channel channels pairs rise, own_grows channels pairs i rise)

  -- the same as code goes from the last channel on
  pub one_more_own : (channels later : List ChannelId) (pairs : List ListenerPair) (rest : ℕ) (d : ChannelId) (one : Bool) (count now : ℕ) → Rises pair_below pairs → 0 < rest → rest - 1 < length channels
      → later ≡ take (length channels - rest) (drop rest channels)
      → one ≡ (not (is_among left (get_or channels (rest - 1) d)) && not (list_any (is_pair session (get_or channels (rest - 1) d)) pairs) && not (is_among later (get_or channels (rest - 1) d)))
      → now ≡ count + cond one 1 0
      → count ≡ count_by (is_of_session session) (with_channels session left (drop rest channels) (staying session left pairs))
      → now ≡ count_by (is_of_session session) (with_channels session left (drop (rest - 1) channels) (staying session left pairs))
  one_more_own channels later pairs rest d one count now rise some within later_is one_is now_is count_is =
      let next : suc (rest - 1) ≡ rest = omega arith in
      let front : drop (rest - 1) channels ≡ get_or channels (rest - 1) d ∷ drop rest channels = drop-cons channels (rest - 1) d within ∙ ap (λ (k : ℕ). get_or channels (rest - 1) d ∷ drop k channels) next in
      let behind : later ≡ drop rest channels = later_is ∙ take_rest channels rest in
      let tested = rw behind at one_is in
      now_is ∙ ap (λ (b : Bool). count + cond b 1 0) tested
      ∙ ap (λ (n : ℕ). n + cond (not (is_among left (get_or channels (rest - 1) d)) && not (list_any (is_pair session (get_or channels (rest - 1) d)) pairs) && not (is_among (drop rest channels) (get_or channels (rest - 1) d))) 1 0) count_is
      ∙ sym (own_step (get_or channels (rest - 1) d) (drop rest channels) pairs rise)
      ∙ sym (ap (λ (cs : List ChannelId). count_by (is_of_session session) (with_channels session left cs (staying session left pairs))) front)

  -- ---- channels that are crowded

  any_same : (f g : ChannelId → Bool) (channels : List ChannelId) → ((channel : ChannelId) → is_among channels channel ≡ true → f channel ≡ g channel) → list_any f channels ≡ list_any g channels
  any_same f g [] same = refl
  any_same f g (channel ∷ channels) same =
      rw (same channel (first channel channels), any_same f g channels (λ other there. same other (later channel other channels there))) refl
    where
      first : (c : ChannelId) (cs : List ChannelId) → is_among (c ∷ cs) c ≡ true
      first c cs = grind (arith, nat_tests)

      later : (c other : ChannelId) (cs : List ChannelId) → is_among cs other ≡ true → is_among (c ∷ cs) other ≡ true
      later c other cs there = rw there (or_true (eqb c.0 other.0))
        where
          or_true : (b : Bool) → (b || true) ≡ true
          or_true true = refl
          or_true false = refl

  pub crowded_same : (channels : List ChannelId) (pairs : List ListenerPair) → Rises pair_below pairs → ((channel : ChannelId) → count_by (is_of_channel channel) pairs ≤ CHANNEL_LISTENERS)
      → list_any (λ channel. not (is_among left channel) && not (list_any (is_pair session channel) pairs) && leb CHANNEL_LISTENERS (count_by (is_of_channel channel) pairs)) channels
      ≡ list_any (is_crowded (with_channels session left channels (staying session left pairs))) channels
  crowded_same channels pairs rise few =
      any_same _ _ channels (λ channel there. split channel there (is_among left channel) (list_any (is_pair session channel) pairs) refl refl)
    where
      counted : (channel : ChannelId) → count_by (is_of_channel channel) (with_channels session left channels (staying session left pairs)) ≡ count_by (is_of_channel channel) (staying session left pairs) + cond (not (is_among left channel) && is_among channels channel && not (list_any (is_pair session channel) (staying session left pairs))) 1 0
      counted channel = count_of_channel channel channels (staying session left pairs) (Rises-filter pair_below (λ pair. not (is_of_session session pair && is_among left pair.channel)) pairs rise)

      fewer : (channel : ChannelId) → count_by (is_of_channel channel) (staying session left pairs) ≤ count_by (is_of_channel channel) pairs
      fewer channel = count_by-filter-le (is_of_channel channel) (λ pair. not (is_of_session session pair && is_among left pair.channel)) pairs

      split : (channel : ChannelId) → is_among channels channel ≡ true → (b l : Bool) → is_among left channel ≡ b → list_any (is_pair session channel) pairs ≡ l
          → (not (is_among left channel) && not (list_any (is_pair session channel) pairs) && leb CHANNEL_LISTENERS (count_by (is_of_channel channel) pairs))
          ≡ ltb CHANNEL_LISTENERS (count_by (is_of_channel channel) (with_channels session left channels (staying session left pairs)))
      split channel there true l e f =
          let after = rw e at (counted channel) in
          rw e (sym (le-ltb _ _ (omega (arith, after, fewer channel, few channel))))
      split channel there false true e f =
          let after = rw (e, there, listed-staying channel pairs e, f) at (counted channel) in
          rw (e, f) (sym (le-ltb _ _ (omega (arith, after, count-staying_channel channel pairs e, few channel))))
      split channel there false false e f =
          let after = rw (e, there, listed-staying channel pairs e, f) at (counted channel) in
          rw (e, f) (one_above _ _ (omega (arith, after, count-staying_channel channel pairs e)))
        where
          one_above : (n m : ℕ) → m ≡ n + 1 → leb CHANNEL_LISTENERS n ≡ ltb CHANNEL_LISTENERS m
          one_above n m is = grind (arith, nat_tests)

-- ---- the whole roster

-- no channel is crowded that is among those that are not
not_crowded : (pairs : List ListenerPair) (channels : List ChannelId) (channel : ChannelId) → list_any (is_crowded pairs) channels ≡ false → is_among channels channel ≡ true → count_by (is_of_channel channel) pairs ≤ CHANNEL_LISTENERS
not_crowded pairs [] channel none there = absurd (false≢true there)
not_crowded pairs (other ∷ channels) channel none there = split (eqb other.0 channel.0) refl (not_crowded pairs channels channel (or_parts _ _ none).1)
  where
    split : (b : Bool) → eqb other.0 channel.0 ≡ b → (is_among channels channel ≡ true → count_by (is_of_channel channel) pairs ≤ CHANNEL_LISTENERS) → count_by (is_of_channel channel) pairs ≤ CHANNEL_LISTENERS
    split true e rest =
        let few : count_by (is_of_channel other) pairs ≤ CHANNEL_LISTENERS = ltb-false _ _ (or_parts _ _ none).0 in
        omega (arith, few, ap (λ (n : ℕ). count_by (λ (pair : ListenerPair). eqb pair.channel.0 n) pairs) (eqb-true _ _ e))
    split false e rest = rest (rw e at there)

pub IsProper-edited : (state : RosterState) (session : SessionId) (change : UserEdit) → IsProper state → list_any (has_number session) state.sessions ≡ true
    → list_any (is_crowded (pairs_after session change state.listeners)) change.listen ≡ false
    → count_by (is_of_session session) (pairs_after session change state.listeners) ≤ LISTENED_CHANNELS
    → IsProper (edited state session change)
IsProper-edited state session change proper here uncrowded few =
    let left : List ChannelId = change.unlisten in
    let stay : ListenerPair → Bool = λ pair. not (is_of_session session pair && is_among left pair.channel) in
    let changed = IsProper-changed state session (changed_user change) (changed_user_keeps change) proper in
    let others : (s : SessionId) → eqb session.0 s.0 ≡ false → count_by (is_of_session s) (pairs_after session change state.listeners) ≤ count_by (is_of_session s) state.listeners =
    λ s apart. omega (arith, count_of_other session left s apart change.listen (staying session left state.listeners), count_by-filter-le (is_of_session s) stay state.listeners) in
    record {
      limit_fits = proper.limit_fits;
      deaf_are_mute = changed.deaf_are_mute;
      slots = changed.slots;
      numbers = changed.numbers;
      names = changed.names;
      given = changed.given;
      last_fits = changed.last_fits;
      listeners_here = λ s none. omega (arith, others s (apart_from state.sessions session s here (sym (same s) ∙ none)), proper.listeners_here s (sym (same s) ∙ none));
      few_listeners = λ channel. elim (cases_Bool (is_among change.listen channel)) [
        | inl among ↦ not_crowded (pairs_after session change state.listeners) change.listen channel uncrowded among
        | inr other ↦ omega (arith, unlistened channel other, count_by-filter-le (is_of_channel channel) stay state.listeners, proper.few_listeners channel)
      ];
      few_channels = λ s. elim (cases_Bool (eqb session.0 s.0)) [
        | inl is ↦ omega (arith, few, ap (λ (n : ℕ). count_by (λ (pair : ListenerPair). eqb pair.session.0 n) (pairs_after session change state.listeners)) (eqb-true _ _ is))
        | inr apart ↦ omega (arith, others s apart, proper.few_channels s)
      ];
      listeners_rise = Rises-with_channels session left change.listen (staying session left state.listeners) (Rises-filter pair_below stay state.listeners proper.listeners_rise);
      targets_here = changed.targets_here;
      targets_sound = changed.targets_sound;
      targets_rise = changed.targets_rise;
    }
  where
    same : (s : SessionId) → count_by (has_number s) (map (λ user. cond (has_number session user) (changed_user change user) user) state.sessions) ≡ count_by (has_number s) state.sessions
    same s = count_by-map (has_number s) (λ user. cond (has_number session user) (changed_user change user) user) (λ user. either user (has_number session user)) state.sessions
      where
        either : (user : User) (b : Bool) → has_number s (cond b (changed_user change user) user) ≡ has_number s user
        either user true = refl
        either user false = refl

    unlistened : (channel : ChannelId) → is_among change.listen channel ≡ false → count_by (is_of_channel channel) (pairs_after session change state.listeners) ≡ count_by (is_of_channel channel) (staying session change.unlisten state.listeners)
    unlistened channel other =
        let counted = count_of_channel session change.unlisten channel change.listen (staying session change.unlisten state.listeners) (Rises-filter pair_below (λ pair. not (is_of_session session pair && is_among change.unlisten pair.channel)) state.listeners proper.listeners_rise) in
        omega (arith, rw other at counted, nothing (is_among change.unlisten channel) (list_any (is_pair session channel) (staying session change.unlisten state.listeners)))
      where
        nothing : (a b : Bool) → cond {A = ℕ} (not a && false && not b) 1 0 ≡ 0
        nothing true b = refl
        nothing false b = refl

-- where no cause refuses it
pub IsProper-edited_allowed : (state : RosterState) (session : SessionId) (change : UserEdit) → IsProper state → list_any (has_number session) state.sessions ≡ true
    → edit_fault state session change ≡ None → IsProper (edited state session change)
IsProper-edited_allowed state session change proper here allowed = split _ _ refl refl
  where
    split : (crowded many : Bool) → list_any (is_crowded (pairs_after session change state.listeners)) change.listen ≡ crowded → ltb LISTENED_CHANNELS (count_by (is_of_session session) (pairs_after session change state.listeners)) ≡ many → IsProper (edited state session change)
    split true many e f = let refused : edit_fault state session change ≡ Some ListenerLimit = rw (here, e) refl in absurd (cc)
    split false true e f = let refused : edit_fault state session change ≡ Some UserListenerLimit = rw (here, e, f) refl in absurd (cc)
    split false false e f = IsProper-edited state session change proper here e (ltb-false _ _ f)

-- ---- what a call that changes a session answers, as code finds the row

module _ (state now : RosterState) (session : SessionId) (change : UserEdit) (seen : List User) (same : state ≡ now) (e : seen ≡ state.sessions) where
  pub edit_absent : None ≡ position (has_number session) seen → edit_fault now session change ≡ Some NoSession
  edit_absent none = rw (← same) (rw (absent_from (has_number session) state.sessions (rw e at none)) refl)

  module _ (i : ℕ) (spot : Some i ≡ position (has_number session) seen) (allowed : edit_fault now session change ≡ None) (proper : IsProper state) (user : User) (is : user ≡ get_or state.sessions i user) (pairs : List ListenerPair) (pairs_is : pairs ≡ pairs_after session change state.listeners) where
    edited_here : record state { sessions = set state.sessions i (changed_user change user); listeners = pairs } ≡ edited state session change
    edited_here =
        ap (λ (users : List User). record state { sessions = users; listeners = pairs }) (set-changed state session (changed_user change) seen i user proper e spot is)
        ∙ ap (λ (ps : List ListenerPair). record (changed state session (changed_user change)) { listeners = ps }) pairs_is

    pub edited_now : record state { sessions = set state.sessions i (changed_user change user); listeners = pairs } ≡ edited now session change
    edited_now = edited_here ∙ ap (λ (s : RosterState). edited s session change) same

    pub IsProper-edited_here : IsProper (record state { sessions = set state.sessions i (changed_user change user); listeners = pairs })
    IsProper-edited_here =
        subst (λ (s : RosterState). IsProper s) (sym edited_here)
        (IsProper-edited_allowed state session change proper ((present_from (has_number session) state.sessions i (rw e at spot)).there)
        (subst (λ (s : RosterState). edit_fault s session change ≡ None) (sym same) allowed))
