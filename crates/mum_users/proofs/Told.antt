-- To what sessions listen after a change.
use Rattle.mum_users.proofs.Common.{◌≡◌, Bool, true, false, not, eqb, ◌&&◌, ◌||◌, List, [], ◌∷◌, refl, sym, ap, ◌∙◌, arith, count_by, filter, list_any, ne_eqb, nat_tests, ChannelId, SessionId, ListenerPair, is_among, staying, with_channels, ListensAsTold, OthersListenAsBefore, is_of_session, is_pair}
use Rattle.mum_users.proofs.{Counts.count_by-filter_none, Counts.count_by-filter_others, Counts.list_any-count_by, Edits.among_same, Edits.listed-put, Edits.listed-staying, Edits.listed-with_channels}

module _ (session : SessionId) (left : List ChannelId) where
  gone : (channel : ChannelId) (pair : ListenerPair) → is_among left channel ≡ true → not (is_of_session session pair && is_among left pair.channel) ≡ true → is_pair session channel pair ≡ false
  gone channel pair among kept = split (is_of_session session pair) (eqb pair.channel.0 channel.0) refl refl
    where
      split : (b s : Bool) → is_of_session session pair ≡ b → eqb pair.channel.0 channel.0 ≡ s → is_pair session channel pair ≡ false
      split true true e f =
          let out : is_among left pair.channel ≡ true = among_same left pair.channel channel f ∙ among in
          let stays : false ≡ true = rw (e, out) at kept in
          cc
      split true false e f = rw (e, f) refl
      split false s e f = rw e refl

  pub listed-left : (channel : ChannelId) (pairs : List ListenerPair) → is_among left channel ≡ true → list_any (is_pair session channel) (staying session left pairs) ≡ false
  listed-left channel pairs among =
      let stay : ListenerPair → Bool = λ pair. not (is_of_session session pair && is_among left pair.channel) in
      let none : count_by (is_pair session channel) (filter stay pairs) ≡ 0 = count_by-filter_none (is_pair session channel) stay (λ pair kept. gone channel pair among kept) pairs in
      list_any-count_by (is_pair session channel) (filter stay pairs) ∙ rw none refl

pub listens_as_told_lem : ListensAsTold
listens_as_told_lem state session change channel =
    listed-with_channels session change.unlisten channel change.listen (staying session change.unlisten state.listeners) ∙ split (is_among change.unlisten channel) refl
  where
    kept : (a m : Bool) → (a || (true && m)) ≡ ((a || m) && true)
    kept true m = refl
    kept false true = refl
    kept false false = refl

    none : (a m : Bool) → (false || (false && m)) ≡ ((a || m) && false)
    none true m = refl
    none false true = refl
    none false false = refl

    split : (b : Bool) → is_among change.unlisten channel ≡ b
        → (list_any (is_pair session channel) (staying session change.unlisten state.listeners) || (not (is_among change.unlisten channel) && is_among change.listen channel))
        ≡ ((list_any (is_pair session channel) state.listeners || is_among change.listen channel) && not (is_among change.unlisten channel))
    split true e = rw (listed-left session change.unlisten channel state.listeners e, e) (none (list_any (is_pair session channel) state.listeners) (is_among change.listen channel))
    split false e = rw (listed-staying session change.unlisten channel state.listeners e, e) (kept (list_any (is_pair session channel) state.listeners) (is_among change.listen channel))

module _ (session other : SessionId) (apart : eqb session.0 other.0 ≡ false) (left : List ChannelId) (channel : ChannelId) where
  no_more : (b : Bool) → (b || false) ≡ b
  no_more true = refl
  no_more false = refl

  others-with_channels : (channels : List ChannelId) (pairs : List ListenerPair) → list_any (is_pair other channel) (with_channels session left channels pairs) ≡ list_any (is_pair other channel) pairs
  others-with_channels [] pairs = refl
  others-with_channels (new ∷ channels) pairs = split (is_among left new) refl (others-with_channels channels pairs)
    where
      differs : is_pair other channel (record { session = session; channel = new }) ≡ false
      differs = rw apart refl

      split : (b : Bool) → is_among left new ≡ b → list_any (is_pair other channel) (with_channels session left channels pairs) ≡ list_any (is_pair other channel) pairs → list_any (is_pair other channel) (with_channels session left (new ∷ channels) pairs) ≡ list_any (is_pair other channel) pairs
      split true e rest = rw e rest
      split false e rest =
          rw e (
          listed-put other channel (record { session = session; channel = new }) (with_channels session left channels pairs)
          ∙ ap (λ (b : Bool). list_any (is_pair other channel) (with_channels session left channels pairs) || b) differs
          ∙ no_more (list_any (is_pair other channel) (with_channels session left channels pairs))
          ∙ rest)

  out_is_own : (pair : ListenerPair) → not (is_of_session session pair && is_among left pair.channel) ≡ false → is_pair other channel pair ≡ false
  out_is_own pair out = split (is_of_session session pair) refl
    where
      differ : is_of_session session pair ≡ true → is_pair other channel pair ≡ false
      differ own = grind (arith, nat_tests)

      split : (b : Bool) → is_of_session session pair ≡ b → is_pair other channel pair ≡ false
      split true e = differ e
      split false e = let stays : true ≡ false = rw e at out in cc

  pub others-staying : (pairs : List ListenerPair) → list_any (is_pair other channel) (staying session left pairs) ≡ list_any (is_pair other channel) pairs
  others-staying pairs =
      let stay : ListenerPair → Bool = λ pair. not (is_of_session session pair && is_among left pair.channel) in
      let same : count_by (is_pair other channel) (filter stay pairs) ≡ count_by (is_pair other channel) pairs = count_by-filter_others (is_pair other channel) stay out_is_own pairs in
      list_any-count_by (is_pair other channel) (filter stay pairs) ∙ rw same refl ∙ sym (list_any-count_by (is_pair other channel) pairs)

pub others_listen_as_before_lem : OthersListenAsBefore
others_listen_as_before_lem state session change other channel differ =
    let apart : eqb session.0 other.0 ≡ false = ne_eqb _ _ differ in
    others-with_channels session other apart change.unlisten channel change.listen (staying session change.unlisten state.listeners)
    ∙ others-staying session other apart change.unlisten channel state.listeners
