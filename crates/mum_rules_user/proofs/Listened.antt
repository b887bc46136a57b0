-- To what a session listens: what it leaves makes no listener more.
use Rattle.mum_rules_user.proofs.Common.{◌≡◌, ℕ, ◌≤◌, ◌&&◌, ◌||◌, Bool, true, false, not, cond, eqb, ltb, List, [], ◌∷◌, Option, Some, None, refl, sym, ap, ◌∙◌, arith, count_by, filter, list_any, option_map, and_parts, eqb-true, or_from, or_parts, nat_tests, is_among, ChannelId, SessionId, UserFault, NoSession, ListenerLimit, UserListenerLimit, ListenerPair, CHANNEL_LISTENERS, LISTENED_CHANNELS, UserEdit, edit_fault, is_crowded, pairs_after, staying, with_channels, pair_below, Rises, RosterState, has_number, is_of_channel, is_of_session, is_pair, count_by-filter-le, Rises-with_channels, listed-with_channels, Rises-filter, count-put, count-put_other, ChannelLimit, UserLimit, case_of, first_standing, listening_type_of, limits_of_listening, pairs_with}

-- the session does not leave the pair's channel
abbrev stays : SessionId → List ChannelId → ListenerPair → Bool
stays session left pair = not (is_of_session session pair && is_among left pair.channel)

abbrev new_pair : SessionId → ChannelId → ListenerPair
new_pair session channel = record { session = session; channel = channel }

filter_all : {X : Type 0} (p : X → Bool) (xs : List X) → ((x : X) → p x ≡ true) → filter p xs ≡ xs
filter_all p [] all = refl
filter_all p (x ∷ xs) all = ap (λ (b : Bool). cond b (x ∷ filter p xs) (filter p xs)) (all x) ∙ ap (λ ys. x ∷ ys) (filter_all p xs all)

stays_where_none : (session : SessionId) (pair : ListenerPair) → stays session [] pair ≡ true
stays_where_none session pair = off (is_of_session session pair)
  where
    off : (b : Bool) → not (b && false) ≡ true
    off true = refl
    off false = refl

-- where none is left, all stay
pub none_left : (roster : RosterState) (session : SessionId) (change : UserEdit) (listen : List ChannelId) → change.listen ≡ listen → change.unlisten ≡ [] → pairs_after session change roster.listeners ≡ pairs_with roster session listen
none_left roster session change listen same none =
    ap (λ (ls : List ChannelId). with_channels session change.unlisten ls (staying session change.unlisten roster.listeners)) same
    ∙ ap (λ (left : List ChannelId). with_channels session left listen (staying session left roster.listeners)) none
    ∙ ap (with_channels session [] listen) (filter_all (stays session []) roster.listeners (stays_where_none session))

-- ---- leaving makes no more

-- a pair of a channel that is not left stays
kept_pair : (session : SessionId) (left : List ChannelId) (channel : ChannelId) (pair : ListenerPair) → is_among left channel ≡ false → is_pair session channel pair ≡ true → stays session left pair ≡ true
kept_pair session left channel pair off same =
    let (of_session, of_channel) = and_parts (eqb pair.session.0 session.0) (eqb pair.channel.0 channel.0) same in
    let listed : is_among left pair.channel ≡ false = ap (λ (n : ℕ). list_any (λ (one : ChannelId). eqb one.0 n) left) (eqb-true pair.channel.0 channel.0 of_channel) ∙ off in
    rw (of_session, listed) refl

-- so the session listens to it where it did
stays_listed : (session : SessionId) (left : List ChannelId) (channel : ChannelId) (pairs : List ListenerPair) → is_among left channel ≡ false → list_any (is_pair session channel) (staying session left pairs) ≡ list_any (is_pair session channel) pairs
stays_listed session left channel [] off = refl
stays_listed session left channel (pair ∷ pairs) off = split (stays session left pair) (is_pair session channel pair) refl refl (stays_listed session left channel pairs off)
  where
    split : (k s : Bool) → stays session left pair ≡ k → is_pair session channel pair ≡ s → list_any (is_pair session channel) (staying session left pairs) ≡ list_any (is_pair session channel) pairs → list_any (is_pair session channel) (staying session left (pair ∷ pairs)) ≡ list_any (is_pair session channel) (pair ∷ pairs)
    split true s e f rest = rw e (ap (λ (b : Bool). is_pair session channel pair || b) rest)
    split false true e f rest = let kept = kept_pair session left channel pair off f in cc
    split false false e f rest = rw (e, f) rest

module _ (session : SessionId) (left : List ChannelId) (pairs : List ListenerPair) (rise : Rises pair_below pairs) where
  rise_left : Rises pair_below (staying session left pairs)
  rise_left = Rises-filter pair_below (stays session left) pairs rise

  -- what is listened to once all was added, and none is left before or some is
  listed_alike : (channel : ChannelId) (channels : List ChannelId) → is_among left channel ≡ false → list_any (is_pair session channel) (with_channels session left channels (staying session left pairs)) ≡ list_any (is_pair session channel) (with_channels session [] channels pairs)
  listed_alike channel channels off =
      listed-with_channels session left channel channels (staying session left pairs)
      ∙ ap (λ (b : Bool). b || (not (is_among left channel) && is_among channels channel)) (stays_listed session left channel pairs off)
      ∙ ap (λ (b : Bool). list_any (is_pair session channel) pairs || (not b && is_among channels channel)) off
      ∙ sym (listed-with_channels session [] channel channels pairs)

  -- no test is passed by more pairs
  no_more : (p : ListenerPair → Bool) (channels : List ChannelId) → count_by p (with_channels session left channels (staying session left pairs)) ≤ count_by p (with_channels session [] channels pairs)
  no_more p [] = count_by-filter-le p (stays session left) pairs
  no_more p (channel ∷ channels) = split (is_among left channel) (p (new_pair session channel)) refl refl (no_more p channels)
    where
      fewer : List ListenerPair
      fewer = with_channels session left channels (staying session left pairs)

      more : List ListenerPair
      more = with_channels session [] channels pairs

      split : (b s : Bool) → is_among left channel ≡ b → p (new_pair session channel) ≡ s
          → count_by p (with_channels session left channels (staying session left pairs)) ≤ count_by p (with_channels session [] channels pairs)
          → count_by p (with_channels session left (channel ∷ channels) (staying session left pairs)) ≤ count_by p (with_channels session [] (channel ∷ channels) pairs)
      split true true e f le = let put = count-put p (new_pair session channel) more f (Rises-with_channels session [] channels pairs rise) in rw e (omega arith)
      split true false e f le = let put = count-put_other p (new_pair session channel) more f in rw e (omega arith)
      split false false e f le =
          let put = count-put_other p (new_pair session channel) more f in
          let put_left = count-put_other p (new_pair session channel) fewer f in
          rw e (omega arith)
      split false true e f le =
          let put = count-put p (new_pair session channel) more f (Rises-with_channels session [] channels pairs rise) in
          let put_left = count-put p (new_pair session channel) fewer f (Rises-with_channels session left channels (staying session left pairs) rise_left) in
          let same : cond {A = ℕ} (list_any (is_pair session channel) fewer) 0 1 ≡ cond (list_any (is_pair session channel) more) 0 1 = ap (λ (b : Bool). cond {A = ℕ} b 0 1) (listed_alike channel channels e) in
          rw e (omega arith)

-- ---- a change that the roster takes

few_left : (limit few many : ℕ) → few ≤ many → ltb limit many ≡ false → ltb limit few ≡ false
few_left limit few many le off = grind (arith, nat_tests)

pub listening_taken : (roster : RosterState) (session : SessionId) (change : UserEdit) → Rises pair_below roster.listeners → list_any (has_number session) roster.sessions ≡ true → list_any (is_crowded (pairs_with roster session change.listen)) change.listen ≡ false → ltb LISTENED_CHANNELS (count_by (is_of_session session) (pairs_with roster session change.listen)) ≡ false → edit_fault roster session change ≡ None
listening_taken roster session change rise here few not_many =
    let pairs = pairs_after session change roster.listeners in
    let crowded : list_any (is_crowded pairs) change.listen ≡ false = none_crowded change.listen few in
    let many : ltb LISTENED_CHANNELS (count_by (is_of_session session) pairs) ≡ false = few_left LISTENED_CHANNELS (count_by (is_of_session session) pairs) _ (le (is_of_session session)) not_many in
    let last : Option UserFault = cond (ltb LISTENED_CHANNELS (count_by (is_of_session session) pairs)) (Some UserListenerLimit) None in
    let next : Option UserFault = cond (list_any (is_crowded pairs) change.listen) (Some ListenerLimit) last in
    ap (λ (b : Bool). cond (not b) (Some NoSession) next) here
    ∙ ap (λ (b : Bool). cond b (Some ListenerLimit) last) crowded
    ∙ ap (λ (b : Bool). cond b (Some UserListenerLimit) None) many
  where
    le : (p : ListenerPair → Bool) → count_by p (pairs_after session change roster.listeners) ≤ count_by p (pairs_with roster session change.listen)
    le p = no_more session change.unlisten roster.listeners rise p change.listen

    none_crowded : (channels : List ChannelId) → list_any (is_crowded (pairs_with roster session change.listen)) channels ≡ false → list_any (is_crowded (pairs_after session change roster.listeners)) channels ≡ false
    none_crowded [] none = refl
    none_crowded (channel ∷ channels) none =
        let all = pairs_with roster session change.listen in
        let pairs = pairs_after session change roster.listeners in
        let (first, rest) = or_parts (is_crowded all channel) (list_any (is_crowded all) channels) none in
        or_from (is_crowded pairs channel) (list_any (is_crowded pairs) channels)
        (few_left CHANNEL_LISTENERS (count_by (is_of_channel channel) pairs) (count_by (is_of_channel channel) all) (le (is_of_channel channel)) first)
        (none_crowded channels rest)

-- ---- the limits of listening, by what the roster says

either : (crowded many : Bool) → option_map listening_type_of (cond crowded (Some ListenerLimit) (cond many (Some UserListenerLimit) None)) ≡ first_standing (case_of ChannelLimit crowded ∷ case_of UserLimit many ∷ [])
either true many = refl
either false true = refl
either false false = refl

pub listening_by_cause : (roster : RosterState) (session : SessionId) (change : UserEdit) (listen : List ChannelId) → change.listen ≡ listen → change.unlisten ≡ [] → list_any (has_number session) roster.sessions ≡ true → option_map listening_type_of (edit_fault roster session change) ≡ first_standing (limits_of_listening roster session listen)
listening_by_cause roster session change listen same none here =
    let pairs = pairs_after session change roster.listeners in
    let last : List ListenerPair → Option UserFault = λ ps. cond (ltb LISTENED_CHANNELS (count_by (is_of_session session) ps)) (Some UserListenerLimit) None in
    let next : List ListenerPair → List ChannelId → Option UserFault = λ ps ls. cond (list_any (is_crowded ps) ls) (Some ListenerLimit) (last ps) in
    ap (λ (b : Bool). option_map listening_type_of (cond (not b) (Some NoSession) (next pairs change.listen))) here
    ∙ ap (λ (ls : List ChannelId). option_map listening_type_of (next pairs ls)) same
    ∙ ap (λ (ps : List ListenerPair). option_map listening_type_of (next ps listen)) (none_left roster session change listen same none)
    ∙ either (list_any (is_crowded (pairs_with roster session listen)) listen) (ltb LISTENED_CHANNELS (count_by (is_of_session session) (pairs_with roster session listen)))
