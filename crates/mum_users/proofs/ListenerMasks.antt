-- The masks of listeners, where one session listens to more channels, to fewer, or goes.
use Rattle.mum_users.proofs.Common.{◌≡◌, ℕ, ◌/◌, ◌%◌, ◌≤◌, Bool, true, false, ◌&&◌, ◌||◌, not, cond, eqb, List, [], ◌∷◌, Some, refl, sym, ap, ◌∙◌, arith, bit_at, count_by, filter, find, insert, list_any, eqb-true, bit_at-zero, ChannelId, SessionId, MaskRow, ListenerPair, User, AreMasks, is_mask, is_mask_of, mask_at, mask_below, with_pairs, with_slot, without_pairs, without_slot, SlotsRise, has_number, is_of_channel, is_of_session, is_pair}
use Rattle.mum_users.proofs.{Counts.count_by-filter-le, Orders.Rises-filter, MaskSets.AreMasks-with_slot, MaskSets.AreMasks-without_slot, Members.AreMasks-same, Members.AreMasks-with_pairs, Members.AreMasks-without_pairs, Members.among, Members.among_others, Members.any-insert, Members.any_split, Members.none_here, Members.others}

-- the session of a user listens to the channel, as these pairs say
abbrev pub listens_in : List ListenerPair → ChannelId → User → Bool
listens_in pairs channel user = list_any (is_pair user.session channel) pairs

own_pairs : (session : SessionId) (channel : ChannelId) (pairs : List ListenerPair) → list_any (is_pair session channel) pairs ≡ list_any (is_of_channel channel) (filter (is_of_session session) pairs)
own_pairs session channel [] = refl
own_pairs session channel (pair ∷ pairs) = split (is_of_session session pair) refl (own_pairs session channel pairs)
  where
    split : (b : Bool) → is_of_session session pair ≡ b → list_any (is_pair session channel) pairs ≡ list_any (is_of_channel channel) (filter (is_of_session session) pairs) → list_any (is_pair session channel) (pair ∷ pairs) ≡ list_any (is_of_channel channel) (filter (is_of_session session) (pair ∷ pairs))
    split true e rest = rw (e, rest) refl
    split false e rest = rw (e, rest) refl

-- the others listen to what they did
pub among_same : (q r : ChannelId → User → Bool) (session : SessionId) → ((c : ChannelId) (user : User) → has_number session user ≡ false → r c user ≡ q c user) → (users : List User) (c : ChannelId) (s : ℕ) → among r (others session users) c s ≡ among q (others session users) c s
among_same q r session same [] c s = refl
among_same q r session same (user ∷ users) c s = split (has_number session user) refl (among_same q r session same users c s)
  where
    split : (b : Bool) → has_number session user ≡ b → among r (others session users) c s ≡ among q (others session users) c s → among r (others session (user ∷ users)) c s ≡ among q (others session (user ∷ users)) c s
    split true e rest = rw e rest
    split false e rest = rw (e, same c user e, rest) refl

-- a session that joins listens to nothing
pub AreMasks-join_listeners : (pairs : List ListenerPair) (users : List User) (place : ℕ) (new : User) (rows : List MaskRow) → ((c : ChannelId) → listens_in pairs c new ≡ false) → AreMasks (among (listens_in pairs) users) rows → AreMasks (among (listens_in pairs) (insert users place new)) rows
AreMasks-join_listeners pairs users place new rows none masks =
    AreMasks-same (among (listens_in pairs) users) _ rows masks
    (λ c s. any-insert (λ user. eqb user.slot.0 s && listens_in pairs c user) users place new
    ∙ ap (λ (b : Bool). eqb new.slot.0 s && b || among (listens_in pairs) users c s) (none c)
    ∙ never (eqb new.slot.0 s) (among (listens_in pairs) users c s))
  where
    never : (a b : Bool) → (a && false || b) ≡ b
    never true b = refl
    never false b = refl

module _ (limit : ℕ) (session : SessionId) (users : List User) (row : User) (rise : SlotsRise limit 0 users) (one : count_by (has_number session) users ≤ 1) (found : find (has_number session) users ≡ Some row) (own : row.session.0 ≡ session.0) (pairs : List ListenerPair) (rows : List MaskRow) (masks : AreMasks (among (listens_in pairs) users) rows) where
  own_row : (all : List ListenerPair) (c : ChannelId) → listens_in all c row ≡ list_any (is_of_channel c) (filter (is_of_session session) all)
  own_row all c = ap (λ (n : ℕ). list_any (λ pair. eqb pair.session.0 n && eqb pair.channel.0 c.0) all) own ∙ own_pairs session c all

  split_at : (all : List ListenerPair) (c : ChannelId) (s : ℕ) → among (listens_in all) users c s ≡ (eqb row.slot.0 s && listens_in all c row || among (listens_in all) (others session users) c s)
  split_at all c s = any_split (λ user. eqb user.slot.0 s && listens_in all c user) session users row one found

  -- without what the session listens to
  pub AreMasks-unlistened : AreMasks (among (listens_in pairs) (others session users)) (without_pairs row.slot.0 (filter (is_of_session session) pairs) rows)
  AreMasks-unlistened =
      AreMasks-same _ _ _ (AreMasks-without_pairs (among (listens_in pairs) users) row.slot.0 (filter (is_of_session session) pairs) rows masks)
      (λ c s. among_others limit (listens_in pairs) session users row rise one found c s
      ∙ ap (λ (b : Bool). not (b && eqb row.slot.0 s) && among (listens_in pairs) users c s) (own_row pairs c))

  module _ (after : List ListenerPair) (same : (c : ChannelId) (user : User) → has_number session user ≡ false → listens_in after c user ≡ listens_in pairs c user) where
    -- what it listens to now takes the place of what it did
    pub AreMasks-relistened : AreMasks (among (listens_in after) users) (with_pairs row.slot.0 (filter (is_of_session session) after) (without_pairs row.slot.0 (filter (is_of_session session) pairs) rows))
    AreMasks-relistened =
        AreMasks-same _ _ _ (AreMasks-with_pairs (among (listens_in pairs) (others session users)) row.slot.0 (filter (is_of_session session) after) _ AreMasks-unlistened)
        (λ c s. split_at after c s
        ∙ ap (λ (b : Bool). eqb row.slot.0 s && listens_in after c row || b) (among_same (listens_in pairs) (listens_in after) session same users c s)
        ∙ ap (λ (b : Bool). eqb row.slot.0 s && b || among (listens_in pairs) (others session users) c s) (own_row after c)
        ∙ ap (λ (b : Bool). b || among (listens_in pairs) (others session users) c s) (turned (eqb row.slot.0 s) (list_any (is_of_channel c) (filter (is_of_session session) after))))
      where
        turned : (a b : Bool) → (a && b) ≡ (b && a)
        turned true true = refl
        turned true false = refl
        turned false true = refl
        turned false false = refl

    -- one channel more
    pub AreMasks-listening : (channel : ChannelId) → ((c : ChannelId) → listens_in after c row ≡ (listens_in pairs c row || eqb channel.0 c.0)) → AreMasks (among (listens_in after) users) (with_slot channel row.slot.0 rows)
    AreMasks-listening channel more =
        AreMasks-with_slot (among (listens_in pairs) users) _ channel row.slot.0 rows masks
        (λ c s. split_at after c s
        ∙ ap (λ (b : Bool). eqb row.slot.0 s && listens_in after c row || b) (among_same (listens_in pairs) (listens_in after) session same users c s)
        ∙ ap (λ (b : Bool). eqb row.slot.0 s && b || among (listens_in pairs) (others session users) c s) (more c)
        ∙ joined (eqb row.slot.0 s) (listens_in pairs c row) (eqb channel.0 c.0) (among (listens_in pairs) (others session users) c s)
        ∙ ap (λ (b : Bool). eqb channel.0 c.0 && eqb row.slot.0 s || b) (sym (split_at pairs c s)))
      where
        joined : (e l c o : Bool) → (e && (l || c) || o) ≡ (c && e || (e && l || o))
        joined true true true o = refl
        joined true true false o = refl
        joined true false true o = refl
        joined true false false o = refl
        joined false l true o = refl
        joined false l false o = refl

    -- one channel fewer
    pub AreMasks-not_listening : (channel : ChannelId) → ((c : ChannelId) → listens_in after c row ≡ (listens_in pairs c row && not (eqb channel.0 c.0))) → AreMasks (among (listens_in after) users) (without_slot channel row.slot.0 rows)
    AreMasks-not_listening channel fewer =
        AreMasks-without_slot (among (listens_in pairs) users) _ channel row.slot.0 rows masks
        (λ c s. split_at after c s
        ∙ ap (λ (b : Bool). eqb row.slot.0 s && listens_in after c row || b) (among_same (listens_in pairs) (listens_in after) session same users c s)
        ∙ ap (λ (b : Bool). eqb row.slot.0 s && b || among (listens_in pairs) (others session users) c s) (fewer c)
        ∙ parted c s (eqb row.slot.0 s) refl
        ∙ ap (λ (b : Bool). not (eqb channel.0 c.0 && eqb row.slot.0 s) && b) (sym (split_at pairs c s)))
      where
        taken : (l c o : Bool) → o ≡ false → (true && (l && not c) || o) ≡ (not (c && true) && (true && l || o))
        taken l c true none = cc
        taken true true false none = refl
        taken true false false none = refl
        taken false true false none = refl
        taken false false false none = refl

        left : (l c o : Bool) → (false && (l && not c) || o) ≡ (not (c && false) && (false && l || o))
        left l true o = refl
        left l false o = refl

        parted : (c : ChannelId) (s : ℕ) (e : Bool) → eqb row.slot.0 s ≡ e
            → (eqb row.slot.0 s && (listens_in pairs c row && not (eqb channel.0 c.0)) || among (listens_in pairs) (others session users) c s)
            ≡ (not (eqb channel.0 c.0 && eqb row.slot.0 s) && (eqb row.slot.0 s && listens_in pairs c row || among (listens_in pairs) (others session users) c s))
        parted c s true is = rw is (taken (listens_in pairs c row) (eqb channel.0 c.0) (among (listens_in pairs) (others session users) c s) (none_here limit (listens_in pairs) session users row rise one found c s is))
        parted c s false is = rw is (left (listens_in pairs c row) (eqb channel.0 c.0) (among (listens_in pairs) (others session users) c s))

-- ---- channels that are gone

module _ (gone : ChannelId → Bool) where
  abbrev left : List MaskRow → List MaskRow
  left rows = filter (λ row. not (gone row.channel)) rows

  same_gone : (c : ChannelId) (word : ℕ) (row : MaskRow) → is_mask_of c word row ≡ true → gone row.channel ≡ gone c
  same_gone c word row is = ap gone (ap (λ (n : ℕ). record { 0 = n }) (eqb-true row.channel.0 c.0 (first (eqb row.channel.0 c.0) (eqb row.word word) is)))
    where
      first : (a b : Bool) → (a && b) ≡ true → a ≡ true
      first true b e = refl
      first false b e = e

  mask_at-left : (c : ChannelId) (word : ℕ) (rows : List MaskRow) → mask_at c word (left rows) ≡ cond (gone c) 0 (mask_at c word rows)
  mask_at-left c word [] = sym (either (gone c))
    where
      either : (b : Bool) → cond {A = ℕ} b 0 0 ≡ 0
      either true = refl
      either false = refl
  mask_at-left c word (row ∷ rows) = split (gone row.channel) (is_mask_of c word row) refl refl (mask_at-left c word rows)
    where
      split : (g m : Bool) → gone row.channel ≡ g → is_mask_of c word row ≡ m → mask_at c word (left rows) ≡ cond (gone c) 0 (mask_at c word rows) → mask_at c word (left (row ∷ rows)) ≡ cond (gone c) 0 (mask_at c word (row ∷ rows))
      split true true e f rest = let all : gone c ≡ true = sym (same_gone c word row f) ∙ e in rw (e, rest, all) refl
      split true false e f rest = rw (e, f, rest) refl
      split false true e f rest = let none : gone c ≡ false = sym (same_gone c word row f) ∙ e in rw (e, f, none) refl
      split false false e f rest = rw (e, f, rest) refl

  stays : (pairs : List ListenerPair) (c : ChannelId) (user : User) → listens_in (filter (λ pair. not (gone pair.channel)) pairs) c user ≡ (listens_in pairs c user && not (gone c))
  stays [] c user = refl
  stays (pair ∷ pairs) c user = split (gone pair.channel) (is_pair user.session c pair) refl refl (stays pairs c user)
    where
      same : is_pair user.session c pair ≡ true → gone pair.channel ≡ gone c
      same is = ap gone (ap (λ (n : ℕ). record { 0 = n }) (eqb-true pair.channel.0 c.0 (second (eqb pair.session.0 user.session.0) (eqb pair.channel.0 c.0) is)))
        where
          second : (a b : Bool) → (a && b) ≡ true → b ≡ true
          second true b e = e
          second false b e = cc

      no_more : (b : Bool) → (b && false) ≡ false
      no_more true = refl
      no_more false = refl

      split : (g m : Bool) → gone pair.channel ≡ g → is_pair user.session c pair ≡ m → listens_in (filter (λ p. not (gone p.channel)) pairs) c user ≡ (listens_in pairs c user && not (gone c)) → listens_in (filter (λ p. not (gone p.channel)) (pair ∷ pairs)) c user ≡ (listens_in (pair ∷ pairs) c user && not (gone c))
      split true true e f rest = let all : gone c ≡ true = sym (same f) ∙ e in rw (e, rest, f, all) (no_more (listens_in pairs c user))
      split true false e f rest = rw (e, rest, f) refl
      split false true e f rest = let none : gone c ≡ false = sym (same f) ∙ e in rw (e, f, none) refl
      split false false e f rest = rw (e, f, rest) refl

  among_left : (pairs : List ListenerPair) (users : List User) (c : ChannelId) (s : ℕ) → among (listens_in (filter (λ pair. not (gone pair.channel)) pairs)) users c s ≡ (among (listens_in pairs) users c s && not (gone c))
  among_left pairs [] c s = refl
  among_left pairs (user ∷ users) c s = rw (stays pairs c user, among_left pairs users c s) (spread (eqb user.slot.0 s) (listens_in pairs c user) (among (listens_in pairs) users c s) (gone c))
    where
      spread : (e l o g : Bool) → (e && (l && not g) || (o && not g)) ≡ ((e && l || o) && not g)
      spread true true o g = joined o (not g)
        where
          joined : (a b : Bool) → (b || (a && b)) ≡ b
          joined true true = refl
          joined true false = refl
          joined false true = refl
          joined false false = refl
      spread true false o g = refl
      spread false l o g = refl

  pub AreMasks-closed : (pairs : List ListenerPair) (users : List User) (rows : List MaskRow) → AreMasks (among (listens_in pairs) users) rows
      → AreMasks (among (listens_in (filter (λ pair. not (gone pair.channel)) pairs)) users) (filter (λ row. not (gone row.channel)) rows)
  AreMasks-closed pairs users rows masks = record {
    rise = Rises-filter mask_below (λ row. not (gone row.channel)) rows masks.rise;
    none_empty = omega (arith, count_by-filter-le (λ (row : MaskRow). not (is_mask row.mask)) (λ row. not (gone row.channel)) rows, masks.none_empty);
    bits = λ c s. ap (λ (m : ℕ). bit_at m (s % 128)) (mask_at-left c (s / 128) rows) ∙ step c s (gone c) ∙ ap (λ (b : Bool). cond {A = ℕ} b 1 0) (sym (among_left pairs users c s));
  }
    where
      step : (c : ChannelId) (s : ℕ) (g : Bool) → bit_at (cond g 0 (mask_at c (s / 128) rows)) (s % 128) ≡ cond {A = ℕ} (among (listens_in pairs) users c s && not g) 1 0
      step c s true = bit_at-zero (s % 128) ∙ ap (λ (b : Bool). cond {A = ℕ} b 1 0) (sym (no_more (among (listens_in pairs) users c s)))
        where
          no_more : (b : Bool) → (b && false) ≡ false
          no_more true = refl
          no_more false = refl
      step c s false = masks.bits c s ∙ ap (λ (b : Bool). cond {A = ℕ} b 1 0) (all (among (listens_in pairs) users c s))
        where
          all : (b : Bool) → b ≡ (b && true)
          all true = refl
          all false = refl
