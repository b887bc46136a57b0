-- Siblings have different names where each channel has a seat of its own.
use Rattle.mum_kept.proofs.Common.{◌≡◌, ◌≢◌, ℕ, ◌+◌, ◌<◌, ◌≤◌, ◌==◌, ◌&&◌, ◌||◌, zero, suc, Bool, true, false, not, cond, List, [], ◌∷◌, ◌++◌, length, map, take, filter, get_or, refl, sym, ap, subst, ◌∙◌, arith, IsTrue, ◌↔◌, Bor, AllPairs, list_any, bytes_eq, and_from, and_parts, eq-eqb, eqb-true, false≢true, ne_eqb, append-nil, get_or-take, get_or_default, length-take, map-append, take_more, filter-append, bytes_eq-Decides, insert_key, Row, AreApart, Each, each_any, each_from_all, any_map, KeptChannel, Seat, is_seat, seat_of, seats_of, seats_taken, below_root, is_top, tree_row, tree_rows}
use Rattle.mum_kept.proofs.Numbered.{row_at, rows_many}

-- what two channels may not be
abbrev pub ApartChannels : KeptChannel → KeptChannel → Type 0
ApartChannels channel other = channel.id.0 ≢ 0 → other.id.0 ≢ 0 → channel.parent.0 ≡ other.parent.0 → channel.name ≡ other.name → ⊥

abbrev pub ApartBefore : List KeptChannel → ℕ → Type 0
ApartBefore channels at = (i j : ℕ) (d : KeptChannel) → i < j → j < at → ApartChannels (get_or channels i d) (get_or channels j d)

channel_of : Row → KeptChannel
channel_of row = record { id = row.channel.id; parent = row.channel.parent; name = row.channel.name; info = row.channel.info; policy = [] }

pub apart_rows : (channels : List KeptChannel) (at : ℕ) → length channels ≤ at → ApartBefore channels at → AllPairs AreApart (tree_rows channels)
apart_rows channels at all apart i j d less within =
    let inside : j < length channels = omega (arith, rows_many channels) in
    let other : KeptChannel = channel_of d in
    subst (λ (row : Row). AreApart row (get_or (tree_rows channels) j d)) (sym (row_at channels i d other (omega arith)))
    (subst (λ (row : Row). AreApart (tree_row (get_or channels i other)) row) (sym (row_at channels j d other inside)) (apart i j other less (omega arith)))

pub rows_apart : (channels : List KeptChannel) → AllPairs AreApart (tree_rows channels) → ApartBefore channels (length channels)
rows_apart channels apart i j d less within =
    let inside : j < length (tree_rows channels) = omega (arith, rows_many channels) in
    subst (λ (row : Row). AreApart row (tree_row (get_or channels j d))) (row_at channels i (tree_row d) d (omega arith))
    (subst (λ (row : Row). AreApart (get_or (tree_rows channels) i (tree_row d)) row) (row_at channels j (tree_row d) d within) (apart i j (tree_row d) less inside))

-- ---- seats

pub same_seat : (seat other : Seat) → is_seat seat other ≡ true → (seat.0 ≡ other.0) × (seat.1 ≡ other.1)
same_seat seat other same =
    let parts = and_parts (seat.0 == other.0) (bytes_eq seat.1 other.1) same in
    (eqb-true seat.0 other.0 parts.0, (bytes_eq-Decides seat.1 other.1).0 parts.1)

is_same_seat : (seat other : Seat) → seat.0 ≡ other.0 → seat.1 ≡ other.1 → is_seat seat other ≡ true
is_same_seat seat other number name = and_from (seat.0 == other.0) (bytes_eq seat.1 other.1) (eq-eqb seat.0 other.0 number) ((bytes_eq-Decides seat.1 other.1).1 name)

abbrev is_below : KeptChannel → Bool
is_below channel = not (is_top channel)

abbrev taken_in : List KeptChannel → Seat → Bool
taken_in channels seat = list_any (λ channel. is_seat seat (seat_of channel)) (below_root channels)

or_true : (b : Bool) → (b || true) ≡ true
or_true true = refl
or_true false = refl

-- the seat of a channel that is not the root is taken
taken_at : (channels : List KeptChannel) (k : ℕ) (d : KeptChannel) (seat : Seat) → k < length channels → is_below (get_or channels k d) ≡ true → is_seat seat (seat_of (get_or channels k d)) ≡ true → taken_in channels seat ≡ true
taken_at channels k d seat within below same = any_filtered is_below (λ channel. is_seat seat (seat_of channel)) channels k d within below same
  where
    any_filtered : (q p : KeptChannel → Bool) (xs : List KeptChannel) (k : ℕ) (d : KeptChannel) → k < length xs → q (get_or xs k d) ≡ true → p (get_or xs k d) ≡ true → list_any p (filter q xs) ≡ true
    any_filtered q p [] k d within on also = absurd (omega arith)
    any_filtered q p (x ∷ xs) zero d within on also = rw (on, also) refl
    any_filtered q p (x ∷ xs) (suc k) d within on also = by_first (q x) refl (any_filtered q p xs k d (omega arith) on also)
      where
        by_first : (b : Bool) → q x ≡ b → list_any p (filter q xs) ≡ true → list_any p (cond b (x ∷ filter q xs) (filter q xs)) ≡ true
        by_first true fine rest = rw rest (or_true (p x))
        by_first false other rest = rest

-- one more channel that has its own seat, or is the root
pub apart_more : (channels : List KeptChannel) (at : ℕ) (here : KeptChannel) → at < length channels → here ≡ get_or channels at here
    → (here.id.0 ≢ 0 → taken_in (take at channels) (seat_of here) ≡ false) → ApartBefore channels at → ApartBefore channels (at + 1)
apart_more channels at here within is free apart i j d less inside first_below second_below under named = by_place (j == at) refl
  where
    by_place : (b : Bool) → (j == at) ≡ b → ⊥
    by_place true same =
        let e : j ≡ at = eqb-true j at same in
        let own : get_or channels j d ≡ here = ap (λ (k : ℕ). get_or channels k d) e ∙ get_or_default channels at d here within ∙ sym is in
        let lower : i < at = omega arith in
        let read : get_or (take at channels) i d ≡ get_or channels i d = get_or-take at channels i d lower in
        let inside_take : i < length (take at channels) = omega (arith, length-take at channels) in
        let not_top : here.id.0 ≢ 0 = λ top. second_below (ap (λ (c : KeptChannel). c.id.0) own ∙ top) in
        let off : is_top (get_or channels i d) ≡ false = ne_eqb (get_or channels i d).id.0 0 first_below in
        false≢true
        (sym (free not_top)
        ∙ taken_at (take at channels) i d (seat_of here) inside_take (ap (λ (c : KeptChannel). is_below c) read ∙ ap not off)
        (is_same_seat (seat_of here) (seat_of (get_or (take at channels) i d))
        (sym (ap (λ (c : KeptChannel). c.parent.0) own) ∙ sym under ∙ sym (ap (λ (c : KeptChannel). c.parent.0) read))
        (sym (ap (λ (c : KeptChannel). c.name) own) ∙ sym named ∙ sym (ap (λ (c : KeptChannel). c.name) read))))
    by_place false other = let differ : j ≢ at = λ e. false≢true (sym other ∙ eq-eqb j at e) in apart i j d less (omega arith) first_below second_below under named

-- a channel whose seat is taken is not apart from whose it is
pub not_apart : (channels : List KeptChannel) (at : ℕ) (here : KeptChannel) → at < length channels → here ≡ get_or channels at here → here.id.0 ≢ 0 → taken_in (take at channels) (seat_of here) ≡ true
    → ApartBefore channels (length channels) → ⊥
not_apart channels at here within is below taken apart =
    each_any (λ (one : KeptChannel). (one.id.0 ≢ 0) × ApartChannels one here) ⊥ (λ (one : KeptChannel). is_seat (seat_of here) (seat_of one))
    (λ one facts same. let seat = same_seat (seat_of here) (seat_of one) same in facts.1 facts.0 below (sym seat.0) (sym seat.1))
    (below_root (take at channels)) (both_below (take at channels) (each_from_all (λ (one : KeptChannel). ApartChannels one here) (take at channels) earlier)) taken
  where
    earlier : (k : ℕ) (d : KeptChannel) → k < length (take at channels) → ApartChannels (get_or (take at channels) k d) here
    earlier k d inside =
        let lower : k < at = omega (arith, length-take at channels) in
        let read : get_or (take at channels) k d ≡ get_or channels k d = get_or-take at channels k d lower in
        let own : get_or channels at d ≡ here = get_or_default channels at d here within ∙ sym is in
        subst (λ (c : KeptChannel). ApartChannels c here) (sym read) (subst (λ (c : KeptChannel). ApartChannels (get_or channels k d) c) own (apart k at d lower within))

    both_below : (xs : List KeptChannel) → Each (λ (one : KeptChannel). ApartChannels one here) xs → Each (λ (one : KeptChannel). (one.id.0 ≢ 0) × ApartChannels one here) (below_root xs)
    both_below [] all = tt
    both_below (x ∷ xs) all = by_first (is_top x) refl (both_below xs all.1)
      where
        by_first : (b : Bool) → is_top x ≡ b → Each (λ (one : KeptChannel). (one.id.0 ≢ 0) × ApartChannels one here) (below_root xs)
            → Each (λ (one : KeptChannel). (one.id.0 ≢ 0) × ApartChannels one here) (cond (not b) (x ∷ below_root xs) (below_root xs))
        by_first true top rest = rest
        by_first false other rest = ((λ (e : x.id.0 ≡ 0). false≢true (sym other ∙ eq-eqb x.id.0 0 e), all.0), rest)

-- ---- the seats that are kept are those of the channels so far

abbrev pub KeptSeats : List (ℕ × Bor (List ℕ)) → List KeptChannel → Type 0
KeptSeats keys channels = seats_of keys ≡ map seat_of (below_root channels)

pub seat_taken : (keys : List (ℕ × Bor (List ℕ))) (channels : List KeptChannel) (seat : Seat) → KeptSeats keys channels → list_any (is_seat seat) (seats_of keys) ≡ taken_in channels seat
seat_taken keys channels seat are =
    ap (λ (seats : List Seat). list_any (is_seat seat) seats) are ∙ any_map (is_seat seat) (λ (channel : KeptChannel). is_seat seat (seat_of channel)) seat_of (λ channel. refl) (below_root channels)

pub seats_more : (keys after : List (ℕ × Bor (List ℕ))) (channels : List KeptChannel) (at : ℕ) (here : KeptChannel) → at < length channels → here ≡ get_or channels at here → here.id.0 ≢ 0
    → seats_of after ≡ seats_of keys ++ seat_of here ∷ [] → KeptSeats keys (take at channels) → KeptSeats after (take (at + 1) channels)
seats_more keys after channels at here within is below added are =
    let on : is_below here ≡ true = ap not (ne_eqb here.id.0 0 below) in
    added ∙ ap (λ (seats : List Seat). seats ++ seat_of here ∷ []) are
    ∙ sym (ap (λ (xs : List KeptChannel). map seat_of (below_root xs)) (take_more channels at here within ∙ ap (λ (c : KeptChannel). take at channels ++ c ∷ []) (sym is))
    ∙ ap (map seat_of) (filter-append is_below (take at channels) (here ∷ []) ∙ ap (λ (b : Bool). below_root (take at channels) ++ cond b (here ∷ []) []) on)
    ∙ map-append seat_of (below_root (take at channels)) (here ∷ []))

pub seats_same : (keys : List (ℕ × Bor (List ℕ))) (channels : List KeptChannel) (at : ℕ) (here : KeptChannel) → at < length channels → here ≡ get_or channels at here → here.id.0 ≡ 0
    → KeptSeats keys (take at channels) → KeptSeats keys (take (at + 1) channels)
seats_same keys channels at here within is top are =
    let off : is_below here ≡ false = ap not (eq-eqb here.id.0 0 top) in
    are
    ∙ sym (ap (λ (xs : List KeptChannel). map seat_of (below_root xs)) (take_more channels at here within ∙ ap (λ (c : KeptChannel). take at channels ++ c ∷ []) (sym is))
    ∙ ap (map seat_of) (filter-append is_below (take at channels) (here ∷ []) ∙ ap (λ (b : Bool). below_root (take at channels) ++ cond b (here ∷ []) []) off ∙ append-nil (below_root (take at channels))))

-- ---- a channel takes its seat

or_not : (top taken : Bool) → top ≡ false → (top || not taken) ≡ true → taken ≡ false
or_not true taken below free = absurd (false≢true (sym below))
or_not false true below free = absurd (false≢true free)
or_not false false below free = refl

nor_not : (top taken : Bool) → (top || not taken) ≡ false → (top ≡ false) × (taken ≡ true)
nor_not true taken lost = absurd (false≢true (sym lost))
nor_not false true lost = (refl, refl)
nor_not false false lost = absurd (false≢true (sym lost))

module _ (keys : List (ℕ × Bor (List ℕ))) (channels : List KeptChannel) (at : ℕ) (here : KeptChannel) (within : at < length channels) (is : here ≡ get_or channels at here)
    (kept : KeptSeats keys (take at channels)) where
  -- nobody had it
  pub seat_kept : (after : List (ℕ × Bor (List ℕ))) → (is_top here || not (list_any (is_seat (seat_of here)) (seats_of keys))) ≡ true → seats_of after ≡ seats_of keys ++ seats_taken here
      → ApartBefore channels at → ApartBefore channels (at + 1) × KeptSeats after (take (at + 1) channels)
  seat_kept after free added apart = by_top (is_top here) refl
    where
      by_top : (b : Bool) → is_top here ≡ b → ApartBefore channels (at + 1) × KeptSeats after (take (at + 1) channels)
      by_top true top =
          let zero_is : here.id.0 ≡ 0 = eqb-true here.id.0 0 top in
          let same : seats_of after ≡ seats_of keys = added ∙ ap (λ (b : Bool). seats_of keys ++ cond b [] (seat_of here ∷ [])) top ∙ append-nil (seats_of keys) in
          (apart_more channels at here within is (λ below. absurd (below zero_is)) apart, same ∙ seats_same keys channels at here within is zero_is kept)
      by_top false off =
          let below : here.id.0 ≢ 0 = λ e. false≢true (sym off ∙ eq-eqb here.id.0 0 e) in
          let more : seats_of after ≡ seats_of keys ++ seat_of here ∷ [] = added ∙ ap (λ (b : Bool). seats_of keys ++ cond b [] (seat_of here ∷ [])) off in
          let fresh : list_any (is_seat (seat_of here)) (seats_of keys) ≡ false = or_not (is_top here) (list_any (is_seat (seat_of here)) (seats_of keys)) off free in
          (apart_more channels at here within is (λ under. sym (seat_taken keys (take at channels) (seat_of here) kept) ∙ fresh) apart, seats_more keys after channels at here within is below more kept)

  -- somebody had it
  pub seat_lost : (is_top here || not (list_any (is_seat (seat_of here)) (seats_of keys))) ≡ false → IsTrue false ↔ AllPairs AreApart (tree_rows channels)
  seat_lost lost =
      let both = nor_not (is_top here) (list_any (is_seat (seat_of here)) (seats_of keys)) lost in
      let below : here.id.0 ≢ 0 = λ e. false≢true (sym both.0 ∙ eq-eqb here.id.0 0 e) in (
        λ on. absurd (false≢true on),
        λ apart. absurd (not_apart channels at here within is below (sym (seat_taken keys (take at channels) (seat_of here) kept) ∙ both.1) (rows_apart channels apart)),
      )

pub apart_all : (channels : List KeptChannel) (at : ℕ) → length channels ≤ at → ApartBefore channels at → IsTrue true ↔ AllPairs AreApart (tree_rows channels)
apart_all channels at all apart = (λ on. apart_rows channels at all apart, λ rows. refl)

-- ---- the keys of a set of seats

-- a seat that is looked for among the keys
pub same_keys : (keys : List (ℕ × Bor (List ℕ))) (parent : ℕ) (name said : List ℕ) → said ≡ name
    → list_any (λ (key : ℕ × Bor (List ℕ)). (parent == key.0) && bytes_eq said key.1.now) keys ≡ list_any (is_seat (parent, name)) (seats_of keys)
same_keys keys parent name said same =
    ap (λ (text : List ℕ). list_any (λ (key : ℕ × Bor (List ℕ)). (parent == key.0) && bytes_eq text key.1.now) keys) same
    ∙ sym (any_map (is_seat (parent, name)) (λ (key : ℕ × Bor (List ℕ)). (parent == key.0) && bytes_eq name key.1.now) (λ (key : ℕ × Bor (List ℕ)). (key.0, key.1.now)) (λ key. refl) keys)

-- a seat that nobody had goes last
pub seats_added : (keys after : List (ℕ × Bor (List ℕ))) (key : ℕ × Bor (List ℕ)) (channel : KeptChannel) (free : Bool) → is_top channel ≡ false → key.0 ≡ channel.parent.0 → key.1.now ≡ channel.name
    → free ≡ not (list_any (λ (other : ℕ × Bor (List ℕ)). (key.0 == other.0) && bytes_eq key.1.now other.1.now) keys)
    → after ≡ insert_key (λ (one other : ℕ × Bor (List ℕ)). (one.0 == other.0) && bytes_eq one.1.now other.1.now) keys key → free ≡ true → seats_of after ≡ seats_of keys ++ seats_taken channel
seats_added keys after key channel free below under named is becomes on =
    ap seats_of (added (list_any (λ (other : ℕ × Bor (List ℕ)). (key.0 == other.0) && bytes_eq key.1.now other.1.now) keys) refl)
    ∙ map-append {B = Seat} (λ (one : ℕ × Bor (List ℕ)). (one.0, one.1.now)) keys (key ∷ [])
    ∙ ap (λ (seat : Seat). seats_of keys ++ seat ∷ []) own
    ∙ sym (ap (λ (top : Bool). seats_of keys ++ cond top [] (seat_of channel ∷ [])) below)
  where
    own : ◌≡◌ {A = Seat} (key.0, key.1.now) (seat_of channel)
    own = rw (under, named) refl

    added : (has : Bool) → list_any (λ (other : ℕ × Bor (List ℕ)). (key.0 == other.0) && bytes_eq key.1.now other.1.now) keys ≡ has → after ≡ keys ++ key ∷ []
    added true has = absurd (false≢true (ap not (sym has) ∙ sym is ∙ on))
    added false has = rw has at becomes
