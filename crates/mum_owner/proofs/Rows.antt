-- The rows of open connections, over each change of them.
use Rattle.mum_owner.proofs.Common.{◌≡◌, ◌∙◌, ℕ, zero, suc, ◌+◌, ◌<◌, ◌≤◌, Bool, true, false, cond, not, List, [], ◌∷◌, ◌++◌, length, map, take, drop, get_or, set, refl, ap, sym, subst, add-one, arith, length-append, ◌==◌, ◌||◌, ◌&&◌, IsTrue, Some, filter, nat_lt, ltb-true, list_any, eqb-true, ne_eqb, length-map, CONNECTION_LIMIT, SessionId, Slot, GuestsFacts, AreKept, RiseWithin, has_room, is_not_of, is_of, lag_noted, new_guest, seated, Guest}

-- one more element is changed
set-mapped : {X : Type 0} (f : X → X) (xs : List X) (i : ℕ) (d : X) → i < length xs
    → set (map f (take i xs) ++ drop i xs) i (f (get_or (map f (take i xs) ++ drop i xs) i d)) ≡ map f (take (i + 1) xs) ++ drop (i + 1) xs
set-mapped f [] i d within = absurd (omega arith)
set-mapped f (y ∷ ys) zero d within = refl
set-mapped {X} f (y ∷ ys) (suc i) d within =
    rw add-one (ap (λ (zs : List X). f y ∷ zs) (rw add-one at (set-mapped f ys i d (omega arith))))

pub mapped_more : {X : Type 0} (f : X → X) (xs now : List X) (i : ℕ) (d new : X) → i < length xs → now ≡ map f (take i xs) ++ drop i xs
    → new ≡ f (get_or now i d) → set now i new ≡ map f (take (i + 1) xs) ++ drop (i + 1) xs
mapped_more {X} f xs now i d new within so_far is =
    ap (λ (x : X). set now i x) is ∙ ap (λ (l : List X). set l i (f (get_or l i d))) so_far ∙ set-mapped f xs i d within

-- ---- numbers that rise

rise_weaker : (low lower high : ℕ) (rows : List Guest) → lower ≤ low → RiseWithin low high rows → RiseWithin lower high rows
rise_weaker low lower high [] less rise = omega arith
rise_weaker low lower high (guest ∷ rows) less rise = let first : low ≤ guest.connection = rise.0 in (omega arith, rise.1)

rise_more : (low given : ℕ) (address : List ℕ) (rows : List Guest) → RiseWithin low (given + 1) rows → RiseWithin low (given + 1 + 1) (rows ++ new_guest (given + 1) address ∷ [])
rise_more low given address [] rise = (rise, omega arith)
rise_more low given address (guest ∷ rows) rise = (rise.0, rise_more (guest.connection + 1) given address rows rise.1)

rise_mapped : (f : Guest → Guest) → ((guest : Guest) → (f guest).connection ≡ guest.connection) → (low high : ℕ) (rows : List Guest)
    → RiseWithin low high rows → RiseWithin low high (map f rows)
rise_mapped f same low high [] rise = rise
rise_mapped f same low high (guest ∷ rows) rise = (
  subst (λ (c : ℕ). low ≤ c) (sym (same guest)) rise.0,
  subst (λ (c : ℕ). RiseWithin (c + 1) high (map f rows)) (sym (same guest)) (rise_mapped f same (guest.connection + 1) high rows rise.1),
)

left_by : (b : Bool) (low high : ℕ) (guest : Guest) (rows : List Guest) → low ≤ guest.connection → RiseWithin (guest.connection + 1) high rows
    → RiseWithin low high (cond (not b) (guest ∷ rows) rows)
left_by true low high guest rows first rise = rise_weaker (guest.connection + 1) low high rows (omega arith) rise
left_by false low high guest rows first rise = (first, rise)

rise_left : (connection low high : ℕ) (rows : List Guest) → RiseWithin low high rows → RiseWithin low high (filter (is_not_of connection) rows)
rise_left connection low high [] rise = rise
rise_left connection low high (guest ∷ rows) rise =
    left_by (guest.connection == connection) low high guest (filter (is_not_of connection) rows) rise.0
    (rise_left connection (guest.connection + 1) high rows rise.1)

-- ---- how many are left

none_below : (connection low high : ℕ) (rows : List Guest) → connection < low → RiseWithin low high rows → filter (is_not_of connection) rows ≡ rows
none_below connection low high [] below rise = refl
none_below connection low high (guest ∷ rows) below rise =
    let first : low ≤ guest.connection = rise.0 in
    let other : (guest.connection == connection) ≡ false = ne_eqb guest.connection connection (λ same. absurd (omega (arith, same, first, below))) in
    ap (λ (b : Bool). cond (not b) (guest ∷ filter (is_not_of connection) rows) (filter (is_not_of connection) rows)) other
    ∙ ap (λ (l : List Guest). guest ∷ l) (none_below connection (guest.connection + 1) high rows (omega arith) rise.1)

count_by : (b : Bool) (connection high : ℕ) (guest : Guest) (rows : List Guest) → (guest.connection == connection) ≡ b
    → RiseWithin (guest.connection + 1) high rows → (b || list_any (is_of connection) rows) ≡ true
    → (list_any (is_of connection) rows ≡ true → length (filter (is_not_of connection) rows) + 1 ≡ length rows)
    → length (cond (not b) (guest ∷ filter (is_not_of connection) rows) (filter (is_not_of connection) rows)) + 1 ≡ length rows + 1
count_by true connection high guest rows is rise any on =
    let same : guest.connection ≡ connection = eqb-true guest.connection connection is in
    let rest : filter (is_not_of connection) rows ≡ rows = none_below connection (guest.connection + 1) high rows (omega (arith, same)) rise in
    ap (λ (l : List Guest). length l + 1) rest
count_by false connection high guest rows is rise any on =
    let rest : length (filter (is_not_of connection) rows) + 1 ≡ length rows = on any in
    omega (arith, rest)

count_left : (connection low high : ℕ) (rows : List Guest) → RiseWithin low high rows → list_any (is_of connection) rows ≡ true
    → length (filter (is_not_of connection) rows) + 1 ≡ length rows
count_left connection low high [] rise any = cc
count_left connection low high (guest ∷ rows) rise any =
    let so = count_by (guest.connection == connection) connection high guest rows refl rise.1 any (count_left connection (guest.connection + 1) high rows rise.1) in
    omega (arith, so)

-- ---- what is kept true of them

pub kept_entered : (address : List ℕ) (rows : List Guest) (given closed limit room same : ℕ) → AreKept rows given closed limit room → length rows < CONNECTION_LIMIT → given < limit → same ≡ room
    → AreKept (rows ++ new_guest (given + 1) address ∷ []) (given + 1) closed limit same
kept_entered address rows given closed limit room same kept few below full = record {
  rise = rise_more 1 given address rows kept.rise;
  open_or_closed = let was = kept.open_or_closed in omega (arith, length-append rows (new_guest (given + 1) address ∷ []), was);
  few = omega (arith, length-append rows (new_guest (given + 1) address ∷ []), few);
  within = omega arith;
  room_is = let was = kept.room_is in omega (arith, was, full);
}

pub kept_left : (connection : ℕ) (rows : List Guest) (given closed limit room same : ℕ) → AreKept rows given closed limit room → list_any (is_of connection) rows ≡ true → same ≡ room
    → AreKept (filter (is_not_of connection) rows) given (closed + 1) limit same
kept_left connection rows given closed limit room same kept any full =
    let fewer = count_left connection 1 (given + 1) rows kept.rise any in
    record {
      rise = rise_left connection 1 (given + 1) rows kept.rise;
      open_or_closed = let was = kept.open_or_closed in omega (arith, fewer, was);
      few = let was = kept.few in omega (arith, fewer, was);
      within = kept.within;
      room_is = let was = kept.room_is in omega (arith, was, full);
    }

pub kept_mapped : (f : Guest → Guest) → ((guest : Guest) → (f guest).connection ≡ guest.connection) → (rows : List Guest) (given closed limit room same : ℕ)
    → AreKept rows given closed limit room → same ≡ room → AreKept (map f rows) given closed limit same
kept_mapped f numbers rows given closed limit room same kept full = record {
  rise = rise_mapped f numbers 1 (given + 1) rows kept.rise;
  open_or_closed = ap (λ (n : ℕ). n + closed) (length-map rows f) ∙ kept.open_or_closed;
  few = let was = kept.few in omega (arith, length-map rows f, was);
  within = kept.within;
  room_is = let was = kept.room_is in omega (arith, was, full);
}

-- none of several more is open than was given
pub fewer_closed : (connection : ℕ) (rows : List Guest) (given closed limit room : ℕ) → AreKept rows given closed limit room → list_any (is_of connection) rows ≡ true → closed + 1 ≤ given
fewer_closed connection rows given closed limit room kept any =
    let fewer = count_left connection 1 (given + 1) rows kept.rise any in
    let was = kept.open_or_closed in
    omega (arith, fewer, was)

-- ---- what changes no number

same_by : (b : Bool) (x y : Guest) → x.connection ≡ y.connection → (cond b x y).connection ≡ y.connection
same_by true x y same = same
same_by false x y same = refl

pub seated_number : (connection : ℕ) (session : SessionId) (slot : Slot) (guest : Guest) → (seated connection session slot guest).connection ≡ guest.connection
seated_number connection session slot guest =
    same_by (is_of connection guest) (record guest { session = Some session; slot = Some slot }) guest refl

pub noted_number : (connection : ℕ) (guest : Guest) → (lag_noted connection guest).connection ≡ guest.connection
noted_number connection guest = same_by (is_of connection guest) (record guest { lagged = true }) guest refl

-- ---- room for one more

both_hold : (a b : Bool) → (a && b) ≡ true → (a ≡ true) × (b ≡ true)
both_hold true b both = (refl, both)
both_hold false b both = cc

pub room_so : (guests : GuestsFacts) → IsTrue (has_room guests) → (length guests.rows < CONNECTION_LIMIT) × (guests.given < guests.limit)
room_so guests room =
    let both = both_hold (nat_lt (length guests.rows) CONNECTION_LIMIT) (nat_lt guests.given guests.limit) room in
    (ltb-true (length guests.rows) CONNECTION_LIMIT both.0, ltb-true guests.given guests.limit both.1)
