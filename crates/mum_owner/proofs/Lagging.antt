-- For which connections a lag item was made, over the rows of open connections.
use Rattle.mum_owner.proofs.Common.{◌≡◌, ◌∙◌, ℕ, ◌+◌, ◌≤◌, ◌⊎◌, Bool, true, false, cond, not, List, [], ◌∷◌, ◌++◌, map, Some, refl, ap, sym, subst, inl, inr, arith, ◌&&◌, ◌==◌, filter, find, eq-eqb, SessionId, Slot, ReplyEnd, Joined, Decided, GuestsFacts, has_session, is_not_of, is_of, joined_by, lag_noted, may_lag, new_guest, seated, Guest}
use Rattle.mum_base.specs.declared.reply.ReplyEnd.TheVariants.{Rejected}

-- one was made for each row of this connection
abbrev pub AllLagged : ℕ → List Guest → Type 0
AllLagged connection [] = Unit {0}
AllLagged connection (guest ∷ rows) = (guest.connection ≡ connection → guest.lagged ≡ true) × AllLagged connection rows

-- each row is of a connection up to this one
abbrev pub AllWithin : ℕ → List Guest → Type 0
AllWithin last [] = Unit {0}
AllWithin last (guest ∷ rows) = (guest.connection ≤ last) × AllWithin last rows

-- there is a row of this connection for which none was made
abbrev pub HasUnlagged : ℕ → List Guest → Type 0
HasUnlagged connection [] = ⊥
HasUnlagged connection (guest ∷ rows) = ((guest.connection ≡ connection) × (guest.lagged ≡ false)) ⊎ HasUnlagged connection rows

pub never_both : (connection : ℕ) (rows : List Guest) → AllLagged connection rows → HasUnlagged connection rows → ⊥
never_both connection [] all some = some
never_both connection (guest ∷ rows) all (inl here) = let lagged : guest.lagged ≡ true = all.0 here.0 in let unlagged = here.1 in cc
never_both connection (guest ∷ rows) all (inr later) = never_both connection rows all.1 later

pub unlagged_within : (connection last : ℕ) (rows : List Guest) → AllWithin last rows → HasUnlagged connection rows → connection ≤ last
unlagged_within connection last [] all some = absurd some
unlagged_within connection last (guest ∷ rows) all (inl here) = let first : guest.connection ≤ last = all.0 in omega (arith, here.0)
unlagged_within connection last (guest ∷ rows) all (inr later) = unlagged_within connection last rows all.1 later

-- ---- what keeps this

-- a lag item that was made stays made, and no row is of another connection
pub record RowsStay (old new : List Guest) : Type 0 where
  pub lagged : (connection : ℕ) → AllLagged connection old → AllLagged connection new
  pub within : (last : ℕ) → AllWithin last old → AllWithin last new

pub rows_same : (rows : List Guest) → RowsStay rows rows
rows_same rows = record { lagged = λ connection all. all; within = λ last all. all }

pub rows_equal : (old new : List Guest) → new ≡ old → RowsStay old new
rows_equal old new is = subst (λ (rows : List Guest). RowsStay old rows) (sym is) (rows_same old)

-- a change of each row that makes no lag item unmade and changes no number
module _ (change : Guest → Guest) (number : (guest : Guest) → (change guest).connection ≡ guest.connection)
    (lagged : (guest : Guest) → guest.lagged ≡ true → (change guest).lagged ≡ true) where
  mapped_lagged : (connection : ℕ) (rows : List Guest) → AllLagged connection rows → AllLagged connection (map change rows)
  mapped_lagged connection [] all = all
  mapped_lagged connection (guest ∷ rows) all =
      (λ same. lagged guest (all.0 (sym (number guest) ∙ same)), mapped_lagged connection rows all.1)

  mapped_within : (last : ℕ) (rows : List Guest) → AllWithin last rows → AllWithin last (map change rows)
  mapped_within last [] all = all
  mapped_within last (guest ∷ rows) all =
      (subst (λ (n : ℕ). n ≤ last) (sym (number guest)) all.0, mapped_within last rows all.1)

  pub rows_mapped : (rows : List Guest) → RowsStay rows (map change rows)
  rows_mapped rows = record { lagged = λ connection all. mapped_lagged connection rows all; within = λ last all. mapped_within last rows all }

left_lagged : (b : Bool) (connection : ℕ) (guest : Guest) (rows : List Guest) → (guest.connection ≡ connection → guest.lagged ≡ true) → AllLagged connection rows
    → AllLagged connection (cond b (guest ∷ rows) rows)
left_lagged true connection guest rows first all = (first, all)
left_lagged false connection guest rows first all = all

left_within : (b : Bool) (last : ℕ) (guest : Guest) (rows : List Guest) → guest.connection ≤ last → AllWithin last rows → AllWithin last (cond b (guest ∷ rows) rows)
left_within true last guest rows first all = (first, all)
left_within false last guest rows first all = all

filtered_lagged : (gone connection : ℕ) (rows : List Guest) → AllLagged connection rows → AllLagged connection (filter (is_not_of gone) rows)
filtered_lagged gone connection [] all = all
filtered_lagged gone connection (guest ∷ rows) all =
    left_lagged (is_not_of gone guest) connection guest (filter (is_not_of gone) rows) all.0 (filtered_lagged gone connection rows all.1)

filtered_within : (gone last : ℕ) (rows : List Guest) → AllWithin last rows → AllWithin last (filter (is_not_of gone) rows)
filtered_within gone last [] all = all
filtered_within gone last (guest ∷ rows) all =
    left_within (is_not_of gone guest) last guest (filter (is_not_of gone) rows) all.0 (filtered_within gone last rows all.1)

pub rows_left : (gone : ℕ) (rows : List Guest) → RowsStay rows (filter (is_not_of gone) rows)
rows_left gone rows = record { lagged = λ connection all. filtered_lagged gone connection rows all; within = λ last all. filtered_within gone last rows all }

seat_number : (b : Bool) (session : SessionId) (slot : Slot) (guest : Guest)
    → (cond b (record guest { session = Some session; slot = Some slot }) guest).connection ≡ guest.connection
seat_number true session slot guest = refl
seat_number false session slot guest = refl

seat_lagged : (b : Bool) (session : SessionId) (slot : Slot) (guest : Guest)
    → (cond b (record guest { session = Some session; slot = Some slot }) guest).lagged ≡ guest.lagged
seat_lagged true session slot guest = refl
seat_lagged false session slot guest = refl

pub rows_joined : (end : ReplyEnd) (connection : ℕ) (guests : GuestsFacts) → RowsStay guests.rows (joined_by end connection guests).rows
rows_joined (Joined session slot) connection guests =
    rows_mapped (seated connection session slot) (λ guest. seat_number (is_of connection guest) session slot guest)
    (λ guest so. seat_lagged (is_of connection guest) session slot guest ∙ so) guests.rows
rows_joined Decided connection guests = rows_same guests.rows
rows_joined Rejected connection guests = rows_same guests.rows

note_number : (b : Bool) (guest : Guest) → (cond b (record guest { lagged = true }) guest).connection ≡ guest.connection
note_number true guest = refl
note_number false guest = refl

note_lagged : (b : Bool) (guest : Guest) → guest.lagged ≡ true → (cond b (record guest { lagged = true }) guest).lagged ≡ true
note_lagged true guest so = refl
note_lagged false guest so = so

pub rows_noted : (connection : ℕ) (rows : List Guest) → RowsStay rows (map (lag_noted connection) rows)
rows_noted connection rows =
    rows_mapped (lag_noted connection) (λ guest. note_number (is_of connection guest) guest) (λ guest so. note_lagged (is_of connection guest) guest so) rows

-- ---- one more is given

entered_lagged : (connection given : ℕ) (address : List ℕ) (rows : List Guest) → connection ≤ given → AllLagged connection rows → AllLagged connection (rows ++ new_guest (given + 1) address ∷ [])
entered_lagged connection given address [] within all = (λ same. absurd (omega (arith, same, within)), all)
entered_lagged connection given address (guest ∷ rows) within all = (all.0, entered_lagged connection given address rows within all.1)

entered_within : (given : ℕ) (address : List ℕ) (rows : List Guest) → AllWithin given rows → AllWithin (given + 1) (rows ++ new_guest (given + 1) address ∷ [])
entered_within given address [] all = (omega arith, all)
entered_within given address (guest ∷ rows) all = let first : guest.connection ≤ given = all.0 in (omega arith, entered_within given address rows all.1)

pub lagged_entered : (connection given : ℕ) (address : List ℕ) (rows : List Guest) → connection ≤ given → AllLagged connection rows → AllLagged connection (rows ++ new_guest (given + 1) address ∷ [])
lagged_entered connection given address rows within all = entered_lagged connection given address rows within all

pub within_entered : (given : ℕ) (address : List ℕ) (rows : List Guest) → AllWithin given rows → AllWithin (given + 1) (rows ++ new_guest (given + 1) address ∷ [])
within_entered given address rows all = entered_within given address rows all

-- ---- a lag item is made

noted_so : (b : Bool) (connection : ℕ) (guest : Guest) → (guest.connection == connection) ≡ b → (cond b (record guest { lagged = true }) guest).connection ≡ connection
    → (cond b (record guest { lagged = true }) guest).lagged ≡ true
noted_so true connection guest is same = refl
noted_so false connection guest is same = let other : (guest.connection == guest.connection) ≡ false = ap (λ (n : ℕ). guest.connection == n) same ∙ is in absurd (differs guest.connection other)
  where
    differs : (n : ℕ) → (n == n) ≡ false → ⊥
    differs n so = let same : (n == n) ≡ true = eq-eqb n n refl in cc

-- each row of the connection is noted
pub all_noted : (connection : ℕ) (rows : List Guest) → AllLagged connection (map (lag_noted connection) rows)
all_noted connection [] = tt
all_noted connection (guest ∷ rows) = (λ same. noted_so (is_of connection guest) connection guest refl same, all_noted connection rows)

-- ---- a row that is found

found_by : (b : Bool) (test : Guest → Bool) (guest : Guest) (rows : List Guest) (found : Guest) → test guest ≡ b → cond b (Some guest) (find test rows) ≡ Some found
    → found.lagged ≡ false → (find test rows ≡ Some found → HasUnlagged found.connection rows) → HasUnlagged found.connection (guest ∷ rows)
found_by true test guest rows found is so unlagged later =
    let same : guest ≡ found = the_same guest found so in
    inl (ap (λ (g : Guest). g.connection) same, ap (λ (g : Guest). g.lagged) same ∙ unlagged)
  where
    the_same : (one other : Guest) → Some one ≡ Some other → one ≡ other
    the_same one other so = cc
found_by false test guest rows found is so unlagged later = inr (later so)

pub found_unlagged : (test : Guest → Bool) (rows : List Guest) (found : Guest) → find test rows ≡ Some found → found.lagged ≡ false → HasUnlagged found.connection rows
found_unlagged test [] found so unlagged = cc
found_unlagged test (guest ∷ rows) found so unlagged =
    found_by (test guest) test guest rows found refl so unlagged (λ later. found_unlagged test rows found later unlagged)

passed_by : (b : Bool) (test : Guest → Bool) (guest : Guest) (rows : List Guest) (found : Guest) → test guest ≡ b → cond b (Some guest) (find test rows) ≡ Some found
    → (find test rows ≡ Some found → test found ≡ true) → test found ≡ true
passed_by true test guest rows found is so later =
    let same : guest ≡ found = the_same guest found so in
    subst (λ (g : Guest). test g ≡ true) same is
  where
    the_same : (one other : Guest) → Some one ≡ Some other → one ≡ other
    the_same one other so = cc
passed_by false test guest rows found is so later = later so

found_passes : (test : Guest → Bool) (rows : List Guest) (found : Guest) → find test rows ≡ Some found → test found ≡ true
found_passes test [] found so = cc
found_passes test (guest ∷ rows) found so = passed_by (test guest) test guest rows found refl so (λ later. found_passes test rows found later)

not_lagged : (a b : Bool) → (a && not b) ≡ true → b ≡ false
not_lagged true true so = cc
not_lagged true false so = refl
not_lagged false b so = cc

-- none was made for a session that is found so
pub found_lagging : (session : SessionId) (rows : List Guest) (found : Guest) → find (may_lag session) rows ≡ Some found → HasUnlagged found.connection rows
found_lagging session rows found so =
    found_unlagged (may_lag session) rows found so (not_lagged (has_session session found.session) found.lagged (found_passes (may_lag session) rows found so))
