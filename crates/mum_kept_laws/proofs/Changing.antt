-- The edit of a channel that is not placed yet places it.
use Rattle.mum_kept_laws.proofs.Common.{◌≡◌, ℕ, ◌==◌, ◌||◌, Bool, true, false, cond, List, [], ◌∷◌, map, Option, Some, None, refl, sym, ap, ◌∙◌, eq-eqb, eqb-true, false≢true, ne_eqb, is_among, ChannelId, ROOT, Change, given_or, with_given, Channel, Row, is_root, number, row_of, Rise, changed, plain_info, channel_parts, Each, each_map, each_so, map_each, same_channel, parent_below_root, found_each}
use Rattle.mum_kept_laws.proofs.{Staged.is_settled, Staged.made, Staged.staged, Staged.staged_rows, Unplaced.unplaced, Unplaced.unplaced_rows}

-- what the edit gives
abbrev pub placing : Row → Change
placing row = channel_parts (Some row.channel.name) (parent_below_root row.channel.parent) None None None [] []

pub map_map : {X Y Z : Type 0} (f : Y → Z) (g : X → Y) (xs : List X) → map f (map g xs) ≡ map (λ x. f (g x)) xs
map_map f g [] = refl
map_map {X} {Y} {Z} f g (x ∷ xs) = ap (λ (zs : List Z). f (g x) ∷ zs) (map_map f g xs)

abbrev change_row : ChannelId → Change → Row → Row
change_row id change row = cond (number row == id.0) (record row { channel = with_given change row.channel }) row

pub parent_given : (parent : ChannelId) → given_or (parent_below_root parent) ROOT ≡ parent
parent_given parent = step (is_root parent) refl
  where
    step : (b : Bool) → is_root parent ≡ b → given_or (cond b None (Some parent)) ROOT ≡ parent
    step true top = sym (same_channel parent ROOT (eqb-true parent.0 0 top))
    step false below = refl

pub parent_again : (parent : ChannelId) → given_or (parent_below_root parent) parent ≡ parent
parent_again parent = step (is_root parent)
  where
    step : (b : Bool) → given_or (cond b None (Some parent)) parent ≡ parent
    step true = refl
    step false = refl

-- made or placed before, the channel is as it is to be
placed_by : (prefix : List ℕ) (row : Row) (settled : Bool) → with_given (placing row) (cond settled row.channel (made prefix row.channel)) ≡ row.channel
placed_by prefix row true = ap (λ (parent : ChannelId). record row.channel { parent = parent }) (parent_again row.channel.parent)
placed_by prefix row false = ap (λ (parent : ChannelId). record row.channel { parent = parent }) (parent_given row.channel.parent)

or_move : (a b c : Bool) → b ≡ false → (a || (b || c)) ≡ (a || c)
or_move a true c off = absurd (cc)
or_move a false c off = refl

one_placed : (done : List ChannelId) (prefix : List ℕ) (id : ChannelId) (row other : Row) (own : Bool) → (number other == id.0) ≡ own → (own ≡ true → other ≡ row)
    → change_row id (placing row) (staged done prefix other) ≡ staged (id ∷ done) prefix other
one_placed done prefix id row other true same is =
    let e : id.0 ≡ other.channel.id.0 = sym (eqb-true (number other) id.0 same) in
    let settled : is_settled (id ∷ done) other.channel.id ≡ true = ap (λ (b : Bool). is_root other.channel.id || (b || is_among done other.channel.id)) (eq-eqb id.0 other.channel.id.0 e) ∙ or_true (is_root other.channel.id) in
    ap (λ (b : Bool). cond b (record (staged done prefix other) { channel = with_given (placing row) (staged done prefix other).channel }) (staged done prefix other)) (number_of (is_settled done other.channel.id))
    ∙ ap (λ (r : Row). record (staged done prefix other) { channel = with_given (placing r) (staged done prefix other).channel }) (sym (is refl))
    ∙ ap (λ (c : Channel). record other { channel = c }) (placed_by prefix other (is_settled done other.channel.id))
    ∙ sym (ap (λ (b : Bool). record other { channel = cond b other.channel (made prefix other.channel) }) settled)
  where
    or_true : (b : Bool) → (b || true) ≡ true
    or_true true = refl
    or_true false = refl

    number_of : (b : Bool) → (number (record other { channel = cond b other.channel (made prefix other.channel) }) == id.0) ≡ true
    number_of true = same
    number_of false = same
one_placed done prefix id row other false differ is =
    let off : (id.0 == other.channel.id.0) ≡ false = ne_eqb id.0 other.channel.id.0 (λ (e : id.0 ≡ other.channel.id.0). false≢true (sym differ ∙ eq-eqb (number other) id.0 (sym e))) in
    ap (λ (b : Bool). cond b (record (staged done prefix other) { channel = with_given (placing row) (staged done prefix other).channel }) (staged done prefix other)) (number_of (is_settled done other.channel.id))
    ∙ ap (λ (b : Bool). record other { channel = cond b other.channel (made prefix other.channel) }) (sym (or_move (is_root other.channel.id) (id.0 == other.channel.id.0) (is_among done other.channel.id) off))
  where
    number_of : (b : Bool) → (number (record other { channel = cond b other.channel (made prefix other.channel) }) == id.0) ≡ false
    number_of true = differ
    number_of false = differ

-- the only row of its number
only_row : (rows : List Row) (id : ChannelId) (row : Row) → Rise rows → row_of rows id ≡ Some row → Each (λ other. (number other == id.0) ≡ true → other ≡ row) rows
only_row rows id row rise there =
    each_so (λ other. row_of rows other.channel.id ≡ Some other) (λ other. (number other == id.0) ≡ true → other ≡ row)
    (λ other found same. some_same other row (sym found ∙ ap (row_of rows) (same_channel other.channel.id id (eqb-true (number other) id.0 same)) ∙ there))
    rows (found_each rows rise)
  where
    some_same : (one other : Row) → Some one ≡ Some other → one ≡ other
    some_same one other same = cc

pub rows_placed : (done : List ChannelId) (prefix : List ℕ) (rows : List Row) (id : ChannelId) (row : Row) → Rise rows → row_of rows id ≡ Some row
    → changed id (with_given (placing row)) (staged_rows done prefix rows) ≡ staged_rows (id ∷ done) prefix rows
rows_placed done prefix rows id row rise there =
    map_map (change_row id (placing row)) (staged done prefix) rows
    ∙ map_each (λ other. change_row id (placing row) (staged done prefix other)) (staged (id ∷ done) prefix) rows
    (each_so (λ other. (number other == id.0) ≡ true → other ≡ row) (λ other. change_row id (placing row) (staged done prefix other) ≡ staged (id ∷ done) prefix other)
    (λ other only. one_placed done prefix id row other (number other == id.0) refl only) rows (only_row rows id row rise there))

-- what is hidden stays
pub changed_unplaced : (id : ChannelId) (name : List ℕ) (parent : Option ChannelId) (rows : List Row)
    → unplaced_rows (changed id (with_given (channel_parts (Some name) parent None None None [] [])) rows) ≡ changed id (with_given (channel_parts (Some name) parent None None None [] [])) (unplaced_rows rows)
changed_unplaced id name parent rows =
    map_map unplaced (change_row id change) rows ∙ map_each (λ row. unplaced (change_row id change row)) (λ row. change_row id change (unplaced row)) rows (each_of rows) ∙ sym (map_map (change_row id change) unplaced rows)
  where
    change : Change
    change = channel_parts (Some name) parent None None None [] []

    one : (row : Row) → unplaced (change_row id change row) ≡ change_row id change (unplaced row)
    one row = step (number row == id.0) (is_root row.channel.id) refl
      where
        step : (b top : Bool) → is_root row.channel.id ≡ top
            → unplaced (cond b (record row { channel = with_given change row.channel }) row) ≡ cond b (record (unplaced row) { channel = with_given change (unplaced row).channel }) (unplaced row)
        step true true root = rw root refl
        step true false below = rw below refl
        step false top is = refl

    each_of : (rows : List Row) → Each (λ row. unplaced (change_row id change row) ≡ change_row id change (unplaced row)) rows
    each_of [] = tt
    each_of (row ∷ rows) = (one row, each_of rows)

-- the root has no description yet
abbrev pub IsUndescribed : Row → Type 0
IsUndescribed row = is_root row.channel.id ≡ true → row.channel.info ≡ plain_info

pub changed_undescribed : (id : ChannelId) (name : List ℕ) (parent : Option ChannelId) (rows : List Row) → Each IsUndescribed rows → Each IsUndescribed (changed id (with_given (channel_parts (Some name) parent None None None [] [])) rows)
changed_undescribed id name parent rows all =
    each_map IsUndescribed IsUndescribed (change_row id (channel_parts (Some name) parent None None None [] [])) (λ row plain. one row plain (number row == id.0)) rows all
  where
    one : (row : Row) → IsUndescribed row → (b : Bool) → IsUndescribed (cond b (record row { channel = with_given (channel_parts (Some name) parent None None None [] []) row.channel }) row)
    one row plain true = plain
    one row plain false = plain
