-- What is there once channels are gone, and where those who were in them are.
use Rattle.mum_state.proofs.Common.{◌≡◌, ℕ, zero, suc, ◌-◌, ◌≤◌, ◌&&◌, ◌||◌, not, Bool, true, false, cond, eqb, List, [], ◌∷◌, map, length, refl, sym, ap, subst, ◌∙◌, arith, Option, Some, is_some, ⊎_elim, Contains, filter, list_all, list_any, option_map_or, both_ways, cases_Bool, eqb-true, ChannelId, Row, IsProperTree, parent_of, is_below, is_there, number, row_of, upward, TreeState, without_subtree, some_row, is_top, list_any-reverse, upward_enough, lead_parent, none_contained, the_root, there_from_lead, upward_more, upward_root, upward_under, upward_zero, User, moved_up}
use Rattle.mum_state.proofs.Listed.{all_map}

-- the rows of channels that pass a test
abbrev pub rows_of : (ChannelId → Bool) → List Row → List Row
rows_of stays rows = filter (λ row. stays row.channel.id) rows

-- of those that pass a test, those are there that were
pub there_of : (stays : ChannelId → Bool) (rows : List Row) (id : ChannelId) → is_there (rows_of stays rows) id ≡ (is_there rows id && stays id)
there_of stays [] id = refl
there_of stays (row ∷ rows) id = step (eqb (number row) id.0) (stays row.channel.id) refl refl (there_of stays rows id)
  where
    same : eqb (number row) id.0 ≡ true → stays row.channel.id ≡ stays id
    same is = ap (λ n. stays (record { 0 = n })) (eqb-true (number row) id.0 is)

    and_false : (b : Bool) → (b && false) ≡ false
    and_false true = refl
    and_false false = refl

    step : (is kept : Bool) → eqb (number row) id.0 ≡ is → stays row.channel.id ≡ kept → is_there (rows_of stays rows) id ≡ (is_there rows id && stays id)
        → is_there (rows_of stays (row ∷ rows)) id ≡ (is_there (row ∷ rows) id && stays id)
    step true true is kept rest = rw (kept, is) (sym kept ∙ same is)
    step true false is kept rest =
        let off : stays id ≡ false = sym (same is) ∙ kept in
        rw (kept, is) (rest ∙ ap (λ b. is_there rows id && b) off ∙ and_false (is_there rows id) ∙ sym off)
    step false true is kept rest = rw (kept, is) rest
    step false false is kept rest = rw (kept, is) rest

-- what is there after the removal of a channel was there, and is not below it
pub there_without_subtree : (tree : TreeState) (top id : ChannelId)
    → is_there (without_subtree tree top).channels id ≡ (is_there tree.channels id && not (is_below tree.channels top id))
there_without_subtree tree top id = there_of (λ channel. not (is_below tree.channels top channel)) tree.channels id

-- a channel on the way up has a way up that is no longer
way_of_above : (rows : List Row) (top : ChannelId) (steps : ℕ) (id : ChannelId) → steps ≤ 33 → Contains (upward rows steps id) the_root → list_any (is_top top) (upward rows steps id) ≡ true
    → length (upward rows 33 top) ≤ length (upward rows steps id)
way_of_above rows top zero id short lead on = absurd (none_contained the_root (subst (λ (us : List ChannelId). Contains us the_root) (upward_zero rows id) lead))
way_of_above rows top (suc steps) id short lead on =
    let (row, found) = there_from_lead rows (suc steps) id lead in
    ⊎_elim
    (λ (is : eqb id.0 top.0 ≡ true).
    let same : id ≡ top = ap (λ n. record { 0 = n }) (eqb-true id.0 top.0 is) in
    let whole : upward rows 33 id ≡ upward rows (suc steps) id = upward_enough rows (suc steps) (32 - steps) 33 id (omega arith) lead in
    let long : length (upward rows 33 top) ≡ length (upward rows (suc steps) id) = ap (λ (x : ChannelId). length (upward rows 33 x)) (sym same) ∙ ap length whole in
    omega arith)
    (λ (other : eqb id.0 top.0 ≡ false). ⊎_elim
    (λ (root : eqb id.0 0 ≡ true).
    absurd (both_ways (list_any (is_top top) (upward rows (suc steps) id)) (ap (list_any (is_top top)) (upward_root rows steps id row found root) ∙ ap (λ b. b || false) other) on))
    (λ (under : eqb id.0 0 ≡ false).
    let up = upward_under rows steps id row found under in
    let above : list_any (is_top top) (upward rows steps row.channel.parent) ≡ true =
    sym (ap (list_any (is_top top)) up ∙ ap (λ b. b || list_any (is_top top) (upward rows steps row.channel.parent)) other) ∙ on in
    let rest : length (upward rows 33 top) ≤ length (upward rows steps row.channel.parent) =
    way_of_above rows top steps row.channel.parent (omega arith) (lead_parent rows steps id row found under lead) above in
    let long : length (upward rows (suc steps) id) ≡ suc (length (upward rows steps row.channel.parent)) = ap length up in
    omega arith)
    (cases_Bool (eqb id.0 0)))
    (cases_Bool (eqb id.0 top.0))

-- what holds of a channel that is there and is not the root
record IsUnder (rows : List Row) (id : ChannelId) (parent : ChannelId) : Type 0 where
  there : is_there rows parent ≡ true
  off : is_below rows id parent ≡ false

under_parent : (tree : TreeState) (id : ChannelId) (row : Row) → IsProperTree tree → row_of tree.channels id ≡ Some row → eqb id.0 0 ≡ false → IsUnder tree.channels id row.channel.parent
under_parent tree id row proper found under =
    let rows : List Row = tree.channels in
    let lead : Contains (upward rows 33 id) the_root = proper.lead id (ap is_some found) in
    let above : Contains (upward rows 32 row.channel.parent) the_root = lead_parent rows 32 id row found under lead in
    let whole : upward rows 33 row.channel.parent ≡ upward rows 32 row.channel.parent = upward_more rows 32 row.channel.parent above in
    let parent = there_from_lead rows 32 row.channel.parent above in
    let long : length (upward rows 33 id) ≡ suc (length (upward rows 32 row.channel.parent)) = ap length (upward_under rows 32 id row found under) in
    record {
      there = ap is_some parent.1;
      off = ⊎_elim
          (λ (on : is_below rows id row.channel.parent ≡ true).
          let on-2 : list_any (is_top id) (upward rows 32 row.channel.parent) ≡ true =
          sym (list_any-reverse (is_top id) (upward rows 33 row.channel.parent) ∙ ap (list_any (is_top id)) whole) ∙ on in
          let more : length (upward rows 33 id) ≤ length (upward rows 32 row.channel.parent) = way_of_above rows id 32 row.channel.parent (omega arith) above on-2 in
          absurd (omega arith))
          (λ (off : is_below rows id row.channel.parent ≡ false). off)
          (cases_Bool (is_below rows id row.channel.parent));
    }

parent_is : (tree : TreeState) (id : ChannelId) (row : Row) → row_of tree.channels id ≡ Some row → parent_of tree id ≡ row.channel.parent
parent_is tree id row found = ap (λ (o : Option Row). option_map_or (λ r. r.channel.parent) o id) found

-- the parent of a channel that is there, is there: the root is its own
pub parent_there : (tree : TreeState) (id : ChannelId) → IsProperTree tree → is_there tree.channels id ≡ true → is_there tree.channels (parent_of tree id) ≡ true
parent_there tree id proper there =
    let rows : List Row = tree.channels in
    let (row, found) = some_row (row_of rows id) there in
    let parent = parent_is tree id row found in
    ap (is_there rows) parent ∙ ⊎_elim
    (λ (root : eqb id.0 0 ≡ true).
    let same : id ≡ the_root = ap (λ n. record { 0 = n }) (eqb-true id.0 0 root) in
    let (first, found-2, is) = proper.root in
    let row_is : Some row ≡ Some first = sym found ∙ ap (row_of rows) same ∙ found-2 in
    let own : row.channel.parent ≡ the_root = ap (λ (o : Option Row). option_map_or (λ r. r.channel.parent) o id) row_is ∙ ap (λ n. record { 0 = n }) is.1 in
    ap (is_there rows) own ∙ ap is_some found-2)
    (λ (under : eqb id.0 0 ≡ false). (under_parent tree id row proper found under).there)
    (cases_Bool (eqb id.0 0))

-- the parent of a removed channel stays
pub parent_stays : (tree : TreeState) (id : ChannelId) → IsProperTree tree → is_there tree.channels id ≡ true → eqb id.0 0 ≡ false → is_there (without_subtree tree id).channels (parent_of tree id) ≡ true
parent_stays tree id proper there under =
    let rows : List Row = tree.channels in
    let (row, found) = some_row (row_of rows id) there in
    let is = under_parent tree id row proper found under in
    there_without_subtree tree id (parent_of tree id)
    ∙ ap (λ (parent : ChannelId). is_there rows parent && not (is_below rows id parent)) (parent_is tree id row found)
    ∙ ap (λ b. b && not (is_below rows id row.channel.parent)) is.there
    ∙ ap not is.off

-- whoever is moved up is in a channel that was there
moved_there : (tree : TreeState) (id : ChannelId) (user : User) (channels : List Row) → is_there channels (parent_of tree id) ≡ true
    → (is_below tree.channels id user.channel ≡ false → is_there channels user.channel ≡ true) → is_there channels (moved_up tree id user).channel ≡ true
moved_there tree id user channels parent other = step (is_below tree.channels id user.channel) refl
  where
    step : (b : Bool) → is_below tree.channels id user.channel ≡ b → is_there channels (cond b (record user { channel = parent_of tree id }) user).channel ≡ true
    step true on = parent
    step false off = other off

-- members that moved up are in channels that were there
pub moved_were : (tree : TreeState) (id : ChannelId) (users : List User) → IsProperTree tree → is_there tree.channels id ≡ true → list_all (λ user. is_there tree.channels user.channel) users ≡ true
    → list_all (λ user. is_there tree.channels user.channel) (map (moved_up tree id) users) ≡ true
moved_were tree id users proper there inside =
    all_map (λ user. is_there tree.channels user.channel) (λ user. is_there tree.channels user.channel) (moved_up tree id)
    (λ user here. moved_there tree id user tree.channels (parent_there tree id proper there) (λ off. here)) users inside

-- and in channels that stay
pub moved_stay : (tree : TreeState) (id : ChannelId) (users : List User) → IsProperTree tree → is_there tree.channels id ≡ true → eqb id.0 0 ≡ false → list_all (λ user. is_there tree.channels user.channel) users ≡ true
    → list_all (λ user. is_there (without_subtree tree id).channels user.channel) (map (moved_up tree id) users) ≡ true
moved_stay tree id users proper there under inside =
    all_map (λ user. is_there tree.channels user.channel) (λ user. is_there (without_subtree tree id).channels user.channel) (moved_up tree id)
    (λ user here. moved_there tree id user (without_subtree tree id).channels (parent_stays tree id proper there under)
    (λ off.
    there_without_subtree tree id user.channel
    ∙ ap (λ b. b && not (is_below tree.channels id user.channel)) here
    ∙ ap not off))
    users inside
