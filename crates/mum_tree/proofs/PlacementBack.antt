-- A tree in which a channel has another name or parent is a tree only where nothing forbids them.
use Rattle.mum_tree.proofs.Common.{◌≡◌, ◌≢◌, ℕ, zero, suc, ◌<◌, ◌≤◌, ◌+◌, ◌-◌, ◌&&◌, ◌||◌, Bool, true, false, not, eqb, ltb, List, length, get_or, Some, None, refl, arith, ap, sym, ◌∙◌, subst, ⊎_elim, AllPairs, Contains, list_any, is_some, and_parts, both_ways, cases_Bool, cases_lt, eq-eqb, eqb-true, false_from_ne_true, ltb-true, ne_eqb, not-true, get_or-map, length-map, length-reverse, list_any_none, same_Some, bytes_eq-Decides, ChannelId, Channel, Row, SameName, UnderItself, Nesting, RootFixed, TemporaryParent, AreApart, IsProper, IsUnderLasting, LeadUp, fault_of_placement, number, row_of, is_there, is_temporary, is_below, is_taken, has_name_beside, nests, path, upward, Rise, TreeState, with_channel}
use Rattle.mum_tree.proofs.{Back.five, Changed.number_found, Closure.row_stands, Depths.upward_within, Find.row_of_at, Moved.all_moved, Moved.found_moved, Moved.kinds_kept, Moved.moved, Moved.moved_row, Moved.placed, Moved.unmoved, Moved.up_off, Shrunk.is_top, Shrunk.list_any-reverse, Shrunk.upward_enough, Upward.the_root, Upward.lead_parent, Upward.none_contained, Upward.option_cases, Upward.upward_missing, Upward.upward_root, Upward.upward_under, Upward.upward_zero}

-- the row with the placement
abbrev placed_row : Channel → Row → Row
placed_row placement row = record row { channel = placed placement row.channel }

-- the row of the channel that moves
found_placed : (rows : List Row) (id : ChannelId) (placement : Channel) (row : Row) → row_of rows id ≡ Some row → row_of (all_moved id placement rows) id ≡ Some (placed_row placement row)
found_placed rows id placement row found = found_moved id placement rows id row found ∙ ap (λ (r : Row). Some r) (moved id placement row (eq-eqb (number row) id.0 (number_found rows id row found)))

-- the root has the name and the parent that it had
pub root_fixed : (tree : TreeState) (id : ChannelId) (placement : Channel) (row : Row) → IsProper tree → row_of tree.channels id ≡ Some row → IsProper (with_channel tree id (placed placement)) → id.0 ≡ 0 → (placement.name ≡ row.channel.name) × (placement.parent ≡ row.channel.parent)
root_fixed tree id placement row proper found after root =
    let rows = tree.channels in
    let same : id ≡ the_root = ap (λ n. record { 0 = n }) root in
    let (before, was, (place, parent, name, kind)) = proper.root in
    let (now, is, (place-2, parent-2, name-2, kind-2)) = after.root in
    let one : before ≡ row = same_Some before row (sym was ∙ ap (row_of rows) (sym same) ∙ found) in
    let two : now ≡ placed_row placement row = same_Some now (placed_row placement row) (sym is ∙ ap (row_of (all_moved id placement rows)) (sym same) ∙ found_placed rows id placement row found) in
    let above : placement.parent.0 ≡ row.channel.parent.0 = ap (λ (r : Row). r.channel.parent.0) (sym two) ∙ parent-2 ∙ sym parent ∙ ap (λ (r : Row). r.channel.parent.0) one in (
      ap (λ (r : Row). r.channel.name) (sym two) ∙ name-2 ∙ sym name ∙ ap (λ (r : Row). r.channel.name) one,
      ap (λ n. record { 0 = n }) above,
    )

-- where names are distinct, no other child of the parent has the name
pub name_free : (rows : List Row) (id : ChannelId) (placement : Channel) (row : Row) → row_of rows id ≡ Some row → id.0 ≢ 0 → AllPairs AreApart (all_moved id placement rows) → is_taken rows placement.parent id placement.name ≡ false
name_free rows id placement row found lower apart =
    let f : Row → Row = moved_row id placement in
    let new = all_moved id placement rows in
    let mine : number row ≡ id.0 = number_found rows id row found in
    let (at, inside, reads) = row_stands rows id row found in
    list_any_none (has_name_beside placement.parent id placement.name) rows (λ k d within.
    let one = get_or rows k d in
    false_from_ne_true (has_name_beside placement.parent id placement.name one) (λ on.
    let (front, same) = and_parts (not (eqb (number one) 0) && eqb one.channel.parent.0 placement.parent.0 && not (eqb (number one) id.0)) _ on in
    let (front-2, off) = and_parts (not (eqb (number one) 0) && eqb one.channel.parent.0 placement.parent.0) (not (eqb (number one) id.0)) front in
    let (off-2, under-2) = and_parts (not (eqb (number one) 0)) (eqb one.channel.parent.0 placement.parent.0) front-2 in
    let under : one.channel.parent.0 ≡ placement.parent.0 = eqb-true one.channel.parent.0 placement.parent.0 under-2 in
    let name : one.channel.name ≡ placement.name = (bytes_eq-Decides one.channel.name placement.name).0 same in
    let lower-2 : number one ≢ 0 = λ (e : number one ≡ 0). both_ways (not (eqb (number one) 0)) (ap not (eq-eqb (number one) 0 e)) off-2 in
    let lower-3 : number (placed_row placement row) ≢ 0 = λ (e : number row ≡ 0). lower (sym mine ∙ e) in
    let other : eqb (number one) id.0 ≡ false = not-true (eqb (number one) id.0) off in
    let still : get_or new k d ≡ one = get_or-map f rows k d d within ∙ unmoved id placement one other in
    let there : get_or new at d ≡ placed_row placement row = get_or-map f rows at d d inside ∙ ap f (reads d) ∙ moved id placement row (eq-eqb (number row) id.0 mine) in
    let apart-at : k ≢ at = λ (e : k ≡ at). both_ways (eqb (number one) id.0) other (eq-eqb (number one) id.0 (ap (λ n. number (get_or rows n d)) e ∙ ap number (reads d) ∙ mine)) in
    ⊎_elim
    (λ (l : k < at).
    let pair : AreApart (get_or new k d) (get_or new at d) = apart k at d l (omega (arith, length-map rows f)) in
    subst (λ (r : Row). AreApart r (placed_row placement row)) still (subst (AreApart (get_or new k d)) there pair) lower-2 lower-3 under name)
    (λ (g : at ≤ k).
    let pair : AreApart (get_or new at d) (get_or new k d) = apart at k d (omega arith) (omega (arith, length-map rows f)) in
    subst (λ (r : Row). AreApart r one) there (subst (AreApart (get_or new at d)) still pair) lower-3 lower-2 (sym under) (sym name))
    (cases_lt k at)))

-- another channel whose way up has this one is not the root
none_above : (rows : List Row) (id x : ChannelId) (steps : ℕ) (row : Row) → row_of rows x ≡ Some row → eqb x.0 id.0 ≡ false → list_any (is_top id) (upward rows (suc steps) x) ≡ true → eqb x.0 0 ≡ false
none_above rows id x steps row found other on =
    false_from_ne_true (eqb x.0 0) (λ root. both_ways (list_any (is_top id) (upward rows (suc steps) x)) (ap (list_any (is_top id)) (upward_root rows steps x row found root) ∙ ap (λ (b : Bool). b || false) other) on)

-- and its parent's way up has this one too
above_has : (rows : List Row) (id x : ChannelId) (steps : ℕ) (row : Row) → row_of rows x ≡ Some row → eqb x.0 id.0 ≡ false → eqb x.0 0 ≡ false → list_any (is_top id) (upward rows (suc steps) x) ≡ true → list_any (is_top id) (upward rows steps row.channel.parent) ≡ true
above_has rows id x steps row found other under on =
    sym (ap (λ (b : Bool). b || list_any (is_top id) (upward rows steps row.channel.parent)) other)
    ∙ ap (list_any (is_top id)) (sym (upward_under rows steps x row found under))
    ∙ on

-- the row of a channel that does not move
found_still : (rows : List Row) (id x : ChannelId) (placement : Channel) (row : Row) → row_of rows x ≡ Some row → eqb x.0 id.0 ≡ false → row_of (all_moved id placement rows) x ≡ Some row
found_still rows id x placement row found other =
    found_moved id placement rows x row found ∙ ap (λ (r : Row). Some r) (unmoved id placement row (ap (λ n. eqb n id.0) (number_found rows x row found) ∙ other))

-- a channel whose way up has another is there
there_on : (rows : List Row) (id x : ChannelId) (steps : ℕ) → list_any (is_top id) (upward rows steps x) ≡ true → (row : Row) × (row_of rows x ≡ Some row)
there_on rows id x steps on =
    ⊎_elim
    (λ (none : row_of rows x ≡ None). absurd (both_ways (list_any (is_top id) (upward rows steps x)) (ap (list_any (is_top id)) (upward_missing rows steps x none)) on))
    (λ found. found)
    (option_cases (row_of rows x))

-- under itself, or one below it, a channel and what is below it lead round and round, and never to the root
no_way : (rows : List Row) (id : ChannelId) (placement : Channel) (row : Row) → row_of rows id ≡ Some row → id.0 ≢ 0 → list_any (is_top id) (upward rows 33 placement.parent) ≡ true → (n steps : ℕ) (x : ChannelId) → list_any (is_top id) (upward rows steps x) ≡ true → Contains (upward (all_moved id placement rows) n x) the_root → ⊥
no_way rows id placement row found lower round zero steps x on lead =
    none_contained the_root (subst (λ (us : List ChannelId). Contains us the_root) (upward_zero (all_moved id placement rows) x) lead)
no_way rows id placement row found lower round (suc n) zero x on lead =
    both_ways (list_any (is_top id) (upward rows 0 x)) (ap (list_any (is_top id)) (upward_zero rows x)) on
no_way rows id placement row found lower round (suc n) (suc steps) x on lead =
    let new = all_moved id placement rows in
    let (one, there) = there_on rows id x (suc steps) on in
    ⊎_elim
    (λ (here : eqb x.0 id.0 ≡ true).
    let same : x ≡ id = ap (λ m. record { 0 = m }) (eqb-true x.0 id.0 here) in
    let under : eqb x.0 0 ≡ false = ne_eqb x.0 0 (λ (e : x.0 ≡ 0). lower (sym (eqb-true x.0 id.0 here) ∙ e)) in
    let again : row_of new x ≡ Some (placed_row placement row) = ap (row_of new) same ∙ found_placed rows id placement row found in
    no_way rows id placement row found lower round n 33 placement.parent round (lead_parent new n x (placed_row placement row) again under lead))
    (λ (other : eqb x.0 id.0 ≡ false).
    let under = none_above rows id x steps one there other on in
    no_way rows id placement row found lower round n steps one.channel.parent (above_has rows id x steps one there other under on)
    (lead_parent new n x one (found_still rows id x placement one there other) under lead))
    (cases_Bool (eqb x.0 id.0))

-- what leads by the moved channel to the root, in n steps, has the new parent's whole way up in them
way_fits : (rows : List Row) (id : ChannelId) (placement : Channel) (row : Row) → row_of rows id ≡ Some row → id.0 ≢ 0 → Contains (upward rows 33 placement.parent) the_root → list_any (is_top id) (upward rows 33 placement.parent) ≡ false → (m steps : ℕ) (x : ChannelId) → m ≤ 33 → steps ≤ 33 → Contains (upward rows steps x) the_root → list_any (is_top id) (upward rows steps x) ≡ true → Contains (upward (all_moved id placement rows) m x) the_root → length (upward rows 33 placement.parent) + 1 + length (upward rows steps x) ≤ m + length (upward rows 33 id)
way_fits rows id placement row found lower above off zero steps x fits short was on lead =
    absurd (none_contained the_root (subst (λ (us : List ChannelId). Contains us the_root) (upward_zero (all_moved id placement rows) x) lead))
way_fits rows id placement row found lower above off (suc m) zero x fits short was on lead =
    absurd (both_ways (list_any (is_top id) (upward rows 0 x)) (ap (list_any (is_top id)) (upward_zero rows x)) on)
way_fits rows id placement row found lower above off (suc m) (suc steps) x fits short was on lead =
    let new = all_moved id placement rows in
    let (one, there) = there_on rows id x (suc steps) on in
    ⊎_elim
    (λ (here : eqb x.0 id.0 ≡ true).
    let same : x ≡ id = ap (λ n. record { 0 = n }) (eqb-true x.0 id.0 here) in
    let under : eqb x.0 0 ≡ false = ne_eqb x.0 0 (λ (e : x.0 ≡ 0). lower (sym (eqb-true x.0 id.0 here) ∙ e)) in
    let again : row_of new x ≡ Some (placed_row placement row) = ap (row_of new) same ∙ found_placed rows id placement row found in
    let up = lead_parent new m x (placed_row placement row) again under lead in
    let whole : upward rows 33 x ≡ upward rows (suc steps) x = upward_enough rows (suc steps) (32 - steps) 33 x (omega arith) was in
    let whole-2 : upward new 33 placement.parent ≡ upward new m placement.parent = upward_enough new m (33 - m) 33 placement.parent (omega arith) up in
    let long : length (upward rows (suc steps) x) ≡ length (upward rows 33 id) = ap length (sym whole) ∙ ap (λ y. length (upward rows 33 y)) same in
    let high : length (upward rows 33 placement.parent) ≡ length (upward new m placement.parent) = ap length (sym (up_off rows id placement 33 placement.parent above off) ∙ whole-2) in
    let few : length (upward new m placement.parent) ≤ m = upward_within new m placement.parent in
    omega arith)
    (λ (other : eqb x.0 id.0 ≡ false).
    let under = none_above rows id x steps one there other on in
    let rest : length (upward rows 33 placement.parent) + 1 + length (upward rows steps one.channel.parent) ≤ m + length (upward rows 33 id) =
    way_fits rows id placement row found lower above off m steps one.channel.parent (omega arith) (omega arith)
    (lead_parent rows steps x one there under was) (above_has rows id x steps one there other under on)
    (lead_parent new m x one (found_still rows id x placement one there other) under lead) in
    omega (arith, ap length (upward_under rows steps x one there under)))
    (cases_Bool (eqb x.0 id.0))

-- where each channel leads to the root, none is too deep
shallow : (rows : List Row) (id : ChannelId) (placement : Channel) (row : Row) → Rise rows → LeadUp rows → row_of rows id ≡ Some row → id.0 ≢ 0 → is_there rows placement.parent ≡ true → list_any (is_top id) (upward rows 33 placement.parent) ≡ false → LeadUp (all_moved id placement rows) → list_any (nests rows id placement.parent) rows ≡ false
shallow rows id placement row rise lead found lower stands off after =
    list_any_none (nests rows id placement.parent) rows (λ k d within.
    let one = get_or rows k d in
    let x = one.channel.id in
    false_from_ne_true (nests rows id placement.parent one) (λ on.
    let (under, deep) = and_parts (is_below rows id x) (ltb (33 + length (path rows id)) (length (path rows placement.parent) + 1 + length (path rows x))) on in
    let found-2 : row_of rows x ≡ Some one = row_of_at rows k d x rise within refl in
    let there : is_there (all_moved id placement rows) x ≡ true = ap is_some (found_moved id placement rows x one found-2) in
    let fits : length (upward rows 33 placement.parent) + 1 + length (upward rows 33 x) ≤ 33 + length (upward rows 33 id) =
    way_fits rows id placement row found lower (lead placement.parent stands) off 33 33 x (omega arith) (omega arith) (lead x (ap is_some found-2))
    (sym (list_any-reverse (is_top id) (upward rows 33 x)) ∙ under) (after x there) in
    let long : 33 + length (path rows id) < length (path rows placement.parent) + 1 + length (path rows x) = ltb-true _ _ deep in
    absurd (omega (arith, length-reverse (upward rows 33 id), length-reverse (upward rows 33 placement.parent), length-reverse (upward rows 33 x)))))

-- nothing forbids the name and the parent of a channel in a tree
pub placement_allowed : (tree : TreeState) (id : ChannelId) (placement : Channel) (row : Row) → IsProper tree → row_of tree.channels id ≡ Some row → is_there tree.channels placement.parent ≡ true → id.0 ≢ 0 → IsProper (with_channel tree id (placed placement)) → fault_of_placement tree id placement.name placement.parent ≡ None
placement_allowed tree id placement row proper found stands lower after =
    let rows = tree.channels in
    let new = all_moved id placement rows in
    let there : is_there new id ≡ true = ap is_some (found_placed rows id placement row found) in
    let off : list_any (is_top id) (upward rows 33 placement.parent) ≡ false = false_from_ne_true _ (λ round.
    no_way rows id placement row found lower round 32 33 placement.parent round
    (lead_parent new 32 id (placed_row placement row) (found_placed rows id placement row found) (ne_eqb id.0 0 lower) (after.lead id there))) in
    let (at, inside, reads) = row_stands rows id row found in
    let mine : get_or new at row ≡ placed_row placement row = get_or-map (moved_row id placement) rows at row row inside ∙ ap (moved_row id placement) (reads row) ∙ moved id placement row (eq-eqb (number row) id.0 (number_found rows id row found)) in
    let lasts : is_temporary new placement.parent ≡ false =
    subst (IsUnderLasting new) mine (after.lasting at row (omega (arith, length-map rows (moved_row id placement)))) (λ (e : number row ≡ 0). lower (sym (number_found rows id row found) ∙ e)) in
    five (eqb id.0 0) (is_taken rows placement.parent id placement.name) (is_below rows id placement.parent) (is_temporary rows placement.parent) (list_any (nests rows id placement.parent) rows) RootFixed SameName UnderItself TemporaryParent Nesting
    (ne_eqb id.0 0 lower)
    (name_free rows id placement row found lower after.apart)
    (list_any-reverse (is_top id) (upward rows 33 placement.parent) ∙ off)
    (sym (kinds_kept rows id placement placement.parent) ∙ lasts)
    (shallow rows id placement row proper.rise proper.lead found lower stands off after.lead)
