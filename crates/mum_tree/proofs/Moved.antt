-- A tree in which a channel, with all below it, is under another.
use Rattle.mum_tree.proofs.Common.{◌≡◌, ◌≢◌, ℕ, zero, suc, ◌<◌, ◌≤◌, ◌+◌, ◌-◌, ◌&&◌, ◌||◌, Bool, true, false, not, cond, eqb, ltb, List, [], ◌∷◌, length, get_or, set, map, Option, Some, None, refl, arith, ap, sym, ◌∙◌, subst, ⊎_elim, All, AllPairs, Contains, list_any, option_map, option_map_or, is_some, eqb-true, eq-eqb, ne_eqb, cases_Bool, cond_both, both_ways, or_parts, ltb-false, and_cases, length-map, length-reverse, All-map, All-weaker, ChannelId, Channel, Row, number, row_of, is_there, is_temporary, is_taken, is_below, nests, path, upward, Rise, AreApart, IsProper, IsUnderLasting, LeadUp, NoChannel, SameName, UnderItself, Nesting, RootFixed, TemporaryParent, and_parts, not-false, fault_of_move, fault_of_placement, name_of, TreeState, changed, with_channel, same_Some}
use Rattle.mum_tree.proofs.{Find.contains_later, Joined.links_kept, Upward.the_root, Upward.none_contained, Upward.there_from_lead, Upward.upward_zero, Upward.upward_root, Upward.upward_under, Upward.lead_parent, Changed.AllPairs-map, Changed.change_row, Changed.is_temporary-map, Changed.number_found, Changed.row_of-map, Changed.some_from, Changed.some_to, Edits.clash, Edits.none_stands, Edits.row_read, Edits.same_row, Edits.set_row, Edits.some_row, Shrunk.is_top, Shrunk.list_any-reverse, Shrunk.upward_enough}

-- a channel with the name, the parent and the info of another
abbrev pub placed : Channel → Channel → Channel
placed placement channel = record channel { name = placement.name; parent = placement.parent; info = placement.info }

abbrev pub moved_row : ChannelId → Channel → Row → Row
moved_row id placement row = change_row id (placed placement) row

-- each row keeps its number, its place and its kind
pub same_number : (id : ChannelId) (placement : Channel) (row : Row) → number (moved_row id placement row) ≡ number row
same_number id placement row = cond_both (eqb (number row) id.0) (record row { channel = placed placement row.channel }) row (λ r. number r ≡ number row) (λ e. refl) (λ e. refl)

same_place : (id : ChannelId) (placement : Channel) (row : Row) → (moved_row id placement row).place ≡ row.place
same_place id placement row = cond_both (eqb (number row) id.0) (record row { channel = placed placement row.channel }) row (λ r. r.place ≡ row.place) (λ e. refl) (λ e. refl)

same_kind : (id : ChannelId) (placement : Channel) (row : Row) → (moved_row id placement row).channel.temporary ≡ row.channel.temporary
same_kind id placement row = cond_both (eqb (number row) id.0) (record row { channel = placed placement row.channel }) row (λ r. r.channel.temporary ≡ row.channel.temporary) (λ e. refl) (λ e. refl)

-- another row stays as it is, and the moved channel's has the placement
pub unmoved : (id : ChannelId) (placement : Channel) (row : Row) → eqb (number row) id.0 ≡ false → moved_row id placement row ≡ row
unmoved id placement row e = ap (λ (b : Bool). cond b (record row { channel = placed placement row.channel }) row) e

pub moved : (id : ChannelId) (placement : Channel) (row : Row) → eqb (number row) id.0 ≡ true → moved_row id placement row ≡ record row { channel = placed placement row.channel }
moved id placement row e = ap (λ (b : Bool). cond b (record row { channel = placed placement row.channel }) row) e

abbrev pub all_moved : ChannelId → Channel → List Row → List Row
all_moved id placement rows = map (moved_row id placement) rows

-- the row of a channel, afterwards
pub found_moved : (id : ChannelId) (placement : Channel) (rows : List Row) (x : ChannelId) (row : Row) → row_of rows x ≡ Some row → row_of (all_moved id placement rows) x ≡ Some (moved_row id placement row)
found_moved id placement rows x row found = row_of-map (moved_row id placement) (same_number id placement) rows x ∙ ap (option_map (moved_row id placement)) found

-- a way up without the moved channel stays as it is
pub up_off : (rows : List Row) (id : ChannelId) (placement : Channel) (steps : ℕ) (x : ChannelId) → Contains (upward rows steps x) the_root → list_any (is_top id) (upward rows steps x) ≡ false → upward (all_moved id placement rows) steps x ≡ upward rows steps x
up_off rows id placement zero x lead off = upward_zero (all_moved id placement rows) x ∙ sym (upward_zero rows x)
up_off rows id placement (suc steps) x lead off =
    let (row, found) = there_from_lead rows (suc steps) x lead in
    let new = all_moved id placement rows in
    ⊎_elim
    (λ (root : eqb x.0 0 ≡ true). upward_root new steps x (moved_row id placement row) (found_moved id placement rows x row found) root ∙ sym (upward_root rows steps x row found root))
    (λ (under : eqb x.0 0 ≡ false).
    let up = upward_under rows steps x row found under in
    let parts = or_parts (is_top id x) (list_any (is_top id) (upward rows steps row.channel.parent)) (ap (list_any (is_top id)) (sym up) ∙ off) in
    let still : eqb (number row) id.0 ≡ false = ap (λ n. eqb n id.0) (number_found rows x row found) ∙ parts.0 in
    let again : row_of new x ≡ Some row = found_moved id placement rows x row found ∙ ap (λ (r : Row). Some r) (unmoved id placement row still) in
    upward_under new steps x row again under
    ∙ ap (λ us. x ∷ us) (up_off rows id placement steps row.channel.parent (lead_parent rows steps x row found under lead) parts.1)
    ∙ sym up)
    (cases_Bool (eqb x.0 0))

-- a whole way up needs no more steps than it has channels
up_fits : (rows : List Row) (steps : ℕ) (x : ChannelId) (m : ℕ) → Contains (upward rows steps x) the_root → length (upward rows steps x) ≤ m → Contains (upward rows m x) the_root
up_fits rows zero x m lead fits = absurd (none_contained the_root (subst (λ (us : List ChannelId). Contains us the_root) (upward_zero rows x) lead))
up_fits rows (suc steps) x zero lead fits = absurd (omega (arith, lead.1))
up_fits rows (suc steps) x (suc m) lead fits =
    let (row, found) = there_from_lead rows (suc steps) x lead in
    ⊎_elim
    (λ (root : eqb x.0 0 ≡ true). subst (λ (us : List ChannelId). Contains us the_root) (upward_root rows steps x row found root ∙ sym (upward_root rows m x row found root)) lead)
    (λ (under : eqb x.0 0 ≡ false).
    let up = upward_under rows steps x row found under in
    let rest : length (upward rows steps row.channel.parent) ≤ m = omega (arith, ap length up) in
    subst (λ (us : List ChannelId). Contains us the_root) (sym (upward_under rows m x row found under))
    (contains_later x the_root (upward rows m row.channel.parent) (up_fits rows steps row.channel.parent m (lead_parent rows steps x row found under lead) rest)))
    (cases_Bool (eqb x.0 0))

-- a way up that has the moved channel goes on by its new parent
up_on : (rows : List Row) (id : ChannelId) (placement : Channel) → id.0 ≢ 0 → Contains (upward rows 33 placement.parent) the_root → list_any (is_top id) (upward rows 33 placement.parent) ≡ false → (steps : ℕ) (x : ChannelId) → steps ≤ 33 → Contains (upward rows steps x) the_root → list_any (is_top id) (upward rows steps x) ≡ true → (k : ℕ) × (length (upward rows steps x) ≡ k + length (upward rows 33 id)) × Contains (upward (all_moved id placement rows) (suc (k + length (upward rows 33 placement.parent))) x) the_root
up_on rows id placement lower above off zero x short lead on = absurd (none_contained the_root (subst (λ (us : List ChannelId). Contains us the_root) (upward_zero rows x) lead))
up_on rows id placement lower above off (suc steps) x short lead on =
    let (row, found) = there_from_lead rows (suc steps) x lead in
    let new = all_moved id placement rows in
    let high = length (upward rows 33 placement.parent) in
    ⊎_elim
    (λ (here : eqb x.0 id.0 ≡ true).
    let same : x ≡ id = ap (λ n. record { 0 = n }) (eqb-true x.0 id.0 here) in
    let whole : upward rows 33 x ≡ upward rows (suc steps) x = upward_enough rows (suc steps) (32 - steps) 33 x (omega arith) lead in
    let long : length (upward rows (suc steps) x) ≡ 0 + length (upward rows 33 id) = omega (arith, ap length whole, ap (λ y. length (upward rows 33 y)) same) in
    let under : eqb x.0 0 ≡ false = ne_eqb x.0 0 (λ (e : x.0 ≡ 0). lower (sym (eqb-true x.0 id.0 here) ∙ e)) in
    let mine : eqb (number row) id.0 ≡ true = ap (λ n. eqb n id.0) (number_found rows x row found) ∙ here in
    let again : row_of new x ≡ Some (record row { channel = placed placement row.channel }) = found_moved id placement rows x row found ∙ ap (λ (r : Row). Some r) (moved id placement row mine) in
    let kept = up_off rows id placement 33 placement.parent above off in
    let fits = up_fits new 33 placement.parent high (subst (λ (us : List ChannelId). Contains us the_root) (sym kept) above) (omega (arith, ap length kept)) in
    let count : suc (0 + high) ≡ suc high = omega arith in (
      0,
      long,
      subst (λ n. Contains (upward new n x) the_root) (sym count)
          (subst (λ (us : List ChannelId). Contains us the_root) (sym (upward_under new high x _ again under)) (contains_later x the_root (upward new high placement.parent) fits)),
    ))
    (λ (other : eqb x.0 id.0 ≡ false). ⊎_elim
    (λ (root : eqb x.0 0 ≡ true).
    absurd (both_ways (list_any (is_top id) (upward rows (suc steps) x)) (ap (list_any (is_top id)) (upward_root rows steps x row found root) ∙ ap (λ (b : Bool). b || false) other) on))
    (λ (under : eqb x.0 0 ≡ false).
    let up = upward_under rows steps x row found under in
    let on-2 : list_any (is_top id) (upward rows steps row.channel.parent) ≡ true = sym (ap (λ (b : Bool). b || list_any (is_top id) (upward rows steps row.channel.parent)) other) ∙ ap (list_any (is_top id)) (sym up) ∙ on in
    let (k, long, leads) = up_on rows id placement lower above off steps row.channel.parent (omega arith) (lead_parent rows steps x row found under lead) on-2 in
    let still : eqb (number row) id.0 ≡ false = ap (λ n. eqb n id.0) (number_found rows x row found) ∙ other in
    let again : row_of new x ≡ Some row = found_moved id placement rows x row found ∙ ap (λ (r : Row). Some r) (unmoved id placement row still) in
    let count : suc (suc k + high) ≡ suc (suc (k + high)) = omega arith in (
      suc k,
      omega (arith, ap length up),
      subst (λ n. Contains (upward new n x) the_root) (sym count)
          (subst (λ (us : List ChannelId). Contains us the_root) (sym (upward_under new (suc (k + high)) x row again under)) (contains_later x the_root (upward new (suc (k + high)) row.channel.parent) leads)),
    ))
    (cases_Bool (eqb x.0 0)))
    (cases_Bool (eqb x.0 id.0))

-- what holds of no row does not hold of one that is found
none_found : (p : Row → Bool) (rows : List Row) (x : ChannelId) (row : Row) → list_any p rows ≡ false → row_of rows x ≡ Some row → p row ≡ false
none_found p [] x row none found = cc
none_found p (first ∷ rows) x row none found =
    let parts = or_parts (p first) (list_any p rows) none in
    ⊎_elim
    (λ (e : eqb (number first) x.0 ≡ true). ap p (sym (same_Some first row (sym (ap (λ (b : Bool). cond b (Some first) (row_of rows x)) e) ∙ found))) ∙ parts.0)
    (λ (e : eqb (number first) x.0 ≡ false). none_found p rows x row parts.1 (sym (ap (λ (b : Bool). cond b (Some first) (row_of rows x)) e) ∙ found))
    (cases_Bool (eqb (number first) x.0))

-- where no row would be too deep, this one does not
not_deep : (rows : List Row) (id parent x : ChannelId) → is_there rows x ≡ true → list_any (nests rows id parent) rows ≡ false → is_below rows id x ≡ true → length (upward rows 33 parent) + 1 + length (upward rows 33 x) ≤ 33 + length (upward rows 33 id)
not_deep rows id parent x there shallow under =
    let (row, found) = some_row (row_of rows x) there in
    let same : row.channel.id ≡ x = ap (λ n. record { 0 = n }) (number_found rows x row found) in
    ⊎_elim
    (λ (off : is_below rows id row.channel.id ≡ false). absurd (both_ways (is_below rows id x) (ap (is_below rows id) (sym same) ∙ off) under))
    (λ (room : ltb (33 + length (path rows id)) (length (path rows parent) + 1 + length (path rows row.channel.id)) ≡ false).
    omega (arith, ltb-false _ _ room, ap (λ y. length (upward rows 33 y)) same, length-reverse (upward rows 33 id), length-reverse (upward rows 33 parent), length-reverse (upward rows 33 row.channel.id)))
    (and_cases (is_below rows id row.channel.id) (ltb (33 + length (path rows id)) (length (path rows parent) + 1 + length (path rows row.channel.id))) (none_found (nests rows id parent) rows x row shallow found))

moved_lead : (rows : List Row) (id : ChannelId) (placement : Channel) → Rise rows → LeadUp rows → id.0 ≢ 0 → is_there rows placement.parent ≡ true → is_below rows id placement.parent ≡ false → list_any (nests rows id placement.parent) rows ≡ false → LeadUp (all_moved id placement rows)
moved_lead rows id placement rise lead lower stands free shallow x there =
    let new = all_moved id placement rows in
    let above = lead placement.parent stands in
    let off = sym (list_any-reverse (is_top id) (upward rows 33 placement.parent)) ∙ free in
    let before : is_there rows x ≡ true = some_from (moved_row id placement) (row_of rows x) (subst (λ (o : Option Row). is_some o ≡ true) (row_of-map (moved_row id placement) (same_number id placement) rows x) there) in
    let leads = lead x before in
    ⊎_elim
    (λ (on : list_any (is_top id) (upward rows 33 x) ≡ true).
    let (k, long, fits) = up_on rows id placement lower above off 33 x (omega arith) leads on in
    let deep = not_deep rows id placement.parent x before shallow (list_any-reverse (is_top id) (upward rows 33 x) ∙ on) in
    let room : suc (k + length (upward rows 33 placement.parent)) ≤ 33 = omega arith in
    subst (λ (us : List ChannelId). Contains us the_root) (sym (upward_enough new (suc (k + length (upward rows 33 placement.parent))) (32 - (k + length (upward rows 33 placement.parent))) 33 x (omega arith) fits)) fits)
    (λ (off-2 : list_any (is_top id) (upward rows 33 x) ≡ false).
    subst (λ (us : List ChannelId). Contains us the_root) (sym (up_off rows id placement 33 x leads off-2)) leads)
    (cases_Bool (list_any (is_top id) (upward rows 33 x)))

moved_apart : (rows : List Row) (id : ChannelId) (placement : Channel) (row : Row) → Rise rows → AllPairs AreApart rows → row_of rows id ≡ Some row → is_taken rows placement.parent id placement.name ≡ false → AllPairs AreApart (all_moved id placement rows)
moved_apart rows id placement row rise apart found free =
    let there : Row = record row { channel = placed placement row.channel } in
    AllPairs-map AreApart AreApart (moved_row id placement) rows
    (λ i j d below within differ.
    let one = get_or rows i d in
    let other = get_or rows j d in
    let less : number one < number other = rise i j d below within in
    ⊎_elim
    (λ (e : eqb (number one) id.0 ≡ true).
    let here : number one ≡ id.0 = eqb-true (number one) id.0 e in
    let off : eqb (number other) id.0 ≡ false = ne_eqb (number other) id.0 (λ (f : number other ≡ id.0). absurd (omega arith)) in
    let mine : one ≡ row = same_row rows i d id row rise (omega arith) here found in
    subst (λ (r : Row). AreApart r (moved_row id placement other)) (sym (moved id placement one e))
    (subst (λ (r : Row). AreApart (record one { channel = placed placement one.channel }) r) (sym (unmoved id placement other off))
    (λ lower lower-2 under same. clash rows id there placement.name free j d within lower-2 (λ (f : number other ≡ id.0). absurd (omega arith)) (sym under) (sym same))))
    (λ (e : eqb (number one) id.0 ≡ false). ⊎_elim
    (λ (f : eqb (number other) id.0 ≡ true).
    let here : number other ≡ id.0 = eqb-true (number other) id.0 f in
    let mine : other ≡ row = same_row rows j d id row rise within here found in
    subst (λ (r : Row). AreApart r (moved_row id placement other)) (sym (unmoved id placement one e))
    (subst (λ (r : Row). AreApart one r) (sym (moved id placement other f))
    (λ lower lower-2 under same. clash rows id there placement.name free i d (omega arith) lower (λ (g : number one ≡ id.0). absurd (omega arith)) under same)))
    (λ (f : eqb (number other) id.0 ≡ false).
    subst (λ (r : Row). AreApart r (moved_row id placement other)) (sym (unmoved id placement one e))
    (subst (λ (r : Row). AreApart one r) (sym (unmoved id placement other f)) differ))
    (cases_Bool (eqb (number other) id.0)))
    (cases_Bool (eqb (number one) id.0)))
    apart

-- each channel is as temporary as it was
pub kinds_kept : (rows : List Row) (id : ChannelId) (placement : Channel) (x : ChannelId) → is_temporary (all_moved id placement rows) x ≡ is_temporary rows x
kinds_kept rows id placement x =
    ap (λ (o : Option Row). option_map_or (λ r. r.channel.temporary) o false) (row_of-map (moved_row id placement) (same_number id placement) rows x)
    ∙ is_temporary-map (moved_row id placement) (same_kind id placement) (row_of rows x)

moved_lasting : (rows : List Row) (id : ChannelId) (placement : Channel) → All (IsUnderLasting rows) rows → is_temporary rows placement.parent ≡ false → All (IsUnderLasting (all_moved id placement rows)) (all_moved id placement rows)
moved_lasting rows id placement lasting lasts =
    All-map (IsUnderLasting (all_moved id placement rows)) (moved_row id placement) rows
    (All-weaker (IsUnderLasting rows) (λ row. IsUnderLasting (all_moved id placement rows) (moved_row id placement row))
    (λ row under. ⊎_elim
    (λ (e : eqb (number row) id.0 ≡ true). subst (λ (r : Row). IsUnderLasting (all_moved id placement rows) r) (sym (moved id placement row e)) (λ lower. kinds_kept rows id placement placement.parent ∙ lasts))
    (λ (e : eqb (number row) id.0 ≡ false). subst (λ (r : Row). IsUnderLasting (all_moved id placement rows) r) (sym (unmoved id placement row e)) (λ lower. kinds_kept rows id placement row.channel.parent ∙ under lower))
    (cases_Bool (eqb (number row) id.0)))
    rows lasting)

pub moved_proper : (tree : TreeState) (id : ChannelId) (placement : Channel) (row : Row) → IsProper tree → row_of tree.channels id ≡ Some row → id.0 ≢ 0 → is_there tree.channels placement.parent ≡ true → is_taken tree.channels placement.parent id placement.name ≡ false → is_below tree.channels id placement.parent ≡ false → is_temporary tree.channels placement.parent ≡ false → list_any (nests tree.channels id placement.parent) tree.channels ≡ false → IsProper (with_channel tree id (placed placement))
moved_proper tree id placement row proper found lower stands free off lasts shallow =
    let rows = tree.channels in
    let f : Row → Row = moved_row id placement in
    let (root, here, is) = proper.root in
    let still : f root ≡ root = unmoved id placement root (ne_eqb (number root) id.0 (λ (e : number root ≡ id.0). lower (sym e ∙ number_found rows the_root root here))) in
    record {
      rise = AllPairs-map (λ one later. number one < number later) (λ one later. number one < number later) f rows (λ i j d below within less. rw (same_number id placement (get_or rows i d), same_number id placement (get_or rows j d)) less) proper.rise;
      root = (root, found_moved id placement rows the_root root here ∙ ap (λ (r : Row). Some r) still, is);
      lead = moved_lead rows id placement proper.rise proper.lead lower stands off shallow;
      apart = moved_apart rows id placement row proper.rise proper.apart found free;
      lasting = moved_lasting rows id placement proper.lasting lasts;
      places_fit = All-map (λ one. one.place < tree.limit) f rows (All-weaker (λ one. one.place < tree.limit) (λ one. (f one).place < tree.limit) (λ one places_fit. rw (same_place id placement one) places_fit) rows proper.places_fit);
      places_apart = AllPairs-map (λ one other. one.place ≢ other.place) (λ one other. one.place ≢ other.place) f rows (λ i j d below within differ same. differ (sym (same_place id placement (get_or rows i d)) ∙ same ∙ same_place id placement (get_or rows j d))) proper.places_apart;
      few = rw (length-map rows f) proper.few;
      known = All-map (λ one. number one ≤ tree.greatest) f rows (All-weaker (λ one. number one ≤ tree.greatest) (λ one. number (f one) ≤ tree.greatest) (λ one known. rw (same_number id placement one) known) rows proper.known);
      joined = links_kept rows (all_moved id placement rows) tree.links (λ x there. subst (λ (o : Option Row). is_some o ≡ true) (sym (row_of-map (moved_row id placement) (same_number id placement) rows x)) (some_to (moved_row id placement) (row_of rows x) there)) proper.joined;
      limited = proper.limited;
    }

-- two changes that leave the same of the channel leave the same
pub same_change : (rows : List Row) (at : ℕ) (id : ChannelId) (row : Row) (one other : Channel → Channel) → Rise rows → at < length rows → row_of rows id ≡ Some row → row ≡ get_or rows at row → one row.channel ≡ other row.channel → changed id one rows ≡ changed id other rows
same_change rows at id row one other rise within found is same =
    sym (set_row rows at id row one rise within found is)
    ∙ ap (λ (channel : Channel). set rows at (record row { channel = channel })) same
    ∙ set_row rows at id row other rise within found is

-- what another name or parent leaves, where nothing is said against them
pub placed_proper : (tree : TreeState) (id : ChannelId) (placement : Channel) (row : Row) → IsProper tree → row_of tree.channels id ≡ Some row → is_there tree.channels placement.parent ≡ true → fault_of_placement tree id placement.name placement.parent ≡ None → IsProper (with_channel tree id (placed placement))
placed_proper tree id placement row proper found stands allowed =
    let rows = tree.channels in
    let (lower, rest) = none_stands (eqb id.0 0) RootFixed _ allowed in
    let (free, rest-2) = none_stands (is_taken rows placement.parent id placement.name) SameName _ rest in
    let (off, rest-3) = none_stands (is_below rows id placement.parent) UnderItself _ rest-2 in
    let (lasts, rest-4) = none_stands (is_temporary rows placement.parent) TemporaryParent _ rest-3 in
    let (shallow, rest-5) = none_stands (list_any (nests rows id placement.parent) rows) Nesting None rest-4 in
    moved_proper tree id placement row proper found (λ (e : id.0 ≡ 0). both_ways (eqb id.0 0) lower (eq-eqb id.0 0 e)) stands free off lasts shallow

abbrev pub under_parent : ChannelId → Channel → Channel
under_parent parent channel = record channel { parent = parent }

-- what a move leaves, as the code has it, where no cause applies
pub moving : (tree : TreeState) (seen : List Row) (at : ℕ) (id parent : ChannelId) (row : Row) → IsProper tree → seen ≡ tree.channels → (at < length seen) × ((other : Row) → row_of seen id ≡ Some (get_or seen at other)) → row ≡ get_or tree.channels at row → fault_of_move tree id parent ≡ None → (set tree.channels at (record row { channel = under_parent parent row.channel }) ≡ changed id (under_parent parent) tree.channels) × IsProper (with_channel tree id (under_parent parent))
moving tree seen at id parent row proper same located is allowed =
    let rows = tree.channels in
    let placement = under_parent parent row.channel in
    let (within, finds) = subst (λ (rs : List Row). (at < length rs) × ((other : Row) → row_of rs id ≡ Some (get_or rs at other))) same located in
    let found : row_of rows id ≡ Some row = row_read rows at id row finds is in
    let name : name_of tree id ≡ row.channel.name = ap (λ (o : Option Row). option_map_or (λ r. r.channel.name) o []) found in
    let (there, rest) = none_stands (not (is_there rows id && is_there rows parent)) NoChannel _ allowed in
    let stands = (and_parts (is_there rows id) (is_there rows parent) (not-false (is_there rows id && is_there rows parent) there)).1 in
    let done = placed_proper tree id placement row proper found stands (ap (λ n. fault_of_placement tree id n parent) (sym name) ∙ rest) in (
      set_row rows at id row (under_parent parent) proper.rise within found is,
      subst (λ (rs : List Row). IsProper (record tree { channels = rs })) (same_change rows at id row (placed placement) (under_parent parent) proper.rise within found is refl) done,
    )
