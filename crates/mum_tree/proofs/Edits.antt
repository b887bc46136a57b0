-- What adding, renaming and describing a channel leave, where nothing forbids it.
use Rattle.mum_tree.proofs.Common.{◌≡◌, ◌≢◌, ℕ, ◌<◌, ◌≤◌, Bool, true, false, not, cond, eqb, leb, List, [], ◌∷◌, ◌++◌, length, get_or, set, map, Option, Some, None, refl, arith, ap, sym, ◌∙◌, subst, ⊎_elim, AllPairs, Contains, option_map_or, is_some, eqb-true, eq-eqb, ne_eqb, leb-false, cases_Bool, cond_both, both_ways, false≢true, not-false, length-reverse, same_Some, ChannelId, Channel, ChannelInfo, Row, TreeFault, NoChannel, SameName, TemporaryParent, Nesting, Count, RootFixed, fault_of_add, fault_of_remove, fault_of_rename, fault_of_set_info, parent_of, is_full, number, row_of, is_there, is_temporary, is_taken, has_name_beside, path, upward, Rise, AreApart, IsProper, least_place, TreeState, changed, new_row, plain_info, with_channel, with_new}
use Rattle.mum_tree.proofs.{Find.row_of_at, Upward.the_root, Upward.upward_short, Changed.AllPairs-map, Changed.change_keeps, Changed.change_row, Changed.map_proper, Changed.none_passes, Changed.number_found, Changed.set_changed, Changed.stands_beside, Grown.grown_proper, Places.least_free, Places.least_within}

pub some_is_none : (fault : TreeFault) → Some fault ≡ None → ⊥
some_is_none fault e = cc

-- where a list of causes names none, the first does not apply
pub none_stands : (b : Bool) (fault : TreeFault) (rest : Option TreeFault) → cond b (Some fault) rest ≡ None → (b ≡ false) × (rest ≡ None)
none_stands true fault rest e = absurd (some_is_none fault e)
none_stands false fault rest e = (refl, e)

-- a channel that may go is there, and is not the root
pub may_go : (tree : TreeState) (id : ChannelId) → fault_of_remove tree id ≡ None → (is_there tree.channels id ≡ true) × (eqb id.0 0 ≡ false)
may_go tree id allowed =
    let (named, rest) = none_stands (not (is_there tree.channels id)) NoChannel (cond (eqb id.0 0) (Some RootFixed) None) allowed in
    (not-false (is_there tree.channels id) named, (none_stands (eqb id.0 0) RootFixed None rest).0)

pub some_row : (found : Option Row) → is_some found ≡ true → (row : Row) × (found ≡ Some row)
some_row None there = absurd (false≢true there)
some_row (Some row) there = (row, refl)

-- what an added channel leaves, as the code has it, where no cause applies
pub added_proper : (tree : TreeState) (place : ℕ) (id parent : ChannelId) (name text : List ℕ) (temporary : Bool) (info : ChannelInfo) → IsProper tree → tree.greatest < id.0 → fault_of_add tree id parent name ≡ None → text ≡ name → info ≡ plain_info → place ≡ least_place tree.channels → (record { channels = tree.channels ++ record { place = place; channel = record { id = id; parent = parent; name = text; temporary = temporary; info = info } } ∷ []; links = tree.links; greatest = id.0; limit = tree.limit } ≡ with_new tree id parent name temporary) × IsProper (with_new tree id parent name temporary)
added_proper tree place id parent name text temporary info proper above allowed same plain least =
    let rows = tree.channels in
    let (there, rest) = none_stands (not (is_there rows parent)) NoChannel _ allowed in
    let (apart, rest-2) = none_stands (is_taken rows parent id name) SameName _ rest in
    let (lasts, rest-3) = none_stands (is_temporary rows parent) TemporaryParent _ rest-2 in
    let (shallow, rest-4) = none_stands (leb 33 (length (path rows parent))) Nesting _ rest-3 in
    let (room, rest-5) = none_stands (is_full tree) Count None rest-4 in
    let (row, found) = some_row (row_of rows parent) (not-false (is_there rows parent) there) in
    let short : length (upward rows 33 parent) ≤ 32 = omega (arith, leb-false 33 (length (path rows parent)) shallow, length-reverse (upward rows 33 parent)) in
    let lead : Contains (upward rows 32 parent) the_root = subst (λ (us : List ChannelId). Contains us the_root) (upward_short rows 32 parent short) (proper.lead parent (ap is_some found)) in
    let few : length rows < tree.limit = leb-false tree.limit (length rows) room in
    let within = least_within rows in (
      rw (same, plain, least) refl,
      grown_proper tree (new_row (least_place rows) id parent name temporary) row proper above found apart lasts lead few (omega arith) (least_free rows).0,
    )

-- a row that was read at the place of a channel is the channel's
pub row_read : (rows : List Row) (at : ℕ) (id : ChannelId) (row : Row) → ((other : Row) → row_of rows id ≡ Some (get_or rows at other)) → row ≡ get_or rows at row → row_of rows id ≡ Some row
row_read rows at id row located read = located row ∙ ap (λ (r : Row). Some r) (sym read)

pub set_row : (rows : List Row) (at : ℕ) (id : ChannelId) (row : Row) (change : Channel → Channel) → Rise rows → at < length rows → row_of rows id ≡ Some row → row ≡ get_or rows at row → set rows at (record row { channel = change row.channel }) ≡ changed id change rows
set_row rows at id row change rise within found read =
    subst (λ (r : Row). set rows at (record r { channel = change r.channel }) ≡ changed id change rows) (sym read)
    (set_changed rows at row id change rise within (ap number (sym read) ∙ number_found rows id row found))

abbrev pub named : List ℕ → Channel → Channel
named name channel = record channel { name = name }

abbrev pub informed : ChannelInfo → Channel → Channel
informed info channel = record channel { info = info }

pub same_row : (rows : List Row) (i : ℕ) (d : Row) (id : ChannelId) (row : Row) → Rise rows → i < length rows → number (get_or rows i d) ≡ id.0 → row_of rows id ≡ Some row → get_or rows i d ≡ row
same_row rows i d id row rise within here found = same_Some (get_or rows i d) row (sym (row_of_at rows i d id rise within here) ∙ found)

-- no other child of the parent has the name
pub clash : (rows : List Row) (id : ChannelId) (row : Row) (name : List ℕ) → is_taken rows row.channel.parent id name ≡ false → (k : ℕ) (d : Row) → k < length rows → number (get_or rows k d) ≢ 0 → number (get_or rows k d) ≢ id.0 → (get_or rows k d).channel.parent.0 ≡ row.channel.parent.0 → (get_or rows k d).channel.name ≡ name → ⊥
clash rows id row name free k d within lower other under same =
    both_ways (has_name_beside row.channel.parent id name (get_or rows k d))
    (none_passes (has_name_beside row.channel.parent id name) rows free k d within)
    (stands_beside row.channel.parent id name (get_or rows k d) lower under other same)

-- a cause that does not apply is passed over
passes : (b : Bool) (fault : TreeFault) (rest : Option TreeFault) → b ≡ false → cond b (Some fault) rest ≡ rest
passes b fault rest off = ap (λ (x : Bool). cond x (Some fault) rest) off

names_apart : (rows : List Row) (id : ChannelId) (row : Row) (name : List ℕ) → Rise rows → AllPairs AreApart rows → row_of rows id ≡ Some row → is_taken rows row.channel.parent id name ≡ false → AllPairs AreApart (map (change_row id (named name)) rows)
names_apart rows id row name rise apart found free =
    AllPairs-map AreApart AreApart (change_row id (named name)) rows
    (λ i j d below within differ.
    let one = get_or rows i d in
    let other = get_or rows j d in
    let less : number one < number other = rise i j d below within in
    ⊎_elim
    (λ (e : eqb (number one) id.0 ≡ true).
    let here : number one ≡ id.0 = eqb-true (number one) id.0 e in
    let off : eqb (number other) id.0 ≡ false = ne_eqb (number other) id.0 (λ (f : number other ≡ id.0). absurd (omega arith)) in
    let mine : one ≡ row = same_row rows i d id row rise (omega arith) here found in
    subst (λ (b : Bool). AreApart (cond b (record one { channel = named name one.channel }) one) (change_row id (named name) other)) (sym e)
    (subst (λ (b : Bool). AreApart (record one { channel = named name one.channel }) (cond b (record other { channel = named name other.channel }) other)) (sym off)
    (λ lower lower-2 under same. clash rows id row name free j d within lower-2 (λ (f : number other ≡ id.0). absurd (omega arith)) (sym under ∙ ap (λ (r : Row). r.channel.parent.0) mine) (sym same))))
    (λ (e : eqb (number one) id.0 ≡ false). ⊎_elim
    (λ (f : eqb (number other) id.0 ≡ true).
    let here : number other ≡ id.0 = eqb-true (number other) id.0 f in
    let mine : other ≡ row = same_row rows j d id row rise within here found in
    subst (λ (b : Bool). AreApart (cond b (record one { channel = named name one.channel }) one) (change_row id (named name) other)) (sym e)
    (subst (λ (b : Bool). AreApart one (cond b (record other { channel = named name other.channel }) other)) (sym f)
    (λ lower lower-2 under same. clash rows id row name free i d (omega arith) lower (λ (g : number one ≡ id.0). absurd (omega arith)) (under ∙ ap (λ (r : Row). r.channel.parent.0) mine) same)))
    (λ (f : eqb (number other) id.0 ≡ false).
    subst (λ (b : Bool). AreApart (cond b (record one { channel = named name one.channel }) one) (change_row id (named name) other)) (sym e)
    (subst (λ (b : Bool). AreApart one (cond b (record other { channel = named name other.channel }) other)) (sym f) differ))
    (cases_Bool (eqb (number other) id.0)))
    (cases_Bool (eqb (number one) id.0)))
    apart

pub renamed_proper : (tree : TreeState) (id : ChannelId) (row : Row) (name : List ℕ) → IsProper tree → row_of tree.channels id ≡ Some row → id.0 ≢ 0 → is_taken tree.channels row.channel.parent id name ≡ false → IsProper (with_channel tree id (named name))
renamed_proper tree id row name proper found lower free =
    map_proper tree (change_row id (named name))
    (change_keeps id (named name) (λ channel. (refl, refl, refl)) (λ channel root. absurd (lower root)))
    (names_apart tree.channels id row name proper.rise proper.apart found free) proper

pub informed_proper : (tree : TreeState) (id : ChannelId) (info : ChannelInfo) → IsProper tree → IsProper (with_channel tree id (informed info))
informed_proper tree id info proper =
    let f = change_row id (informed info) in
    let same : (row : Row) → (f row).channel.name ≡ row.channel.name = λ row. cond_both (eqb (number row) id.0) (record row { channel = informed info row.channel }) row (λ r. r.channel.name ≡ row.channel.name) (λ e. refl) (λ e. refl) in
    let keeps = change_keeps id (informed info) (λ channel. (refl, refl, refl)) (λ channel root. refl) in
    map_proper tree f keeps
    (AllPairs-map AreApart AreApart f tree.channels
    (λ i j d below within differ lower lower-2 under alike.
    let one = get_or tree.channels i d in
    let other = get_or tree.channels j d in
    differ (λ (e : number one ≡ 0). lower (keeps.numbers one ∙ e)) (λ (e : number other ≡ 0). lower-2 (keeps.numbers other ∙ e))
    (ap (λ (x : ChannelId). x.0) (sym (keeps.parents one)) ∙ under ∙ ap (λ (x : ChannelId). x.0) (keeps.parents other))
    (sym (same one) ∙ alike ∙ same other))
    proper.apart)
    proper

-- what a renaming leaves, as the code has it, where no cause applies
pub renaming : (tree : TreeState) (seen : List Row) (at : ℕ) (id : ChannelId) (row : Row) (name text : List ℕ) → IsProper tree → seen ≡ tree.channels → (at < length seen) × ((other : Row) → row_of seen id ≡ Some (get_or seen at other)) → row ≡ get_or tree.channels at row → fault_of_rename tree id name ≡ None → text ≡ name → (set tree.channels at (record row { channel = named text row.channel }) ≡ changed id (named name) tree.channels) × IsProper (with_channel tree id (named name))
renaming tree seen at id row name text proper same located is allowed given =
    let rows = tree.channels in
    let (within, finds) = subst (λ (rs : List Row). (at < length rs) × ((other : Row) → row_of rs id ≡ Some (get_or rs at other))) same located in
    let found : row_of rows id ≡ Some row = row_read rows at id row finds is in
    let parent : parent_of tree id ≡ row.channel.parent = ap (λ (o : Option Row). option_map_or (λ r. r.channel.parent) o id) found in
    let (there, rest) = none_stands (not (is_there rows id)) NoChannel _ allowed in
    let (lower, rest-2) = none_stands (eqb id.0 0) RootFixed _ rest in
    let (free, rest-3) = none_stands (is_taken rows (parent_of tree id) id name) SameName None rest-2 in (
      ap (λ (t : List ℕ). set rows at (record row { channel = named t row.channel })) given ∙ set_row rows at id row (named name) proper.rise within found is,
      renamed_proper tree id row name proper found (λ (e : id.0 ≡ 0). both_ways (eqb id.0 0) lower (eq-eqb id.0 0 e)) (sym (ap (λ p. is_taken rows p id name) parent) ∙ free),
    )

pub informing : (tree : TreeState) (seen : List Row) (at : ℕ) (id : ChannelId) (row : Row) (info : ChannelInfo) → IsProper tree → seen ≡ tree.channels → (at < length seen) × ((other : Row) → row_of seen id ≡ Some (get_or seen at other)) → row ≡ get_or tree.channels at row → (fault_of_set_info tree id ≡ None) × (set tree.channels at (record row { channel = informed info row.channel }) ≡ changed id (informed info) tree.channels) × IsProper (with_channel tree id (informed info))
informing tree seen at id row info proper same located is =
    let rows = tree.channels in
    let (within, finds) = subst (λ (rs : List Row). (at < length rs) × ((other : Row) → row_of rs id ≡ Some (get_or rs at other))) same located in
    let found : row_of rows id ≡ Some row = row_read rows at id row finds is in
    (passes (not (is_there rows id)) NoChannel None (ap not (ap is_some found)), set_row rows at id row (informed info) proper.rise within found is, informed_proper tree id info proper)
