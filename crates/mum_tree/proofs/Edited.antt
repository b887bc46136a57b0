-- What a change of a channel in several parts leaves, where nothing forbids it.
use Rattle.mum_tree.proofs.Common.{◌≡◌, ℕ, ℤ, ◌<◌, ◌≤◌, ltb, ◌&&◌, not, Bool, true, false, cond, eqb, List, [], length, get_or, set, Option, Some, None, refl, ap, sym, ◌∙◌, subst, ⊎_elim, count_by, list_all, option_map_or, is_some, bytes_eq, and_parts, cases_Bool, cond_both, eqb-true, ltb-false, not-false, or_parts, bytes_eq-Decides, ChannelId, Channel, Row, TreeFault, NoChannel, LinkCount, Change, fault_of_edit, given_or, is_partner_after, name_after, names_there, overlinks, parent_after, renames_or_moves, with_change, with_given, AreLinks, IsProper, fault_of_placement, name_of, parent_of, number, row_of, is_there, Pair, TreeState, changed}
use Rattle.mum_tree.proofs.{Changed.change_row, Changed.row_of-map, Changed.some_from, Changed.some_to, Edits.informed, Edits.informed_proper, Edits.none_stands, Edits.row_read, Edits.set_row, Edits.some_is_none, Joined.links_kept, Joined.relinked, Moved.placed, Moved.placed_proper, Moved.same_change, Partners.links_after, Partners.links_fit}

-- where the first of two causes that applies is none, neither applies
neither : (one other : Option TreeFault) → option_map_or (λ fault. Some fault) one other ≡ None → (one ≡ None) × (other ≡ None)
neither None other e = (refl, e)
neither (Some fault) other e = absurd (some_is_none fault e)

-- what holds where a change is allowed
record Allows (tree : TreeState) (id : ChannelId) (change : Change) : Type 0 where
  there : is_there tree.channels id ≡ true
  above : is_there tree.channels (parent_after tree id change) ≡ true
  adds : list_all (is_there tree.channels) change.links_add ≡ true
  placement : cond (renames_or_moves tree id change) (fault_of_placement tree id (name_after tree id change) (parent_after tree id change)) None ≡ None
  links : overlinks tree id change ≡ false

allows : (tree : TreeState) (id : ChannelId) (change : Change) → fault_of_edit tree id change ≡ None → Allows tree id change
allows tree id change allowed =
    let rows = tree.channels in
    let a = is_there rows id in
    let b = is_there rows (parent_after tree id change) in
    let c = list_all (is_there rows) change.links_add in
    let d = list_all (is_there rows) change.links_remove in
    let (named, rest) = none_stands (not (names_there tree id change)) NoChannel _ allowed in
    let (placement, over) = neither (cond (renames_or_moves tree id change) (fault_of_placement tree id (name_after tree id change) (parent_after tree id change)) None) (cond (overlinks tree id change) (Some LinkCount) None) rest in
    let (links, end) = none_stands (overlinks tree id change) LinkCount None over in
    let all : (((a && b) && c) && d) ≡ true = not-false (names_there tree id change) named in
    let (abc, removes) = and_parts ((a && b) && c) d all in
    let (ab, adds) = and_parts (a && b) c abc in
    let (there, above) = and_parts a b ab in
    record { there = there; above = above; adds = adds; placement = placement; links = links }

-- what an allowed change names is there, and it leaves the channel no more partners than it may have
pub record MayRelink (tree : TreeState) (id : ChannelId) (change : Change) : Type 0 where
  pub here : is_there tree.channels id ≡ true
  pub adds : list_all (is_there tree.channels) change.links_add ≡ true
  pub removes : list_all (is_there tree.channels) change.links_remove ≡ true
  pub partners : count_by (λ row. is_partner_after tree id change row.channel.id) tree.channels ≤ 64

pub may_relink : (tree : TreeState) (id : ChannelId) (change : Change) → fault_of_edit tree id change ≡ None → MayRelink tree id change
may_relink tree id change allowed =
    let rows = tree.channels in
    let all = allows tree id change allowed in
    let named = (none_stands (not (names_there tree id change)) NoChannel _ allowed).0 in
    let removes = (and_parts ((is_there rows id && is_there rows (parent_after tree id change)) && list_all (is_there rows) change.links_add) (list_all (is_there rows) change.links_remove) (not-false (names_there tree id change) named)).1 in
    let few = (or_parts (ltb 64 (count_by (λ row. is_partner_after tree id change row.channel.id) rows)) _ all.links).0 in
    record { here = all.there; adds = all.adds; removes = removes; partners = ltb-false 64 (count_by (λ row. is_partner_after tree id change row.channel.id) rows) few }

-- the row of the channel with what is given
edited_rows : (tree : TreeState) (at : ℕ) (id : ChannelId) (row : Row) (change : Change) → IsProper tree → at < length tree.channels → row_of tree.channels id ≡ Some row → row ≡ get_or tree.channels at row → Allows tree id change → IsProper (record { channels = changed id (with_given change) tree.channels; links = tree.links; greatest = tree.greatest; limit = tree.limit })
edited_rows tree at id row change proper within found is allowed =
    let rows = tree.channels in
    let placement = with_given change row.channel in
    let name : name_of tree id ≡ row.channel.name = ap (λ (o : Option Row). option_map_or (λ r. r.channel.name) o []) found in
    let parent : parent_of tree id ≡ row.channel.parent = ap (λ (o : Option Row). option_map_or (λ r. r.channel.parent) o id) found in
    let name-2 : name_after tree id change ≡ placement.name = ap (given_or change.name) name in
    let parent-2 : parent_after tree id change ≡ placement.parent = ap (given_or change.parent) parent in
    let P : List Row → Type 0 = λ rs. IsProper (record { channels = rs; links = tree.links; greatest = tree.greatest; limit = tree.limit }) in
    ⊎_elim
    (λ (on : renames_or_moves tree id change ≡ true).
    let fault : fault_of_placement tree id (name_after tree id change) (parent_after tree id change) ≡ None =
    sym (ap (λ (b : Bool). cond b (fault_of_placement tree id (name_after tree id change) (parent_after tree id change)) None) on) ∙ allowed.placement in
    let none : fault_of_placement tree id placement.name placement.parent ≡ None = sym (ap (λ n. fault_of_placement tree id n (parent_after tree id change)) name-2 ∙ ap (fault_of_placement tree id placement.name) parent-2) ∙ fault in
    let stands : is_there rows placement.parent ≡ true = sym (ap (is_there rows) parent-2) ∙ allowed.above in
    subst P (same_change rows at id row (placed placement) (with_given change) proper.rise within found is refl) (placed_proper tree id placement row proper found stands none))
    (λ (off : renames_or_moves tree id change ≡ false).
    let (same, same-2) = or_parts (not (bytes_eq (name_after tree id change) (name_of tree id))) (not (eqb (parent_after tree id change).0 (parent_of tree id).0)) off in
    let one : placement.name ≡ row.channel.name = sym name-2 ∙ (bytes_eq-Decides (name_after tree id change) (name_of tree id)).0 (not-false _ same) ∙ name in
    let two : placement.parent ≡ row.channel.parent = sym parent-2 ∙ ap (λ n. record { 0 = n }) (eqb-true (parent_after tree id change).0 (parent_of tree id).0 (not-false _ same-2)) ∙ parent in
    let whole : informed placement.info row.channel ≡ with_given change row.channel =
    ap (λ n. record row.channel { name = n; info = placement.info }) (sym one) ∙ ap (λ p. record row.channel { name = placement.name; parent = p; info = placement.info }) (sym two) in
    subst P (same_change rows at id row (informed placement.info) (with_given change) proper.rise within found is whole) (informed_proper tree id placement.info proper))
    (cases_Bool (renames_or_moves tree id change))

-- what is given leaves each row its number
number_given : (id : ChannelId) (change : Change) (row : Row) → number (change_row id (with_given change) row) ≡ number row
number_given id change row = cond_both (eqb (number row) id.0) (record row { channel = with_given change row.channel }) row (λ r. number r ≡ number row) (λ e. refl) (λ e. refl)

-- what was there is there with what is given
pub still_given : (rows : List Row) (id : ChannelId) (change : Change) (x : ChannelId) → is_there rows x ≡ true → is_there (changed id (with_given change) rows) x ≡ true
still_given rows id change x there =
    subst (λ (o : Option Row). is_some o ≡ true) (sym (row_of-map (change_row id (with_given change)) (number_given id change) rows x)) (some_to (change_row id (with_given change)) (row_of rows x) there)

-- and what is there was there
pub was_given : (rows : List Row) (id : ChannelId) (change : Change) (x : ChannelId) → is_there (changed id (with_given change) rows) x ≡ true → is_there rows x ≡ true
was_given rows id change x there =
    some_from (change_row id (with_given change)) (row_of rows x) (subst (λ (o : Option Row). is_some o ≡ true) (row_of-map (change_row id (with_given change)) (number_given id change) rows x) there)

-- what the code leaves is what the definition says, and a tree
pub edited : (tree : TreeState) (seen : List Row) (at : ℕ) (id : ChannelId) (row : Row) (channel : Channel) (change : Change) (links : List Pair) → IsProper tree → seen ≡ tree.channels → (at < length seen) × ((other : Row) → row_of seen id ≡ Some (get_or seen at other)) → row ≡ get_or tree.channels at row → fault_of_edit tree id change ≡ None → channel ≡ with_given change row.channel → links ≡ links_after tree id change → (record { channels = set tree.channels at (record row { channel = channel }); links = links; greatest = tree.greatest; limit = tree.limit } ≡ with_change tree id change) × IsProper (with_change tree id change)
edited tree seen at id row channel change links proper same located is allowed made linked =
    let rows = tree.channels in
    let (within, finds) = subst (λ (rs : List Row). (at < length rs) × ((other : Row) → row_of rs id ≡ Some (get_or rs at other))) same located in
    let found : row_of rows id ≡ Some row = row_read rows at id row finds is in
    let all = allows tree id change allowed in
    let new = changed id (with_given change) rows in
    let fit : AreLinks rows (links_after tree id change) = links_fit tree id change proper.rise proper.joined all.there all.adds all.links in (
      ap (λ (ps : List Pair). record { channels = set rows at (record row { channel = channel }); links = ps; greatest = tree.greatest; limit = tree.limit }) linked
          ∙ ap (λ (ch : Channel). record { channels = set rows at (record row { channel = ch }); links = links_after tree id change; greatest = tree.greatest; limit = tree.limit }) made
          ∙ ap (λ (rs : List Row). record { channels = rs; links = links_after tree id change; greatest = tree.greatest; limit = tree.limit }) (set_row rows at id row (with_given change) proper.rise within found is),
      relinked (record { channels = new; links = tree.links; greatest = tree.greatest; limit = tree.limit }) (links_after tree id change) (links_kept rows new (links_after tree id change) (still_given rows id change) fit) (edited_rows tree at id row change proper within found is all),
    )

-- a channel whose parts are set one after the other
pub same_given : (change : Change) (channel : Channel) (name : List ℕ) (parent : ChannelId) (description : List ℕ) (position : ℤ) (max_users : ℕ) → name ≡ given_or change.name channel.name → parent ≡ given_or change.parent channel.parent → description ≡ given_or change.description channel.info.description → position ≡ given_or change.position channel.info.position → max_users ≡ given_or change.max_users channel.info.max_users → record channel { name = name; parent = parent; info = record { description = description; position = position; max_users = max_users } } ≡ with_given change channel
same_given change channel name parent description position max_users one two three four five = rw (one, two, three, four, five) refl
