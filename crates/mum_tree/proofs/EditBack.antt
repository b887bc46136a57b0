-- What a change of a channel leaves is a tree exactly where nothing forbids it.
use Rattle.mum_tree.proofs.Common.{◌≡◌, ◌≢◌, ℕ, ◌<◌, ◌&&◌, Bool, true, false, not, cond, eqb, List, [], length, get_or, Option, Some, None, refl, ap, sym, ◌∙◌, subst, ⊎_elim, ◌↔◌, list_all, option_map_or, bytes_eq, and_from, and_parts, both_ways, cases_Bool, cond_both, eq-eqb, eqb-true, or_from, bytes_eq-Decides, ChannelId, Row, NoChannel, SameName, RootFixed, LinkCount, Change, fault_of_edit, given_or, name_after, names_there, overlinks, parent_after, renames_or_moves, with_change, with_given, AreLinks, IsProper, fault_of_move, fault_of_rename, fault_of_placement, name_of, parent_of, row_of, is_taken, is_there, TreeState, changed, with_channel, with_name, with_parent}
use Rattle.mum_tree.proofs.{Closure.row_stands, Edited.edited, Edited.still_given, Edited.was_given, Edits.named, Edits.renaming, Edits.some_row, Joined.links_kept, Joined.relinked, Moved.moving, Moved.placed, Moved.same_change, Moved.under_parent, Partners.fits_back, Partners.links_after, PlacementBack.name_free, PlacementBack.root_fixed, PlacementBack.placement_allowed}

-- a name and a parent that stay are no other
stays_placed : (tree : TreeState) (id : ChannelId) (change : Change) → name_after tree id change ≡ name_of tree id → parent_after tree id change ≡ parent_of tree id → renames_or_moves tree id change ≡ false
stays_placed tree id change name parent =
    or_from (not (bytes_eq (name_after tree id change) (name_of tree id))) (not (eqb (parent_after tree id change).0 (parent_of tree id).0))
    (ap not ((bytes_eq-Decides (name_after tree id change) (name_of tree id)).1 name))
    (ap not (eq-eqb (parent_after tree id change).0 (parent_of tree id).0 (ap (λ (x : ChannelId). x.0) parent)))

-- where neither the name and the parent nor the links are refused, nothing is
allowed_by : (tree : TreeState) (id : ChannelId) (change : Change) → names_there tree id change ≡ true → cond (renames_or_moves tree id change) (fault_of_placement tree id (name_after tree id change) (parent_after tree id change)) None ≡ None → overlinks tree id change ≡ false → fault_of_edit tree id change ≡ None
allowed_by tree id change there placement links =
    let places_apart = cond (renames_or_moves tree id change) (fault_of_placement tree id (name_after tree id change) (parent_after tree id change)) None in
    let over = cond (overlinks tree id change) (Some LinkCount) None in
    ap (λ (b : Bool). cond (not b) (Some NoChannel) (option_map_or (λ fault. Some fault) places_apart over)) there
    ∙ ap (λ s. option_map_or (λ fault. Some fault) s over) placement
    ∙ ap (λ (b : Bool). cond b (Some LinkCount) None) links

-- nothing forbids the name and the parent that a change left
placement_back : (tree : TreeState) (at : ℕ) (id : ChannelId) (row : Row) (change : Change) → IsProper tree → at < length tree.channels → row_of tree.channels id ≡ Some row → row ≡ get_or tree.channels at row → is_there tree.channels (parent_after tree id change) ≡ true → IsProper (with_channel tree id (with_given change)) → cond (renames_or_moves tree id change) (fault_of_placement tree id (name_after tree id change) (parent_after tree id change)) None ≡ None
placement_back tree at id row change proper within found is above after =
    let rows = tree.channels in
    let placement = with_given change row.channel in
    let name : name_of tree id ≡ row.channel.name = ap (λ (o : Option Row). option_map_or (λ r. r.channel.name) o []) found in
    let parent : parent_of tree id ≡ row.channel.parent = ap (λ (o : Option Row). option_map_or (λ r. r.channel.parent) o id) found in
    let name-2 : name_after tree id change ≡ placement.name = ap (given_or change.name) name in
    let parent-2 : parent_after tree id change ≡ placement.parent = ap (given_or change.parent) parent in
    let fault = fault_of_placement tree id (name_after tree id change) (parent_after tree id change) in
    let moved : IsProper (with_channel tree id (placed placement)) = subst (λ (rs : List Row). IsProper (record tree { channels = rs })) (same_change rows at id row (with_given change) (placed placement) proper.rise within found is refl) after in
    ⊎_elim
    (λ (root : eqb id.0 0 ≡ true).
    let (one, two) = root_fixed tree id placement row proper found moved (eqb-true id.0 0 root) in
    ap (λ (b : Bool). cond b fault None) (stays_placed tree id change (name-2 ∙ one ∙ sym name) (parent-2 ∙ two ∙ sym parent)))
    (λ (lower : eqb id.0 0 ≡ false).
    let stands : is_there rows placement.parent ≡ true = ap (is_there rows) (sym parent-2) ∙ above in
    let none : fault_of_placement tree id placement.name placement.parent ≡ None = placement_allowed tree id placement row proper found stands (λ (e : id.0 ≡ 0). both_ways (eqb id.0 0) lower (eq-eqb id.0 0 e)) moved in
    let free : fault ≡ None = ap (λ n. fault_of_placement tree id n (parent_after tree id change)) name-2 ∙ ap (fault_of_placement tree id placement.name) parent-2 ∙ none in
    cond_both (renames_or_moves tree id change) fault None (λ f. f ≡ None) (λ e. free) (λ e. refl))
    (cases_Bool (eqb id.0 0))

-- a channel that is there, its row, and where the row is
row_there : (rows : List Row) (id : ChannelId) → is_there rows id ≡ true → (row : Row) × (row_of rows id ≡ Some row) × ((at : ℕ) × (at < length rows) × ((d : Row) → get_or rows at d ≡ row))
row_there rows id there = let (row, found) = some_row (row_of rows id) there in (row, found, row_stands rows id row found)

-- after a change a tree is a tree exactly where nothing forbids it
pub edits_both_ways : (tree : TreeState) (id : ChannelId) (change : Change) → IsProper tree → names_there tree id change ≡ true → (fault_of_edit tree id change ≡ None) ↔ IsProper (with_change tree id change)
edits_both_ways tree id change proper named =
    let rows = tree.channels in
    let a = is_there rows id in
    let b = is_there rows (parent_after tree id change) in
    let c = list_all (is_there rows) change.links_add in
    let (abc, removes) = and_parts ((a && b) && c) (list_all (is_there rows) change.links_remove) named in
    let (ab, adds) = and_parts (a && b) c abc in
    let (there, above) = and_parts a b ab in
    let (row, found, (at, within, reads)) = row_there rows id there in
    let is : row ≡ get_or rows at row = sym (reads row) in
    let new = changed id (with_given change) rows in (
      λ allowed. (edited tree rows at id row (with_given change row.channel) change (links_after tree id change) proper refl (within, λ other. found ∙ ap (λ (r : Row). Some r) (sym (reads other))) is allowed refl refl).1,
      λ after.
          let links : AreLinks rows (links_after tree id change) = links_kept new rows (links_after tree id change) (was_given rows id change) after.joined in
          let plain : IsProper (with_channel tree id (with_given change)) = relinked (with_change tree id change) tree.links (links_kept rows new tree.links (still_given rows id change) proper.joined) after in
          allowed_by tree id change named
          (placement_back tree at id row change proper within found is above plain)
          (fits_back tree id change proper.rise proper.joined there adds links),
    )

-- with another name of a channel that is not the root a tree is a tree exactly where nothing forbids it
pub renames_both_ways : (tree : TreeState) (id : ChannelId) (name : List ℕ) → IsProper tree → is_there tree.channels id ≡ true → eqb id.0 0 ≡ false → (fault_of_rename tree id name ≡ None) ↔ IsProper (with_name tree id name)
renames_both_ways tree id name proper there under =
    let rows = tree.channels in
    let (row, found, (at, within, reads)) = row_there rows id there in
    let is : row ≡ get_or rows at row = sym (reads row) in
    let placement = named name row.channel in
    let taken = is_taken rows (parent_of tree id) id name in
    let parent : parent_of tree id ≡ row.channel.parent = ap (λ (o : Option Row). option_map_or (λ r. r.channel.parent) o id) found in
    let lower : id.0 ≢ 0 = λ (e : id.0 ≡ 0). both_ways (eqb id.0 0) under (eq-eqb id.0 0 e) in (
      λ allowed. (renaming tree rows at id row name name proper refl (within, λ other. found ∙ ap (λ (r : Row). Some r) (sym (reads other))) is allowed refl).1,
      λ after.
          let moved : IsProper (with_channel tree id (placed placement)) = subst (λ (rs : List Row). IsProper (record tree { channels = rs })) (same_change rows at id row (named name) (placed placement) proper.rise within found is refl) after in
          let free : taken ≡ false = ap (λ p. is_taken rows p id name) parent ∙ name_free rows id placement row found lower moved.apart in
          ap (λ (b : Bool). cond (not b) (Some NoChannel) (cond (eqb id.0 0) (Some RootFixed) (cond taken (Some SameName) None))) there
          ∙ ap (λ (b : Bool). cond b (Some RootFixed) (cond taken (Some SameName) None)) under
          ∙ ap (λ (b : Bool). cond b (Some SameName) None) free,
    )

-- with another parent of it too
pub moves_both_ways : (tree : TreeState) (id parent : ChannelId) → IsProper tree → is_there tree.channels id ≡ true → is_there tree.channels parent ≡ true → eqb id.0 0 ≡ false → (fault_of_move tree id parent ≡ None) ↔ IsProper (with_parent tree id parent)
moves_both_ways tree id parent proper here there under =
    let rows = tree.channels in
    let (row, found, (at, within, reads)) = row_there rows id here in
    let is : row ≡ get_or rows at row = sym (reads row) in
    let placement = under_parent parent row.channel in
    let name : name_of tree id ≡ row.channel.name = ap (λ (o : Option Row). option_map_or (λ r. r.channel.name) o []) found in
    let lower : id.0 ≢ 0 = λ (e : id.0 ≡ 0). both_ways (eqb id.0 0) under (eq-eqb id.0 0 e) in (
      λ allowed. (moving tree rows at id parent row proper refl (within, λ other. found ∙ ap (λ (r : Row). Some r) (sym (reads other))) is allowed).1,
      λ after.
          let moved : IsProper (with_channel tree id (placed placement)) = subst (λ (rs : List Row). IsProper (record tree { channels = rs })) (same_change rows at id row (under_parent parent) (placed placement) proper.rise within found is refl) after in
          ap (λ (b : Bool). cond (not b) (Some NoChannel) (fault_of_placement tree id (name_of tree id) parent)) (and_from (is_there rows id) (is_there rows parent) here there)
          ∙ ap (λ n. fault_of_placement tree id n parent) name
          ∙ placement_allowed tree id placement row proper found there lower moved,
    )
