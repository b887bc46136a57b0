-- Without the temporary channels that are emptied a state stays proper.
use Rattle.mum_state.proofs.Common.{◌≡◌, ◌≢◌, ℕ, zero, suc, ◌<◌, ◌≤◌, ◌&&◌, not, Bool, true, false, cond, eqb, List, [], ◌∷◌, get_or, refl, sym, ap, subst, ◌∙◌, arith, Option, Some, is_some, ⊎_elim, Contains, All, filter, list_all, option_map_or, and_from, and_parts, both_ways, cases_Bool, eq-eqb, ne_eqb, All-filter, list_any_at, AllPairs-filter, length-filter, count_by-le-length, same_Some, ChannelId, Row, AreLinks, IsProperTree, IsUnderLasting, LeadUp, Rise, is_temporary, is_there, number, row_of, upward, Pair, TreeState, without_rows, number_found, row_of_at, links_filtered, filter_agree_at, kept_row, there_after, lead_parent, the_root, there_from_lead, upward_root, upward_under, upward_zero, User, is_in, has_member, is_emptied, without_emptied, IsProper, with_tree, StateValue}
use Rattle.mum_tree.specs.Proper.{AreApart}
use Rattle.mum_state.proofs.{Gone.rows_of, Gone.there_of, Listed.all_at, Listed.all_from, Parted.cut}

-- what holds of each row holds of the one that is found
pub found_row_holds : (P : Row → Type 0) (rows : List Row) (id : ChannelId) (row : Row) → All P rows → row_of rows id ≡ Some row → P row
found_row_holds P [] id row all found = cc
found_row_holds P (first ∷ rows) id row all found = step (eqb (number first) id.0) refl (found_row_holds P rows id row (λ k d within. all (suc k) d (omega arith)))
  where
    choice : (b : Bool) → eqb (number first) id.0 ≡ b → cond b (Some first) (row_of rows id) ≡ Some row
    choice b is = sym (ap (λ (x : Bool). cond x (Some first) (row_of rows id)) is) ∙ found

    step : (b : Bool) → eqb (number first) id.0 ≡ b → (row_of rows id ≡ Some row → P row) → P row
    step true is rest = subst P (same_Some first row (choice true is)) (all 0 first (omega arith))
    step false is rest = rest (choice false is)

-- ---- channels that stay, each with its parent

-- the root stays, and with a channel its parent
pub record AreClosed (rows : List Row) (stays : ChannelId → Bool) : Type 0 where
  pub root : stays the_root ≡ true
  pub above : (id : ChannelId) (row : Row) → row_of rows id ≡ Some row → eqb id.0 0 ≡ false → stays row.channel.parent ≡ true

same_id : (rows : List Row) (id : ChannelId) (row : Row) → row_of rows id ≡ Some row → row.channel.id ≡ id
same_id rows id row found = ap (λ n. record { 0 = n }) (number_found rows id row found)

still_found : (stays : ChannelId → Bool) (rows : List Row) (id : ChannelId) (row : Row) → row_of rows id ≡ Some row → stays id ≡ true → row_of (rows_of stays rows) id ≡ Some row
still_found stays rows id row found stay = kept_row (λ one. stays one.channel.id) rows id row found (ap stays (same_id rows id row found) ∙ stay)

pub up_of : (rows : List Row) (stays : ChannelId → Bool) → AreClosed rows stays → (steps : ℕ) (id : ChannelId) → Contains (upward rows steps id) the_root → stays id ≡ true → upward (rows_of stays rows) steps id ≡ upward rows steps id
up_of rows stays closed zero id lead stay = upward_zero (rows_of stays rows) id ∙ sym (upward_zero rows id)
up_of rows stays closed (suc steps) id lead stay =
    let (row, found) = there_from_lead rows (suc steps) id lead in
    let after = still_found stays rows id row found stay in
    ⊎_elim
    (λ (root : eqb id.0 0 ≡ true). upward_root (rows_of stays rows) steps id row after root ∙ sym (upward_root rows steps id row found root))
    (λ (under : eqb id.0 0 ≡ false).
    upward_under (rows_of stays rows) steps id row after under
    ∙ ap (λ us. id ∷ us) (up_of rows stays closed steps row.channel.parent (lead_parent rows steps id row found under lead) (closed.above id row found under))
    ∙ sym (upward_under rows steps id row found under))
    (cases_Bool (eqb id.0 0))

lead_of : (rows : List Row) (stays : ChannelId → Bool) → AreClosed rows stays → Rise rows → LeadUp rows → LeadUp (rows_of stays rows)
lead_of rows stays closed rise lead id there =
    let (row, found, stay) = there_after (λ one. stays one.channel.id) rows id rise there in
    let before = lead id (ap is_some found) in
    subst (λ (us : List ChannelId). Contains us the_root) (sym (up_of rows stays closed 33 id before (ap stays (sym (same_id rows id row found)) ∙ stay))) before

lasting_of : (rows : List Row) (stays : ChannelId → Bool) → AreClosed rows stays → Rise rows → LeadUp rows → All (IsUnderLasting rows) rows → All (IsUnderLasting (rows_of stays rows)) (rows_of stays rows)
lasting_of rows stays closed rise lead lasting =
    All-filter (λ one. stays one.channel.id) (IsUnderLasting (rows_of stays rows)) rows
    (λ j e inside lower.
    let one : Row = get_or rows j e in
    let id : ChannelId = one.channel.id in
    let found : row_of rows id ≡ Some one = row_of_at rows j e id rise inside refl in
    let under : eqb id.0 0 ≡ false = ne_eqb id.0 0 lower in
    let above = there_from_lead rows 32 one.channel.parent (lead_parent rows 32 id one found under (lead id (ap is_some found))) in
    ap (λ (o : Option Row). option_map_or (λ r. r.channel.temporary) o false) (still_found stays rows one.channel.parent above.0 above.1 (closed.above id one found under) ∙ sym above.1)
    ∙ lasting j e inside lower)

links_of : (rows kept : List Row) (links : List Pair) → AreLinks rows links → AreLinks kept (filter (λ pair. is_there kept pair.0 && is_there kept pair.1) links)
links_of rows kept links are =
    links_filtered (λ pair. is_there kept pair.0 && is_there kept pair.1) rows kept links
    (λ pair passes. let (here, there) = and_parts (is_there kept pair.0) (is_there kept pair.1) passes in and_from (is_there kept pair.1) (is_there kept pair.0) there here)
    (λ pair passes is. let (here, there) = and_parts (is_there kept pair.0) (is_there kept pair.1) passes in (here, there, is.2))
    are

pub closed_proper : (tree : TreeState) (stays : ChannelId → Bool) → AreClosed tree.channels stays → IsProperTree tree → IsProperTree (without_rows tree (rows_of stays tree.channels))
closed_proper tree stays closed proper =
    let rows : List Row = tree.channels in
    let q : Row → Bool = λ row. stays row.channel.id in
    let (root, found, is) = proper.root in
    record {
      rise = AllPairs-filter (λ one later. number one < number later) q rows proper.rise;
      root = (root, still_found stays rows the_root root found closed.root, is);
      lead = lead_of rows stays closed proper.rise proper.lead;
      apart = AllPairs-filter AreApart q rows proper.apart;
      lasting = lasting_of rows stays closed proper.rise proper.lead proper.lasting;
      places_fit = All-filter q (λ one. one.place < tree.limit) rows proper.places_fit;
      places_apart = AllPairs-filter (λ one other. one.place ≢ other.place) q rows proper.places_apart;
      few = omega (arith, length-filter q rows, count_by-le-length q rows, proper.few);
      known = All-filter q (λ one. number one ≤ tree.greatest) rows proper.known;
      joined = links_of rows (rows_of stays rows) tree.links proper.joined;
      limited = proper.limited;
    }

-- ---- channels that are not emptied

-- the channel is temporary, somebody was in it, and nobody is
abbrev pub is_left : List User → List User → List Row → ChannelId → Bool
is_left before after rows id = is_temporary rows id && has_member before id && not (has_member after id)

abbrev pub is_kept : List User → List User → List Row → ChannelId → Bool
is_kept before after rows id = not (is_left before after rows id)

-- the rows that are not emptied are those of channels that are not left
pub rows_not_left : (before after : List User) (rows : List Row) → Rise rows → filter (λ row. not (is_emptied before after row)) rows ≡ rows_of (is_kept before after rows) rows
rows_not_left before after rows rise =
    filter_agree_at (λ row. not (is_emptied before after row)) (λ row. is_kept before after rows row.channel.id) rows
    (λ k d within.
    let row : Row = get_or rows k d in
    let kind : is_temporary rows row.channel.id ≡ row.channel.temporary = ap (λ (o : Option Row). option_map_or (λ r. r.channel.temporary) o false) (row_of_at rows k d row.channel.id rise within refl) in
    ap (λ b. not (b && has_member before row.channel.id && not (has_member after row.channel.id))) (sym kind))

kept_lasting : (before after : List User) (rows : List Row) (id : ChannelId) → is_temporary rows id ≡ false → is_kept before after rows id ≡ true
kept_lasting before after rows id lasts = ap (λ b. not (b && has_member before id && not (has_member after id))) lasts

pub kept_closed : (before after : List User) (tree : TreeState) → IsProperTree tree → AreClosed tree.channels (is_kept before after tree.channels)
kept_closed before after tree proper =
    let rows : List Row = tree.channels in
    let (root, found, is) = proper.root in
    record {
      root = kept_lasting before after rows the_root (ap (λ (o : Option Row). option_map_or (λ r. r.channel.temporary) o false) found ∙ is.3);
      above = λ id row seen under.
          kept_lasting before after rows row.channel.parent
          (found_row_holds (IsUnderLasting rows) rows id row proper.lasting seen
          (λ (zero_is : number row ≡ 0). both_ways (eqb id.0 0) under (eq-eqb id.0 0 (sym (number_found rows id row seen) ∙ zero_is))));
    }

and_not : (a b c : Bool) → c ≡ true → not (a && b && not c) ≡ true
and_not true true c on = ap (λ (x : Bool). not (not x)) on
and_not true false c on = refl
and_not false b c on = refl

-- whoever is in a channel keeps it
pub inside_kept : (before after : List User) (rows : List Row) → list_all (λ user. is_there rows user.channel) after ≡ true → list_all (λ user. is_there (rows_of (is_kept before after rows) rows) user.channel) after ≡ true
inside_kept before after rows inside =
    all_from (λ user. is_there (rows_of (is_kept before after rows) rows) user.channel) after
    (λ k d within.
    let user : User = get_or after k d in
    let member : has_member after user.channel ≡ true = list_any_at (is_in user.channel) after k d within (eq-eqb user.channel.0 user.channel.0 refl) in
    there_of (is_kept before after rows) rows user.channel
    ∙ ap (λ b. b && is_kept before after rows user.channel) (all_at (λ one. is_there rows one.channel) after inside k d within)
    ∙ and_not (is_temporary rows user.channel) (has_member before user.channel) (has_member after user.channel) member)

pub emptied_proper : (before state : StateValue) → IsProper state → IsProper (without_emptied before state)
emptied_proper before state proper =
    let was : List User = before.roster.sessions in
    let now : List User = state.roster.sessions in
    let rows : List Row = state.tree.channels in
    let stays : ChannelId → Bool = is_kept was now rows in
    subst (λ (kept : List Row). IsProper (with_tree state (without_rows state.tree kept))) (sym (rows_not_left was now rows proper.tree.rise))
    (cut state stays proper (closed_proper state.tree stays (kept_closed was now state.tree proper.tree) proper.tree) (inside_kept was now rows proper.inside))
