-- A change of one channel that keeps its number and place.
use Rattle.mum_tree.proofs.Common.{◌≡◌, ◌≢◌, ℕ, zero, suc, ◌<◌, ◌≤◌, Bool, true, false, cond, eqb, List, [], ◌∷◌, length, get_or, set, map, Option, Some, None, refl, arith, ap, sym, ◌∙◌, subst, ⊎_elim, IsTrue, All, AllPairs, Contains, list_any, option_map, option_map_or, is_some, eqb-true, eq-eqb, ne_eqb, cases_Bool, cond_both, or_parts, and_from, not_from_false, get_or-map, length-map, All-map, All-weaker, same_Some, bytes_eq-Decides, ChannelId, Channel, Row, number, row_of, is_there, is_temporary, has_name_beside, Rise, AreApart, IsProper, IsUnderLasting, LeadUp, TreeState, changed}
use Rattle.mum_tree.proofs.{Find.AllPairs-tail, Upward.the_root, Upward.KeepParents, Upward.upward_kept, Joined.links_kept}

-- the row that is found has the number
pub number_found : (rows : List Row) (id : ChannelId) (row : Row) → row_of rows id ≡ Some row → number row ≡ id.0
number_found [] id row found = cc
number_found (first ∷ rows) id row found =
    ⊎_elim
    (λ (e : eqb (number first) id.0 ≡ true).
    let same : first ≡ row = same_Some first row (subst (λ (b : Bool). cond b (Some first) (row_of rows id) ≡ Some row) e found) in
    ap number (sym same) ∙ eqb-true (number first) id.0 e)
    (λ (e : eqb (number first) id.0 ≡ false). number_found rows id row (subst (λ (b : Bool). cond b (Some first) (row_of rows id) ≡ Some row) e found))
    (cases_Bool (eqb (number first) id.0))

-- what a change leaves of each row
abbrev pub change_row : ChannelId → (Channel → Channel) → Row → Row
change_row id change row = cond (eqb (number row) id.0) (record row { channel = change row.channel }) row

-- a change of no row
pub changed_none : (rows : List Row) (id : ChannelId) (change : Channel → Channel) → ((k : ℕ) (d : Row) → k < length rows → number (get_or rows k d) ≡ id.0 → ⊥) → changed id change rows ≡ rows
changed_none [] id change none = refl
changed_none (row ∷ rows) id change none =
    rw (ne_eqb (number row) id.0 (λ (e : number row ≡ id.0). none 0 row (omega arith) e))
    (ap (λ rest. row ∷ rest) (changed_none rows id change (λ k d within same. none (suc k) d (omega arith) same)))

-- a write of the row at its place is the change
pub set_changed : (rows : List Row) (i : ℕ) (d : Row) (id : ChannelId) (change : Channel → Channel) → Rise rows → i < length rows → number (get_or rows i d) ≡ id.0 → set rows i (record (get_or rows i d) { channel = change (get_or rows i d).channel }) ≡ changed id change rows
set_changed [] i d id change rise within same = absurd (omega arith)
set_changed (row ∷ rows) zero d id change rise within same =
    rw (eq-eqb (number row) id.0 same)
    (ap (λ rest. record row { channel = change row.channel } ∷ rest)
    (sym (changed_none rows id change (λ k e inside again.
    let less : number row < number (get_or rows k e) = rise 0 (suc k) e (omega arith) (omega arith) in
    absurd (omega arith)))))
set_changed (row ∷ rows) (suc i) d id change rise within same =
    let less : number row < number (get_or rows i d) = rise 0 (suc i) d (omega arith) within in
    rw (ne_eqb (number row) id.0 (λ (e : number row ≡ id.0). absurd (omega arith)))
    (ap (λ rest. row ∷ rest) (set_changed rows i d id change (AllPairs-tail (λ row later. number row < number later) row rows rise) (omega arith) same))

-- a map that keeps numbers finds the same channels
pub row_of-map : (f : Row → Row) → ((row : Row) → number (f row) ≡ number row) → (rows : List Row) (id : ChannelId) → row_of (map f rows) id ≡ option_map f (row_of rows id)
row_of-map f keeps [] id = refl
row_of-map f keeps (row ∷ rows) id =
    let choice : Bool → Option Row = λ b. cond b (Some (f row)) (row_of (map f rows) id) in
    let same : row_of (map f (row ∷ rows)) id ≡ choice (eqb (number row) id.0) = ap (λ n. choice (eqb n id.0)) (keeps row) in
    let at : (b : Bool) → eqb (number row) id.0 ≡ b → choice (eqb (number row) id.0) ≡ choice b = λ b e. ap choice e in
    ⊎_elim
    (λ (e : eqb (number row) id.0 ≡ true). same ∙ at true e ∙ sym (ap (λ (b : Bool). option_map f (cond b (Some row) (row_of rows id))) e))
    (λ (e : eqb (number row) id.0 ≡ false). same ∙ at false e ∙ row_of-map f keeps rows id ∙ sym (ap (λ (b : Bool). option_map f (cond b (Some row) (row_of rows id))) e))
    (cases_Bool (eqb (number row) id.0))

-- what holds of each pair of rows, where the map keeps it
pub AllPairs-map : {X Y : Type 0} (R : X → X → Type 0) (S : Y → Y → Type 0) (f : X → Y) (xs : List X) → ((i j : ℕ) (d : X) → i < j → j < length xs → R (get_or xs i d) (get_or xs j d) → S (f (get_or xs i d)) (f (get_or xs j d))) → AllPairs R xs → AllPairs S (map f xs)
AllPairs-map R S f [] keeps pairs i j d below within = absurd (omega arith)
AllPairs-map R S f (x ∷ xs) keeps pairs i j d below within =
    let inside : j < length (x ∷ xs) = omega (arith, length-map (x ∷ xs) f) in
    let near : i < length (x ∷ xs) = omega arith in
    rw (get_or-map f (x ∷ xs) i x d near, get_or-map f (x ∷ xs) j x d inside) (keeps i j x below inside (pairs i j x below inside))

-- where no row passes, none does
pub none_passes : (p : Row → Bool) (rows : List Row) → list_any p rows ≡ false → (k : ℕ) (d : Row) → k < length rows → p (get_or rows k d) ≡ false
none_passes p [] none k d within = absurd (omega arith)
none_passes p (row ∷ rows) none zero d within = (or_parts (p row) (list_any p rows) none).0
none_passes p (row ∷ rows) none (suc k) d within = none_passes p rows (or_parts (p row) (list_any p rows) none).1 k d (omega arith)

pub stands_beside : (parent id : ChannelId) (name : List ℕ) (row : Row) → number row ≢ 0 → row.channel.parent.0 ≡ parent.0 → number row ≢ id.0 → row.channel.name ≡ name → has_name_beside parent id name row ≡ true
stands_beside parent id name row lower under other same =
    and_from _ _
    (and_from _ _ (and_from _ _ (not_from_false (eqb (number row) 0) (ne_eqb (number row) 0 lower)) (eq-eqb row.channel.parent.0 parent.0 under)) (not_from_false (eqb (number row) id.0) (ne_eqb (number row) id.0 other)))
    ((bytes_eq-Decides row.channel.name name).1 same)

-- what keeps the number, the place, the parent and the kind of each row
pub record KeepsPlaces (f : Row → Row) : Type 0 where
  pub numbers : (row : Row) → number (f row) ≡ number row
  pub places : (row : Row) → (f row).place ≡ row.place
  pub parents : (row : Row) → (f row).channel.parent ≡ row.channel.parent
  pub kinds : (row : Row) → (f row).channel.temporary ≡ row.channel.temporary
  pub root_name : (row : Row) → number row ≡ 0 → (f row).channel.name ≡ row.channel.name

pub is_temporary-map : (f : Row → Row) → ((row : Row) → (f row).channel.temporary ≡ row.channel.temporary) → (found : Option Row) → option_map_or (λ row. row.channel.temporary) (option_map f found) false ≡ option_map_or (λ row. row.channel.temporary) found false
is_temporary-map f kinds None = refl
is_temporary-map f kinds (Some row) = kinds row

pub some_from : (f : Row → Row) (found : Option Row) → is_some (option_map f found) ≡ true → is_some found ≡ true
some_from f None there = there
some_from f (Some row) there = refl

pub some_to : (f : Row → Row) (found : Option Row) → is_some found ≡ true → is_some (option_map f found) ≡ true
some_to f None there = there
some_to f (Some row) there = refl

parents_kept : (f : Row → Row) → KeepsPlaces f → (rows : List Row) → KeepParents rows (map f rows)
parents_kept f keeps rows id row found = (f row, row_of-map f keeps.numbers rows id ∙ ap (option_map f) found, keeps.parents row)

map_lead : (f : Row → Row) → KeepsPlaces f → (rows : List Row) → LeadUp rows → LeadUp (map f rows)
map_lead f keeps rows lead id there =
    let before : IsTrue (is_there rows id) = some_from f (row_of rows id) (subst (λ (found : Option Row). is_some found ≡ true) (row_of-map f keeps.numbers rows id) there) in
    subst (λ (us : List ChannelId). Contains us the_root) (sym (upward_kept rows (map f rows) (parents_kept f keeps rows) 33 id (lead id before))) (lead id before)

map_lasting : (f : Row → Row) → KeepsPlaces f → (rows : List Row) → All (IsUnderLasting rows) rows → All (IsUnderLasting (map f rows)) (map f rows)
map_lasting f keeps rows lasting =
    All-map (IsUnderLasting (map f rows)) f rows
    (All-weaker (IsUnderLasting rows) (λ row. IsUnderLasting (map f rows) (f row))
    (λ row under lower.
    let was : is_temporary rows row.channel.parent ≡ false = under (λ (e : number row ≡ 0). lower (keeps.numbers row ∙ e)) in
    ap (λ parent. is_temporary (map f rows) parent) (keeps.parents row)
    ∙ ap (λ (found : Option Row). option_map_or (λ other. other.channel.temporary) found false) (row_of-map f keeps.numbers rows row.channel.parent)
    ∙ is_temporary-map f keeps.kinds (row_of rows row.channel.parent)
    ∙ was)
    rows lasting)

-- a change that keeps places keeps the tree, where names stay apart
pub map_proper : (tree : TreeState) (f : Row → Row) → KeepsPlaces f → AllPairs AreApart (map f tree.channels) → IsProper tree → IsProper (record { channels = map f tree.channels; links = tree.links; greatest = tree.greatest; limit = tree.limit })
map_proper tree f keeps apart proper =
    let rows = tree.channels in
    let (row, found, (place, parent, name, kind)) = proper.root in
    record {
      rise = AllPairs-map (λ one later. number one < number later) (λ one later. number one < number later) f rows (λ i j d below within less. rw (keeps.numbers (get_or rows i d), keeps.numbers (get_or rows j d)) less) proper.rise;
      root = (f row, row_of-map f keeps.numbers rows the_root ∙ ap (option_map f) found, (keeps.places row ∙ place, ap (λ (x : ChannelId). x.0) (keeps.parents row) ∙ parent, keeps.root_name row (number_found rows the_root row found) ∙ name, keeps.kinds row ∙ kind));
      lead = map_lead f keeps rows proper.lead;
      apart = apart;
      lasting = map_lasting f keeps rows proper.lasting;
      places_fit = All-map (λ one. one.place < tree.limit) f rows (All-weaker (λ one. one.place < tree.limit) (λ one. (f one).place < tree.limit) (λ one places_fit. rw (keeps.places one) places_fit) rows proper.places_fit);
      places_apart = AllPairs-map (λ one other. one.place ≢ other.place) (λ one other. one.place ≢ other.place) f rows (λ i j d below within differ same. differ (sym (keeps.places (get_or rows i d)) ∙ same ∙ keeps.places (get_or rows j d))) proper.places_apart;
      few = rw (length-map rows f) proper.few;
      known = All-map (λ one. number one ≤ tree.greatest) f rows (All-weaker (λ one. number one ≤ tree.greatest) (λ one. number (f one) ≤ tree.greatest) (λ one known. rw (keeps.numbers one) known) rows proper.known);
      joined = links_kept rows (map f rows) tree.links (λ id there. subst (λ (found : Option Row). is_some found ≡ true) (sym (row_of-map f keeps.numbers rows id)) (some_to f (row_of rows id) there)) proper.joined;
      limited = proper.limited;
    }

-- a change of one channel's name or info
abbrev pub KeepsPlacement : (Channel → Channel) → Type 0
KeepsPlacement change = (channel : Channel) → ((change channel).id ≡ channel.id) × ((change channel).parent ≡ channel.parent) × ((change channel).temporary ≡ channel.temporary)

pub change_keeps : (id : ChannelId) (change : Channel → Channel) → KeepsPlacement change → ((channel : Channel) → id.0 ≡ 0 → (change channel).name ≡ channel.name) → KeepsPlaces (change_row id change)
change_keeps id change placement named = record {
  numbers = λ row. cond_both (eqb (number row) id.0) (record row { channel = change row.channel }) row (λ r. number r ≡ number row) (λ e. ap (λ (x : ChannelId). x.0) (placement row.channel).0) (λ e. refl);
  places = λ row. cond_both (eqb (number row) id.0) (record row { channel = change row.channel }) row (λ r. r.place ≡ row.place) (λ e. refl) (λ e. refl);
  parents = λ row. cond_both (eqb (number row) id.0) (record row { channel = change row.channel }) row (λ r. r.channel.parent ≡ row.channel.parent) (λ e. (placement row.channel).1) (λ e. refl);
  kinds = λ row. cond_both (eqb (number row) id.0) (record row { channel = change row.channel }) row (λ r. r.channel.temporary ≡ row.channel.temporary) (λ e. (placement row.channel).2) (λ e. refl);
  root_name = λ row root. cond_both (eqb (number row) id.0) (record row { channel = change row.channel }) row (λ r. r.channel.name ≡ row.channel.name) (λ e. named row.channel (sym (eqb-true (number row) id.0 e) ∙ root)) (λ e. refl);
}
