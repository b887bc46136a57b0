-- A tree without a channel and all below it.
use Rattle.mum_tree.proofs.Common.{◌≡◌, ◌≢◌, ℕ, zero, suc, ◌<◌, ◌≤◌, ◌+◌, ◌-◌, ◌||◌, ◌&&◌, ◌==◌, Bool, true, false, not, cond, eqb, List, [], ◌∷◌, ◌++◌, get_or, reverse, Option, Some, None, refl, arith, ap, sym, ◌∙◌, subst, ⊎_elim, All, Contains, filter, list_any, option_map_or, is_some, and_from, and_parts, eqb-true, ne_eqb, cases_Bool, false≢true, or_parts, not-true, not_from_false, All-filter, filter_passes, AllPairs-filter, length-filter, count_by-le-length, same_Some, ChannelId, Row, NoChannel, RootFixed, fault_of_remove, number, row_of, is_there, is_below, upward, Rise, AreApart, AreLinks, IsProper, IsUnderLasting, LeadUp, Pair, TreeState}
use Rattle.mum_tree.proofs.{Find.AllPairs-tail, Find.row_of_at, Find.row_of_none, Upward.the_root, Upward.reverse-cons, Upward.option_cases, Upward.upward_zero, Upward.there_from_lead, Upward.upward_root, Upward.upward_under, Upward.upward_more, Upward.lead_parent, Changed.number_found, Joined.links_filtered}

pub or_swap : (a b c : Bool) → (a || (b || c)) ≡ (b || (a || c))
or_swap true true c = refl
or_swap true false c = refl
or_swap false true c = refl
or_swap false false c = refl

list_any-push : {X : Type 0} (p : X → Bool) (xs : List X) (x : X) → list_any p (xs ++ x ∷ []) ≡ (p x || list_any p xs)
list_any-push p [] x = refl
list_any-push p (y ∷ xs) x = ap (λ b. p y || b) (list_any-push p xs x) ∙ or_swap (p y) (p x) (list_any p xs)

pub list_any-reverse : {X : Type 0} (p : X → Bool) (xs : List X) → list_any p (reverse xs) ≡ list_any p xs
list_any-reverse p [] = refl
list_any-reverse p (x ∷ xs) = ap (list_any p) (reverse-cons x xs) ∙ list_any-push p (reverse xs) x ∙ ap (λ b. p x || b) (list_any-reverse p xs)

pub filter_agree_at : {X : Type 0} (p q : X → Bool) (xs : List X) → All (λ x. p x ≡ q x) xs → filter p xs ≡ filter q xs
filter_agree_at p q [] all = refl
filter_agree_at p q (x ∷ xs) all =
    ap (λ (b : Bool). cond b (x ∷ filter p xs) (filter p xs)) (all 0 x (omega arith))
    ∙ ap (λ rest. cond (q x) (x ∷ rest) rest) (filter_agree_at p q xs (λ k d within. all (suc k) d (omega arith)))

-- the choice that the first row of a list makes
find_first : (first : Row) (rows : List Row) (id : ChannelId) (b : Bool) → eqb (number first) id.0 ≡ b → row_of (first ∷ rows) id ≡ cond b (Some first) (row_of rows id)
find_first first rows id b e = ap (λ (x : Bool). cond x (Some first) (row_of rows id)) e

filter_first : (q : Row → Bool) (first : Row) (rows : List Row) (b : Bool) → q first ≡ b → filter q (first ∷ rows) ≡ cond b (first ∷ filter q rows) (filter q rows)
filter_first q first rows b e = ap (λ (x : Bool). cond x (first ∷ filter q rows) (filter q rows)) e

pub kept_row : (q : Row → Bool) (rows : List Row) (id : ChannelId) (row : Row) → row_of rows id ≡ Some row → q row ≡ true → row_of (filter q rows) id ≡ Some row
kept_row q [] id row found keep = cc
kept_row q (first ∷ rows) id row found keep =
    ⊎_elim
    (λ (e : eqb (number first) id.0 ≡ true).
    let same : first ≡ row = same_Some first row (sym (find_first first rows id true e) ∙ found) in
    ap (λ (rs : List Row). row_of rs id) (filter_first q first rows true (ap q same ∙ keep)) ∙ find_first first (filter q rows) id true e ∙ ap (λ (r : Row). Some r) same)
    (λ (e : eqb (number first) id.0 ≡ false).
    let later = kept_row q rows id row (sym (find_first first rows id false e) ∙ found) keep in
    ⊎_elim
    (λ (k : q first ≡ true). ap (λ (rs : List Row). row_of rs id) (filter_first q first rows true k) ∙ find_first first (filter q rows) id false e ∙ later)
    (λ (k : q first ≡ false). ap (λ (rs : List Row). row_of rs id) (filter_first q first rows false k) ∙ later)
    (cases_Bool (q first)))
    (cases_Bool (eqb (number first) id.0))

none_is : (row : Row) → Some row ≡ None → ⊥
none_is row e = cc

never_there : (q : Row → Bool) (rows : List Row) (id : ChannelId) → row_of rows id ≡ None → row_of (filter q rows) id ≡ None
never_there q [] id none = refl
never_there q (first ∷ rows) id none =
    ⊎_elim
    (λ (e : eqb (number first) id.0 ≡ true). absurd (none_is first (sym (find_first first rows id true e) ∙ none)))
    (λ (e : eqb (number first) id.0 ≡ false).
    let later = never_there q rows id (sym (find_first first rows id false e) ∙ none) in
    ⊎_elim
    (λ (k : q first ≡ true). ap (λ (rs : List Row). row_of rs id) (filter_first q first rows true k) ∙ find_first first (filter q rows) id false e ∙ later)
    (λ (k : q first ≡ false). ap (λ (rs : List Row). row_of rs id) (filter_first q first rows false k) ∙ later)
    (cases_Bool (q first)))
    (cases_Bool (eqb (number first) id.0))

dropped_row : (q : Row → Bool) (rows : List Row) (id : ChannelId) (row : Row) → Rise rows → row_of rows id ≡ Some row → q row ≡ false → row_of (filter q rows) id ≡ None
dropped_row q [] id row rise found drops = cc
dropped_row q (first ∷ rows) id row rise found drops =
    ⊎_elim
    (λ (e : eqb (number first) id.0 ≡ true).
    let same : first ≡ row = same_Some first row (sym (find_first first rows id true e) ∙ found) in
    let here : number first ≡ id.0 = eqb-true (number first) id.0 e in
    let none = row_of_none rows id (λ k d within again. let less : number first < number (get_or rows k d) = rise 0 (suc k) d (omega arith) (omega arith) in absurd (omega arith)) in
    ap (λ (rs : List Row). row_of rs id) (filter_first q first rows false (ap q same ∙ drops)) ∙ never_there q rows id none)
    (λ (e : eqb (number first) id.0 ≡ false).
    let later = dropped_row q rows id row (AllPairs-tail (λ one other. number one < number other) first rows rise) (sym (find_first first rows id false e) ∙ found) drops in
    ⊎_elim
    (λ (k : q first ≡ true). ap (λ (rs : List Row). row_of rs id) (filter_first q first rows true k) ∙ find_first first (filter q rows) id false e ∙ later)
    (λ (k : q first ≡ false). ap (λ (rs : List Row). row_of rs id) (filter_first q first rows false k) ∙ later)
    (cases_Bool (q first)))
    (cases_Bool (eqb (number first) id.0))

none_there : (found : Option Row) → found ≡ None → is_some found ≡ true → ⊥
none_there found none there = false≢true (subst (λ (o : Option Row). is_some o ≡ true) none there)

-- what is there afterwards was there, and was kept
pub there_after : (q : Row → Bool) (rows : List Row) (id : ChannelId) → Rise rows → is_there (filter q rows) id ≡ true → (row : Row) × (row_of rows id ≡ Some row) × (q row ≡ true)
there_after q rows id rise there =
    ⊎_elim
    (λ (none : row_of rows id ≡ None). absurd (none_there (row_of (filter q rows) id) (never_there q rows id none) there))
    (λ found. ⊎_elim
    (λ (keep : q found.0 ≡ true). (found.0, found.1, keep))
    (λ (drops : q found.0 ≡ false). absurd (none_there (row_of (filter q rows) id) (dropped_row q rows id found.0 rise found.1 drops) there))
    (cases_Bool (q found.0)))
    (option_cases (row_of rows id))

abbrev pub is_top : ChannelId → ChannelId → Bool
is_top top channel = channel.0 == top.0

abbrev pub stays : List Row → ChannelId → Row → Bool
stays rows top row = not (is_below rows top row.channel.id)

same_id : (rows : List Row) (id : ChannelId) (row : Row) → row_of rows id ≡ Some row → row.channel.id ≡ id
same_id rows id row found = ap (λ n. record { 0 = n }) (number_found rows id row found)

pub upward_enough : (rows : List Row) (steps more m : ℕ) (id : ChannelId) → m ≡ steps + more → Contains (upward rows steps id) the_root → upward rows m id ≡ upward rows steps id
upward_enough rows steps zero m id e lead = ap (λ n. upward rows n id) (e ∙ (omega arith))
upward_enough rows steps (suc more) m id e lead =
    let before = upward_enough rows steps more (steps + more) id refl lead in
    let next : m ≡ suc (steps + more) = omega arith in
    ap (λ n. upward rows n id) next ∙ upward_more rows (steps + more) id (subst (λ (us : List ChannelId). Contains us the_root) (sym before) lead) ∙ before

-- a row stays exactly where the top is not on its way up
stays_off : (rows : List Row) (top id : ChannelId) (row : Row) → row_of rows id ≡ Some row → list_any (is_top top) (upward rows 33 id) ≡ false → stays rows top row ≡ true
stays_off rows top id row found off =
    not_from_false (is_below rows top row.channel.id)
    (ap (is_below rows top) (same_id rows id row found) ∙ list_any-reverse (is_top top) (upward rows 33 id) ∙ off)

off_stays : (rows : List Row) (top id : ChannelId) (row : Row) → row_of rows id ≡ Some row → stays rows top row ≡ true → list_any (is_top top) (upward rows 33 id) ≡ false
off_stays rows top id row found keep =
    sym (list_any-reverse (is_top top) (upward rows 33 id)) ∙ ap (is_below rows top) (sym (same_id rows id row found)) ∙ not-true (is_below rows top row.channel.id) keep

up_after : (rows : List Row) (top : ChannelId) (steps : ℕ) (id : ChannelId) → steps ≤ 33 → Contains (upward rows steps id) the_root → list_any (is_top top) (upward rows steps id) ≡ false → upward (filter (stays rows top) rows) steps id ≡ upward rows steps id
up_after rows top zero id short lead off = upward_zero (filter (stays rows top) rows) id ∙ sym (upward_zero rows id)
up_after rows top (suc steps) id short lead off =
    let (row, found) = there_from_lead rows (suc steps) id lead in
    let whole : upward rows 33 id ≡ upward rows (suc steps) id = upward_enough rows (suc steps) (32 - steps) 33 id (omega arith) lead in
    let keep = stays_off rows top id row found (ap (list_any (is_top top)) whole ∙ off) in
    let after = kept_row (stays rows top) rows id row found keep in
    ⊎_elim
    (λ (root : eqb id.0 0 ≡ true). upward_root (filter (stays rows top) rows) steps id row after root ∙ sym (upward_root rows steps id row found root))
    (λ (under : eqb id.0 0 ≡ false).
    let up = upward_under rows steps id row found under in
    let off-2 = (or_parts (is_top top id) (list_any (is_top top) (upward rows steps row.channel.parent)) (ap (list_any (is_top top)) (sym up) ∙ off)).1 in
    upward_under (filter (stays rows top) rows) steps id row after under
    ∙ ap (λ us. id ∷ us) (up_after rows top steps row.channel.parent (omega arith) (lead_parent rows steps id row found under lead) off-2)
    ∙ sym up)
    (cases_Bool (eqb id.0 0))

shrunk_lead : (rows : List Row) (top : ChannelId) → Rise rows → LeadUp rows → LeadUp (filter (stays rows top) rows)
shrunk_lead rows top rise lead id there =
    let (row, found, keep) = there_after (stays rows top) rows id rise there in
    let before = lead id (ap is_some found) in
    subst (λ (us : List ChannelId). Contains us the_root) (sym (up_after rows top 33 id (omega arith) before (off_stays rows top id row found keep))) before

-- the parent of a row that stays, stays
shrunk_lasting : (rows : List Row) (top : ChannelId) → Rise rows → LeadUp rows → All (IsUnderLasting rows) rows → All (IsUnderLasting (filter (stays rows top) rows)) (filter (stays rows top) rows)
shrunk_lasting rows top rise lead lasting k d within =
    let kept = filter (stays rows top) rows in
    let passes = filter_passes (stays rows top) rows k d within in
    All-filter (stays rows top) (λ row. stays rows top row ≡ true → IsUnderLasting kept row) rows
    (λ j e inside keep lower.
    let one = get_or rows j e in
    let id = one.channel.id in
    let found : row_of rows id ≡ Some one = row_of_at rows j e id rise inside refl in
    let under : eqb id.0 0 ≡ false = ne_eqb id.0 0 lower in
    let leads = lead id (ap is_some found) in
    let off = off_stays rows top id one found keep in
    let up = upward_under rows 32 id one found under in
    let above = lead_parent rows 32 id one found under leads in
    let (parent, there) = there_from_lead rows 32 one.channel.parent above in
    let off-2 = (or_parts (is_top top id) (list_any (is_top top) (upward rows 32 one.channel.parent)) (ap (list_any (is_top top)) (sym up) ∙ off)).1 in
    let stands = stays_off rows top one.channel.parent parent there (ap (list_any (is_top top)) (upward_more rows 32 one.channel.parent above) ∙ off-2) in
    ap (λ (o : Option Row). option_map_or (λ r. r.channel.temporary) o false) (kept_row (stays rows top) rows one.channel.parent parent there stands ∙ sym there) ∙ lasting j e inside lower)
    k d within passes

-- the links between what stays
abbrev pub links_left : List Row → List Pair → List Pair
links_left kept links = filter (λ pair. is_there kept pair.0 && is_there kept pair.1) links

shrunk_links : (rows kept : List Row) (links : List Pair) → AreLinks rows links → AreLinks kept (links_left kept links)
shrunk_links rows kept links are =
    links_filtered (λ pair. is_there kept pair.0 && is_there kept pair.1) rows kept links
    (λ pair passes. let (here, there) = and_parts (is_there kept pair.0) (is_there kept pair.1) passes in and_from (is_there kept pair.1) (is_there kept pair.0) there here)
    (λ pair passes is. let (here, there) = and_parts (is_there kept pair.0) (is_there kept pair.1) passes in (here, there, is.2))
    are

pub shrunk_proper : (tree : TreeState) (top : ChannelId) (links : List Pair) → IsProper tree → top.0 ≢ 0 → links ≡ links_left (filter (stays tree.channels top) tree.channels) tree.links → IsProper (record { channels = filter (stays tree.channels top) tree.channels; links = links; greatest = tree.greatest; limit = tree.limit })
shrunk_proper tree top links proper lower left =
    let rows = tree.channels in
    let q = stays rows top in
    let (root, found, is) = proper.root in
    let alone = upward_root rows 32 the_root root found refl in
    let off : list_any (is_top top) (upward rows 33 the_root) ≡ false = ap (list_any (is_top top)) alone ∙ ap (λ b. b || false) (ne_eqb 0 top.0 (λ (e : 0 ≡ top.0). lower (sym e))) in
    record {
      rise = AllPairs-filter (λ one later. number one < number later) q rows proper.rise;
      root = (root, kept_row q rows the_root root found (stays_off rows top the_root root found off), is);
      lead = shrunk_lead rows top proper.rise proper.lead;
      apart = AllPairs-filter AreApart q rows proper.apart;
      lasting = shrunk_lasting rows top proper.rise proper.lead proper.lasting;
      places_fit = All-filter q (λ one. one.place < tree.limit) rows proper.places_fit;
      places_apart = AllPairs-filter (λ one other. one.place ≢ other.place) q rows proper.places_apart;
      few = omega (arith, length-filter q rows, count_by-le-length q rows);
      known = All-filter q (λ one. number one ≤ tree.greatest) rows proper.known;
      joined = subst (λ (ps : List Pair). AreLinks (filter q rows) ps) (sym left) (shrunk_links rows (filter q rows) tree.links proper.joined);
      limited = proper.limited;
    }

pub remove_allowed : (tree : TreeState) (id : ChannelId) → is_there tree.channels id ≡ true → id.0 ≢ 0 → fault_of_remove tree id ≡ None
remove_allowed tree id there lower =
    ap (λ (b : Bool). cond (not b) (Some NoChannel) (cond (eqb id.0 0) (Some RootFixed) None)) there
    ∙ ap (λ (b : Bool). cond b (Some RootFixed) None) (ne_eqb id.0 0 lower)
