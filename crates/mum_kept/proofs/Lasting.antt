-- Rows and links taken channel by channel are those of the whole tree.
use Rattle.mum_kept.proofs.Common.{◌≡◌, ℕ, zero, suc, ◌+◌, ◌<◌, ◌≤◌, ◌==◌, Bool, true, false, not, cond, List, [], ◌∷◌, ◌++◌, length, map, get_or, Option, Some, is_some, refl, sym, ap, ◌∙◌, append_assoc, arith, take, IsTrue, AllPairs, filter, flat_map, option_map, option_map_or, eq-eqb, eqb-true, ne_eqb, append-nil, get_or_default, map-append, take_more, filter-append, flat_map-map, AllPairs-filter, ChannelId, Row, is_there, number, row_of, Rise, Ordered, Pair, TreeState, is_above, starts_at, AllPairs-tail, row_of_at, starts_rise, Each, each_any, each_from_all, each_so, some_found, StateValue, same_channel, pieces_more, channel_ids, is_lasting, kept_channel, kept_channels, kept_if_lasting, kept_of, links_from}
use Rattle.mum_tree.specs.Proper.{IsProper}

-- ---- lists

pub flat_each : {X Y : Type 0} (f g : X → List Y) (xs : List X) → Each (λ x. f x ≡ g x) xs → flat_map f xs ≡ flat_map g xs
flat_each f g [] same = refl
flat_each f g (x ∷ xs) same = ap (λ ys. ys ++ flat_map f xs) same.0 ∙ ap (λ ys. g x ++ ys) (flat_each f g xs same.1)

filtered_flat : {X Y : Type 0} (p : Y → Bool) (f : X → List Y) (xs : List X) → flat_map (λ x. filter p (f x)) xs ≡ filter p (flat_map f xs)
filtered_flat p f [] = refl
filtered_flat p f (x ∷ xs) = ap (λ ys. filter p (f x) ++ ys) (filtered_flat p f xs) ∙ sym (filter-append p (f x) (flat_map f xs))

mapped_flat : {X Y : Type 0} (p : X → Bool) (f : X → Y) (xs : List X) → flat_map (λ x. cond (p x) (f x ∷ []) []) xs ≡ map f (filter p xs)
mapped_flat p f [] = refl
mapped_flat p f (x ∷ xs) = step (p x) (mapped_flat p f xs)
  where
    step : (b : Bool) → flat_map (λ x. cond (p x) (f x ∷ []) []) xs ≡ map f (filter p xs)
        → cond b (f x ∷ []) [] ++ flat_map (λ x. cond (p x) (f x ∷ []) []) xs ≡ map f (cond b (x ∷ filter p xs) (filter p xs))
    step true rest = ap (λ ys. f x ∷ ys) rest
    step false rest = rest

-- what passes one test passes the other
filter_within : {X : Type 0} (p q : X → Bool) → ((x : X) → q x ≡ true → p x ≡ true) → (xs : List X) → filter q (filter p xs) ≡ filter q xs
filter_within p q so [] = refl
filter_within p q so (x ∷ xs) = step (p x) refl (q x) refl (filter_within p q so xs)
  where
    step : (b : Bool) → p x ≡ b → (c : Bool) → q x ≡ c → filter q (filter p xs) ≡ filter q xs
        → filter q (cond b (x ∷ filter p xs) (filter p xs)) ≡ cond c (x ∷ filter q xs) (filter q xs)
    step true on true also rest = rw also (ap (λ ys. x ∷ ys) rest)
    step true on false other rest = rw other rest
    step false off true also rest = absurd (let yes = so x also in cc)
    step false off false other rest = rest

all_off : {X : Type 0} (p : X → Bool) (xs : List X) → Each (λ x. p x ≡ false) xs → filter p xs ≡ []
all_off p [] off = refl
all_off p (x ∷ xs) off = rw off.0 (all_off p xs off.1)

all_left : {X : Type 0} (p : X → Bool) (xs : List X) → Each (λ x. p x ≡ false) xs → filter (λ x. not (p x)) xs ≡ xs
all_left p [] off = refl
all_left p (x ∷ xs) off = rw off.0 (ap (λ ys. x ∷ ys) (all_left p xs off.1))

-- those that pass come before the others
separated : {X : Type 0} (p : X → Bool) (xs : List X) → AllPairs (λ x y. p y ≡ true → p x ≡ true) xs → filter p xs ++ filter (λ x. not (p x)) xs ≡ xs
separated p [] falls = refl
separated {X} p (x ∷ xs) falls = step (p x) refl (separated p xs (AllPairs-tail (λ x y. p y ≡ true → p x ≡ true) x xs falls))
  where
    later_off : p x ≡ false → (k : ℕ) (d : X) → k < length xs → p (get_or xs k d) ≡ false
    later_off off k d within = by_value (p (get_or xs k d)) refl
      where
        by_value : (b : Bool) → p (get_or xs k d) ≡ b → b ≡ false
        by_value true on = let first : p x ≡ true = falls 0 (suc k) d (omega arith) (omega arith) on in absurd (cc)
        by_value false other = refl

    step : (b : Bool) → p x ≡ b → filter p xs ++ filter (λ x. not (p x)) xs ≡ xs
        → cond b (x ∷ filter p xs) (filter p xs) ++ cond (not b) (x ∷ filter (λ x. not (p x)) xs) (filter (λ x. not (p x)) xs) ≡ x ∷ xs
    step true on rest = ap (λ ys. x ∷ ys) rest
    step false off rest =
        let all : Each (λ y. p y ≡ false) xs = each_from_all (λ y. p y ≡ false) xs (later_off off) in
        rw (all_off p xs all) (ap (λ ys. x ∷ ys) (all_left p xs all))

-- one piece more, of an element that is read at its place
pub pieces_at : {X Y : Type 0} (f : X → List Y) (xs : List X) (i : ℕ) (d : X) (before now : List Y) → i < length xs → before ≡ flat_map f (take i xs) → now ≡ before ++ f (get_or xs i d) → now ≡ flat_map f (take (i + 1) xs)
pieces_at f xs i d before now within done added = pieces_more f [] xs i (get_or xs i d) before now within (get_or_default xs i d (get_or xs i d) within) done added

-- ---- channels

pub found_each : (rows : List Row) → Rise rows → Each (λ row. row_of rows row.channel.id ≡ Some row) rows
found_each rows rise =
    each_from_all (λ row. row_of rows row.channel.id ≡ Some row) rows (λ k d within. row_of_at rows k d (get_or rows k d).channel.id rise within refl)

kept_cond : {X : Type 0} (b : Bool) (xs : List X) → cond b [] xs ≡ cond (not b) xs []
kept_cond true xs = refl
kept_cond false xs = refl

pub kept_by_id : (state : StateValue) → Rise state.tree.channels → flat_map (kept_of state) (channel_ids state.tree) ≡ kept_channels state
kept_by_id state rise =
    let rows : List Row = state.tree.channels in
    flat_map-map (kept_of state) (λ (row : Row). row.channel.id) rows
    ∙ flat_each (λ row. kept_of state row.channel.id) (λ row. cond (is_lasting row.channel) (kept_channel state row.channel ∷ []) []) rows
    (each_so (λ row. row_of rows row.channel.id ≡ Some row) (λ row. kept_of state row.channel.id ≡ cond (is_lasting row.channel) (kept_channel state row.channel ∷ []) [])
    (λ row found. ap (λ (o : Option Row). option_map_or (kept_if_lasting state) (option_map (λ (one : Row). one.channel) o) []) found ∙ kept_cond row.channel.temporary (kept_channel state row.channel ∷ [])) rows (found_each rows rise))
    ∙ mapped_flat (λ (row : Row). is_lasting row.channel) (λ (row : Row). kept_channel state row.channel) rows

each_at : {X : Type 0} (P : X → Type 0) (xs : List X) → Each P xs → (k : ℕ) (d : X) → k < length xs → P (get_or xs k d)
each_at P [] all k d within = absurd (omega arith)
each_at P (x ∷ xs) all zero d within = all.0
each_at P (x ∷ xs) all (suc k) d within = each_at P xs all.1 k d (omega arith)

each_all : {X : Type 0} (P : X → Type 0) → ((x : X) → P x) → (xs : List X) → Each P xs
each_all P all [] = tt
each_all P all (x ∷ xs) = (all x, each_all P all xs)

-- ---- links

own_pairs : (id : ChannelId) (pairs : List Pair) → map (λ (other : ChannelId). (id, other)) (map (λ (pair : Pair). pair.1) (filter (starts_at id) pairs)) ≡ filter (starts_at id) pairs
own_pairs id [] = refl
own_pairs id (pair ∷ pairs) = step (starts_at id pair) refl (own_pairs id pairs)
  where
    step : (b : Bool) → starts_at id pair ≡ b
        → map (λ (other : ChannelId). (id, other)) (map (λ (pair : Pair). pair.1) (filter (starts_at id) pairs)) ≡ filter (starts_at id) pairs
        → map (λ (other : ChannelId). (id, other)) (map (λ (pair : Pair). pair.1) (cond b (pair ∷ filter (starts_at id) pairs) (filter (starts_at id) pairs)))
        ≡ cond b (pair ∷ filter (starts_at id) pairs) (filter (starts_at id) pairs)
    step true on rest =
        let start : id ≡ pair.0 = sym (same_channel pair.0 id (eqb-true pair.0.0 id.0 on)) in
        ap (λ (from : ChannelId). (from, pair.1) ∷ map (λ (other : ChannelId). (id, other)) (map (λ (pair : Pair). pair.1) (filter (starts_at id) pairs))) start
        ∙ ap (λ (ys : List Pair). pair ∷ ys) rest
    step false off rest = rest

none_without_rows : (pairs : List Pair) → Each (λ (pair : Pair). is_there [] pair.0 ≡ true) pairs → [] ≡ pairs
none_without_rows [] there = refl
none_without_rows (pair ∷ pairs) there = absurd (let no = there.0 in cc)

above_first : (row : Row) (rows : List Row) → Rise (row ∷ rows) → Each (λ later. number row < number later) rows
above_first row rows rise = each_from_all (λ later. number row < number later) rows (λ k d within. rise 0 (suc k) d (omega arith) (omega arith))

-- a channel of these rows has the number of the first, or a greater one
from_first : (row : Row) (rows : List Row) (id : ChannelId) → Rise (row ∷ rows) → is_there (row ∷ rows) id ≡ true → number row ≤ id.0
from_first row rows id rise there = by_first (number row == id.0) refl there
  where
    by_first : (b : Bool) → (number row == id.0) ≡ b → is_some (cond b (Some row) (row_of rows id)) ≡ true → number row ≤ id.0
    by_first true same some = let is : number row ≡ id.0 = eqb-true (number row) id.0 same in omega arith
    by_first false other some =
        each_any (λ later. number row < number later) (number row ≤ id.0) (λ later. number later == id.0)
        (λ later less same. let is : number later ≡ id.0 = eqb-true (number later) id.0 same in omega arith)
        rows (above_first row rows rise) (sym (some_found (λ one. number one == id.0) rows) ∙ some)

-- what begins at none but the first row begins at one of the others
from_others : (row : Row) (rows : List Row) (pair : Pair) → (is_there (row ∷ rows) pair.0 ≡ true) × (starts_at row.channel.id pair ≡ false) → is_there rows pair.0 ≡ true
from_others row rows pair (there, other) =
    let apart : (number row == pair.0.0) ≡ false = ne_eqb (number row) pair.0.0 (λ (e : number row ≡ pair.0.0). let same : starts_at row.channel.id pair ≡ true = eq-eqb pair.0.0 row.channel.id.0 (sym e) in absurd (cc)) in
    rw apart at there

rest_there : (row : Row) (rows : List Row) (pairs : List Pair) → Each (λ (pair : Pair). is_there (row ∷ rows) pair.0 ≡ true) pairs
    → Each (λ (pair : Pair). is_there rows pair.0 ≡ true) (filter (λ pair. not (starts_at row.channel.id pair)) pairs)
rest_there row rows [] there = tt
rest_there row rows (pair ∷ pairs) there = step (starts_at row.channel.id pair) refl (rest_there row rows pairs there.1)
  where
    step : (b : Bool) → starts_at row.channel.id pair ≡ b → Each (λ (one : Pair). is_there rows one.0 ≡ true) (filter (λ one. not (starts_at row.channel.id one)) pairs)
        → Each (λ (one : Pair). is_there rows one.0 ≡ true) (cond (not b) (pair ∷ filter (λ one. not (starts_at row.channel.id one)) pairs) (filter (λ one. not (starts_at row.channel.id one)) pairs))
    step true own rest = rest
    step false other rest = (from_others row rows pair (there.0, other), rest)

starts_fall : (row : Row) (rows : List Row) (pairs : List Pair) → Rise (row ∷ rows) → Ordered pairs → Each (λ (pair : Pair). is_there (row ∷ rows) pair.0 ≡ true) pairs
    → AllPairs (λ x y. starts_at row.channel.id y ≡ true → starts_at row.channel.id x ≡ true) pairs
starts_fall row rows pairs rise ordered there i j d less within on =
    let least : number row ≤ (get_or pairs i d).0.0 = each_at (λ (pair : Pair). number row ≤ pair.0.0) pairs (each_so (λ (pair : Pair). is_there (row ∷ rows) pair.0 ≡ true) (λ (pair : Pair). number row ≤ pair.0.0) (λ pair here. from_first row rows pair.0 rise here) pairs there) i d (omega arith) in
    let above : (get_or pairs i d).0.0 ≤ (get_or pairs j d).0.0 = starts_rise pairs i j d ordered (omega arith) within in
    let same : (get_or pairs j d).0.0 ≡ number row = eqb-true (get_or pairs j d).0.0 row.channel.id.0 on in
    eq-eqb (get_or pairs i d).0.0 row.channel.id.0 (omega arith)

-- taken channel by channel the pairs are all
pub pairs_by_row : (rows : List Row) (pairs : List Pair) → Rise rows → Ordered pairs → Each (λ (pair : Pair). is_there rows pair.0 ≡ true) pairs
    → flat_map (λ (row : Row). filter (starts_at row.channel.id) pairs) rows ≡ pairs
pairs_by_row [] pairs rise ordered there = none_without_rows pairs there
pairs_by_row (row ∷ rows) pairs rise ordered there =
    let later : Rise rows = AllPairs-tail (λ one next. number one < number next) row rows rise in
    let own : Pair → Bool = starts_at row.channel.id in
    let rest : List Pair = filter (λ pair. not (own pair)) pairs in
    ap (λ (ys : List Pair). filter own pairs ++ ys)
    (flat_each (λ (other : Row). filter (starts_at other.channel.id) pairs) (λ (other : Row). filter (starts_at other.channel.id) rest) rows
    (each_so (λ other. number row < number other) (λ other. filter (starts_at other.channel.id) pairs ≡ filter (starts_at other.channel.id) rest)
    (λ other less. sym (filter_within (λ pair. not (own pair)) (starts_at other.channel.id)
    (λ pair on. let is : pair.0.0 ≡ number other = eqb-true pair.0.0 other.channel.id.0 on in
    ap not (ne_eqb pair.0.0 row.channel.id.0 (λ (e : pair.0.0 ≡ number row). absurd (omega arith)))) pairs))
    rows (above_first row rows rise))
    ∙ pairs_by_row rows rest later (AllPairs-filter (λ (pair : Pair) (next : Pair). IsTrue (is_above pair.0 pair.1 next)) (λ pair. not (own pair)) pairs ordered)
    (rest_there row rows pairs there))
    ∙ separated own pairs (starts_fall row rows pairs rise ordered there)

-- the links of each channel, one channel after the other, are the links of the tree
pub links_by_id : (tree : TreeState) (kept : Pair → Bool) → IsProper tree → flat_map (λ id. filter kept (links_from tree id)) (channel_ids tree) ≡ filter kept tree.links
links_by_id tree kept proper =
    let rows : List Row = tree.channels in
    let there : Each (λ (pair : Pair). is_there rows pair.0 ≡ true) tree.links = each_from_all (λ (pair : Pair). is_there rows pair.0 ≡ true) tree.links (λ k d within. (proper.joined.pairs.between k d within).0) in
    filtered_flat kept (links_from tree) (channel_ids tree)
    ∙ ap (filter kept)
    (flat_map-map (links_from tree) (λ (row : Row). row.channel.id) rows
    ∙ flat_each (λ (row : Row). links_from tree row.channel.id) (λ (row : Row). filter (starts_at row.channel.id) tree.links) rows (each_all (λ (row : Row). links_from tree row.channel.id ≡ filter (starts_at row.channel.id) tree.links) (λ row. own_pairs row.channel.id tree.links) rows)
    ∙ pairs_by_row rows tree.links proper.rise proper.joined.pairs.ordered there)

-- ---- one link at a time

abbrev pub kept_from : (Pair → Bool) → ChannelId → List ChannelId → List Pair
kept_from kept id others = filter kept (map (λ (other : ChannelId). (id, other)) others)

one_more : (kept : Pair → Bool) (id : ChannelId) (others : List ChannelId) (i : ℕ) (other : ChannelId) → i < length others → other ≡ get_or others i other
    → kept_from kept id (take (i + 1) others) ≡ kept_from kept id (take i others) ++ cond (kept (id, other)) ((id, other) ∷ []) []
one_more kept id others i other within is =
    ap (kept_from kept id) (take_more others i other within ∙ ap (λ (one : ChannelId). take i others ++ one ∷ []) (sym is))
    ∙ ap (filter kept) (map-append (λ (one : ChannelId). (id, one)) (take i others) (other ∷ []))
    ∙ filter-append kept (map (λ (one : ChannelId). (id, one)) (take i others)) ((id, other) ∷ [])

pub link_kept : (kept : Pair → Bool) (id : ChannelId) (others : List ChannelId) (i : ℕ) (other : ChannelId) (old before now : List Pair) → i < length others → other ≡ get_or others i other → kept (id, other) ≡ true
    → before ≡ old ++ kept_from kept id (take i others) → now ≡ before ++ (id, other) ∷ [] → now ≡ old ++ kept_from kept id (take (i + 1) others)
link_kept kept id others i other old before now within is on done added =
    added ∙ ap (λ (ps : List Pair). ps ++ (id, other) ∷ []) done ∙ append_assoc old (kept_from kept id (take i others)) ((id, other) ∷ [])
    ∙ ap (λ (ps : List Pair). old ++ ps) (sym (one_more kept id others i other within is ∙ ap (λ (b : Bool). kept_from kept id (take i others) ++ cond b ((id, other) ∷ []) []) on))

pub link_dropped : (kept : Pair → Bool) (id : ChannelId) (others : List ChannelId) (i : ℕ) (other : ChannelId) (old before : List Pair) → i < length others → other ≡ get_or others i other → kept (id, other) ≡ false
    → before ≡ old ++ kept_from kept id (take i others) → before ≡ old ++ kept_from kept id (take (i + 1) others)
link_dropped kept id others i other old before within is off done =
    done ∙ ap (λ (ps : List Pair). old ++ ps)
    (sym (one_more kept id others i other within is ∙ ap (λ (b : Bool). kept_from kept id (take i others) ++ cond b ((id, other) ∷ []) []) off ∙ append-nil (kept_from kept id (take i others))))

pub link_kept_at : (kept : Pair → Bool) (id : ChannelId) (others : List ChannelId) (i : ℕ) (d : ChannelId) (old before now : List Pair) → i < length others → kept (id, get_or others i d) ≡ true
    → before ≡ old ++ kept_from kept id (take i others) → now ≡ before ++ (id, get_or others i d) ∷ [] → now ≡ old ++ kept_from kept id (take (i + 1) others)
link_kept_at kept id others i d old before now within on done added =
    link_kept kept id others i (get_or others i d) old before now within (get_or_default others i d (get_or others i d) within) on done added

pub link_dropped_at : (kept : Pair → Bool) (id : ChannelId) (others : List ChannelId) (i : ℕ) (d : ChannelId) (old before : List Pair) → i < length others → kept (id, get_or others i d) ≡ false
    → before ≡ old ++ kept_from kept id (take i others) → before ≡ old ++ kept_from kept id (take (i + 1) others)
link_dropped_at kept id others i d old before within off done =
    link_dropped kept id others i (get_or others i d) old before within (get_or_default others i d (get_or others i d) within) off done
