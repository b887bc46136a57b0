-- The links that a change of a channel leaves.
use Rattle.mum_tree.proofs.Common.{◌≡◌, ◌≢◌, ℕ, zero, suc, ◌<◌, ◌≤◌, ◌+◌, ◌&&◌, ◌||◌, ◌⊎◌, inl, inr, Bool, true, false, not, cond, eqb, leb, ltb, List, [], ◌∷◌, length, get_or, map, refl, arith, ap, sym, ◌∙◌, subst, ⊎_elim, IsTrue, ◌↔◌, AllPairs, Contains, count_by, filter, list_all, list_any, and_from, and_parts, both_ways, cases_Bool, cases_eq, cond_both, eq-eqb, eqb-true, ne_eqb, or_from, or_parts, ltb-false, nat_tests, get_or_default, length-map, All-contains, filter_passes, list_any_none, AllPairs-filter, length-filter, sum_by-cons, ChannelId, Row, is_among, Change, is_new_partner, is_partner_after, overlinks, pairs_with_all, pairs_without_all, AreBothWays, AreLinks, ArePairs, IsBetween, IsProper, number, row_of, is_there, Rise, Pair, Ordered, TreeState, is_above, is_pair, pairs_with, pairs_without, partners, starts_at, with_pair}
use Rattle.mum_tree.proofs.{Changed.AllPairs-map, Changed.none_passes, Changed.number_found, Closure.any_from, Closure.any_has, Closure.any_there, Closure.count_le_at, Closure.count_less, Closure.row_stands, Closure.same_number, Closure.worth, Edits.some_row, Find.AllPairs-tail, Joined.pairs_made, Joined.pairs_parted, Linking.room_left, Marks.passes_from, Marks.passes_to, Shrunk.or_swap, Start.root_row}

abbrev pub linked_in : List Pair → ChannelId → ChannelId → Bool
linked_in links x y = list_any (is_pair x y) links

any_with : (x y a b : ChannelId) (links : List Pair) → linked_in (with_pair a b links) x y ≡ (is_pair x y (a, b) || linked_in links x y)
any_with x y a b [] = refl
any_with x y a b (pair ∷ links) =
    cond_both (is_above a b pair) ((a, b) ∷ pair ∷ links) (pair ∷ with_pair a b links) (λ zs. linked_in zs x y ≡ (is_pair x y (a, b) || (is_pair x y pair || linked_in links x y)))
    (λ e. refl)
    (λ e. ap (λ (t : Bool). is_pair x y pair || t) (any_with x y a b links) ∙ or_swap (is_pair x y pair) (is_pair x y (a, b)) (linked_in links x y))

pub pair_is : (x y : ChannelId) (pair : Pair) → is_pair x y pair ≡ true → pair ≡ (x, y)
pair_is x y pair on =
    let (starts, ends) = and_parts (eqb pair.0.0 x.0) (eqb pair.1.0 y.0) on in
    ap (λ (a : ChannelId). (a, pair.1)) (same_number pair.0 x starts) ∙ ap (λ (b : ChannelId). (x, b)) (same_number pair.1 y ends)

pub and_false : (b : Bool) → (b && false) ≡ false
and_false true = refl
and_false false = refl

pub and_true : (b : Bool) → (b && true) ≡ b
and_true true = refl
and_true false = refl

or_false : (b : Bool) → (b || false) ≡ b
or_false true = refl
or_false false = refl

or_true : (b : Bool) → (b || true) ≡ true
or_true true = refl
or_true false = refl

any_filter : (x y : ChannelId) (q : Pair → Bool) (links : List Pair) → linked_in (filter q links) x y ≡ (linked_in links x y && q (x, y))
any_filter x y q [] = refl
any_filter x y q (pair ∷ links) =
    let l = linked_in links x y in
    let p = is_pair x y pair in
    let rest = any_filter x y q links in
    ⊎_elim
    (λ (on : p ≡ true).
    let same : q pair ≡ q (x, y) = ap q (pair_is x y pair on) in
    let right : (l && q (x, y)) ≡ (l && q pair) = ap (λ (t : Bool). l && t) (sym same) in
    ⊎_elim
    (λ (keep : q pair ≡ true).
    ap (λ (b : Bool). linked_in (cond b (pair ∷ filter q links) (filter q links)) x y) keep
    ∙ ap (λ (b : Bool). b || linked_in (filter q links) x y) on
    ∙ sym keep ∙ same
    ∙ sym (ap (λ (b : Bool). (b || l) && q (x, y)) on))
    (λ (drop : q pair ≡ false).
    ap (λ (b : Bool). linked_in (cond b (pair ∷ filter q links) (filter q links)) x y) drop
    ∙ rest ∙ right ∙ ap (λ (t : Bool). l && t) drop ∙ and_false l
    ∙ sym drop ∙ same
    ∙ sym (ap (λ (b : Bool). (b || l) && q (x, y)) on))
    (cases_Bool (q pair)))
    (λ (off : p ≡ false).
    ⊎_elim
    (λ (keep : q pair ≡ true).
    ap (λ (b : Bool). linked_in (cond b (pair ∷ filter q links) (filter q links)) x y) keep
    ∙ ap (λ (b : Bool). b || linked_in (filter q links) x y) off
    ∙ rest
    ∙ sym (ap (λ (b : Bool). (b || l) && q (x, y)) off))
    (λ (drop : q pair ≡ false).
    ap (λ (b : Bool). linked_in (cond b (pair ∷ filter q links) (filter q links)) x y) drop
    ∙ rest
    ∙ sym (ap (λ (b : Bool). (b || l) && q (x, y)) off))
    (cases_Bool (q pair)))
    (cases_Bool p)

-- of one link more, seen from its own channel
own_test : (i o y : ℕ) (l : Bool) → eqb i o ≡ false → ((eqb o i && eqb i y) || ((eqb i i && eqb o y) || l)) ≡ (l || (eqb o y && not (eqb y i)))
own_test i o y true differ = grind (arith, nat_tests)
own_test i o y false differ = grind (arith, nat_tests)

same_test : (i o y : ℕ) (l : Bool) → eqb i o ≡ true → l ≡ (l || (eqb o y && not (eqb y i)))
same_test i o y true same = refl
same_test i o y false same = grind (arith, nat_tests)

there_test : (o y : ℕ) (l n : Bool) → (eqb o y ≡ true → l ≡ true) → l ≡ (l || (eqb o y && n))
there_test o y true n held = refl
there_test o y false n held =
    ⊎_elim
    (λ (on : eqb o y ≡ true). absurd (both_ways false refl (held on)))
    (λ (off : eqb o y ≡ false). sym (ap (λ (b : Bool). b && n) off))
    (cases_Bool (eqb o y))

pub join_own : (links : List Pair) (id o y : ChannelId) → linked_in (pairs_with id o links) id y ≡ (linked_in links id y || (eqb o.0 y.0 && not (eqb y.0 id.0)))
join_own links id o y =
    let l = linked_in links id y in
    let more = with_pair o id (with_pair id o links) in
    ⊎_elim
    (λ (same : eqb id.0 o.0 ≡ true).
    ap (λ (b : Bool). linked_in (cond (b || linked_in links id o) links more) id y) same ∙ same_test id.0 o.0 y.0 l same)
    (λ (differ : eqb id.0 o.0 ≡ false). ⊎_elim
    (λ (there : linked_in links id o ≡ true).
    ap (λ (b : Bool). linked_in (cond (b || linked_in links id o) links more) id y) differ
    ∙ ap (λ (b : Bool). linked_in (cond b links more) id y) there
    ∙ there_test o.0 y.0 l (not (eqb y.0 id.0)) (λ on. ap (linked_in links id) (sym (same_number o y on)) ∙ there))
    (λ (new : linked_in links id o ≡ false).
    ap (λ (b : Bool). linked_in (cond (b || linked_in links id o) links more) id y) differ
    ∙ ap (λ (b : Bool). linked_in (cond b links more) id y) new
    ∙ any_with id y o id (with_pair id o links)
    ∙ ap (λ (t : Bool). is_pair id y (o, id) || t) (any_with id y id o links)
    ∙ own_test id.0 o.0 y.0 l differ)
    (cases_Bool (linked_in links id o)))
    (cases_Bool (eqb id.0 o.0))

gathered : (l e a n : Bool) → ((l || (e && n)) || (a && n)) ≡ (l || ((e || a) && n))
gathered true e a n = refl
gathered false true a true = refl
gathered false true a false = and_false a
gathered false false a n = refl

join_all : (id y : ChannelId) (adds : List ChannelId) (links : List Pair) → linked_in (pairs_with_all id adds links) id y ≡ (linked_in links id y || (is_among adds y && not (eqb y.0 id.0)))
join_all id y [] links = sym (or_false (linked_in links id y))
join_all id y (o ∷ adds) links =
    let n = not (eqb y.0 id.0) in
    join_all id y adds (pairs_with id o links)
    ∙ ap (λ (t : Bool). t || (is_among adds y && n)) (join_own links id o y)
    ∙ gathered (linked_in links id y) (eqb o.0 y.0) (is_among adds y) n

part_test : (i o y : ℕ) → ((eqb i i && eqb y o) || (eqb i o && eqb y i)) ≡ eqb o y
part_test i o y = grind (arith, nat_tests)

pub part_own : (links : List Pair) (id o y : ChannelId) → linked_in (pairs_without id o links) id y ≡ (linked_in links id y && not (eqb o.0 y.0))
part_own links id o y =
    any_filter id y (λ pair. not (is_pair id o pair || is_pair o id pair)) links
    ∙ ap (λ (t : Bool). linked_in links id y && not t) (part_test id.0 o.0 y.0)

lessened : (l e a : Bool) → ((l && not e) && not a) ≡ (l && not (e || a))
lessened true true a = refl
lessened true false a = refl
lessened false e a = refl

part_all : (id y : ChannelId) (removes : List ChannelId) (links : List Pair) → linked_in (pairs_without_all id removes links) id y ≡ (linked_in links id y && not (is_among removes y))
part_all id y [] links = sym (and_true (linked_in links id y))
part_all id y (o ∷ removes) links =
    part_all id y removes (pairs_without id o links)
    ∙ ap (λ (t : Bool). t && not (is_among removes y)) (part_own links id o y)
    ∙ lessened (linked_in links id y) (eqb o.0 y.0) (is_among removes y)

abbrev pub links_after : TreeState → ChannelId → Change → List Pair
links_after tree id change = pairs_without_all id change.links_remove (pairs_with_all id change.links_add tree.links)

-- the partners after a change are those that the definition says
pub own_after : (tree : TreeState) (id : ChannelId) (change : Change) (y : ChannelId) → linked_in (links_after tree id change) id y ≡ is_partner_after tree id change y
own_after tree id change y =
    part_all id y change.links_remove (pairs_with_all id change.links_add tree.links)
    ∙ ap (λ (t : Bool). t && not (is_among change.links_remove y)) (join_all id y change.links_add tree.links)

-- links between two others stay
other_test : (i o x y : ℕ) (l : Bool) → eqb x i ≡ false → eqb y i ≡ false → ((eqb o x && eqb i y) || ((eqb i x && eqb o y) || l)) ≡ l
other_test i o x y true one two = grind (arith, nat_tests)
other_test i o x y false one two = grind (arith, nat_tests)

rest_test : (i o x y : ℕ) → eqb x i ≡ false → eqb y i ≡ false → ((eqb x i && eqb y o) || (eqb x o && eqb y i)) ≡ false
rest_test i o x y one two = grind (arith, nat_tests)

pub join_other : (links : List Pair) (id o x y : ChannelId) → eqb x.0 id.0 ≡ false → eqb y.0 id.0 ≡ false → linked_in (pairs_with id o links) x y ≡ linked_in links x y
join_other links id o x y one two =
    cond_both ((eqb id.0 o.0) || linked_in links id o) links (with_pair o id (with_pair id o links)) (λ zs. linked_in zs x y ≡ linked_in links x y)
    (λ e. refl)
    (λ e. any_with x y o id (with_pair id o links) ∙ ap (λ (t : Bool). is_pair x y (o, id) || t) (any_with x y id o links) ∙ other_test id.0 o.0 x.0 y.0 (linked_in links x y) one two)

pub part_other : (links : List Pair) (id o x y : ChannelId) → eqb x.0 id.0 ≡ false → eqb y.0 id.0 ≡ false → linked_in (pairs_without id o links) x y ≡ linked_in links x y
part_other links id o x y one two =
    any_filter x y (λ pair. not (is_pair id o pair || is_pair o id pair)) links
    ∙ ap (λ (t : Bool). linked_in links x y && not t) (rest_test id.0 o.0 x.0 y.0 one two)
    ∙ and_true (linked_in links x y)

join_others : (id x y : ChannelId) (adds : List ChannelId) (links : List Pair) → eqb x.0 id.0 ≡ false → eqb y.0 id.0 ≡ false → linked_in (pairs_with_all id adds links) x y ≡ linked_in links x y
join_others id x y [] links one two = refl
join_others id x y (o ∷ adds) links one two = join_others id x y adds (pairs_with id o links) one two ∙ join_other links id o x y one two

part_others : (id x y : ChannelId) (removes : List ChannelId) (links : List Pair) → eqb x.0 id.0 ≡ false → eqb y.0 id.0 ≡ false → linked_in (pairs_without_all id removes links) x y ≡ linked_in links x y
part_others id x y [] links one two = refl
part_others id x y (o ∷ removes) links one two = part_others id x y removes (pairs_without id o links) one two ∙ part_other links id o x y one two

pub other_after : (tree : TreeState) (id : ChannelId) (change : Change) (x y : ChannelId) → eqb x.0 id.0 ≡ false → eqb y.0 id.0 ≡ false → linked_in (links_after tree id change) x y ≡ linked_in tree.links x y
other_after tree id change x y one two =
    part_others id x y change.links_remove (pairs_with_all id change.links_add tree.links) one two
    ∙ join_others id x y change.links_add tree.links one two

pub linked_back : (links : List Pair) (x y : ChannelId) → AreBothWays links → linked_in links x y ≡ true → linked_in links y x ≡ true
linked_back links x y both on =
    let (pair, has, is) = any_from (is_pair x y) links on in
    let there : Contains links (y, x) = subst (λ (p : Pair). Contains links (p.1, p.0)) (pair_is x y pair is) (All-contains (λ (p : Pair). Contains links (p.1, p.0)) links pair both has) in
    any_has (is_pair y x) (y, x) links (and_from (eqb y.0 y.0) (eqb x.0 x.0) (eq-eqb y.0 y.0 refl) (eq-eqb x.0 x.0 refl)) there

-- the pairs stay pairs
all_parts : (rows : List Row) (id : ChannelId) (ids : List ChannelId) → list_all (is_there rows) (id ∷ ids) ≡ true → (is_there rows id ≡ true) × (list_all (is_there rows) ids ≡ true)
all_parts rows id ids all = and_parts (is_there rows id) (list_all (is_there rows) ids) all

pub pairs_joined : (rows : List Row) (links : List Pair) (id o : ChannelId) → is_there rows id ≡ true → is_there rows o ≡ true → ArePairs rows links → ArePairs rows (pairs_with id o links)
pairs_joined rows links id o here there are =
    cond_both ((eqb id.0 o.0) || linked_in links id o) links (with_pair o id (with_pair id o links)) (ArePairs rows)
    (λ e. are)
    (λ e. let (differ, new) = or_parts (eqb id.0 o.0) (linked_in links id o) e in
    pairs_made rows links id o here there (λ (s : id.0 ≡ o.0). both_ways (eqb id.0 o.0) differ (eq-eqb id.0 o.0 s)) new are)

pairs_joined_all : (rows : List Row) (id : ChannelId) (adds : List ChannelId) (links : List Pair) → is_there rows id ≡ true → list_all (is_there rows) adds ≡ true → ArePairs rows links → ArePairs rows (pairs_with_all id adds links)
pairs_joined_all rows id [] links here there are = are
pairs_joined_all rows id (o ∷ adds) links here there are =
    let (one, rest) = all_parts rows o adds there in
    pairs_joined_all rows id adds (pairs_with id o links) here rest (pairs_joined rows links id o here one are)

pairs_parted_all : (rows : List Row) (id : ChannelId) (removes : List ChannelId) (links : List Pair) → ArePairs rows links → ArePairs rows (pairs_without_all id removes links)
pairs_parted_all rows id [] links are = are
pairs_parted_all rows id (o ∷ removes) links are = pairs_parted_all rows id removes (pairs_without id o links) (pairs_parted rows links id o are)

pub pairs_after : (tree : TreeState) (id : ChannelId) (change : Change) → is_there tree.channels id ≡ true → list_all (is_there tree.channels) change.links_add ≡ true → ArePairs tree.channels tree.links → ArePairs tree.channels (links_after tree id change)
pairs_after tree id change here there are =
    pairs_parted_all tree.channels id change.links_remove (pairs_with_all id change.links_add tree.links) (pairs_joined_all tree.channels id change.links_add tree.links here there are)

-- numbers that rise and are all among others that rise are no more
rising_within : (xs ys : List ℕ) → AllPairs (λ x y. x < y) xs → AllPairs (λ x y. x < y) ys → ((n : ℕ) → Contains xs n → Contains ys n) → length xs ≤ length ys
rising_within [] ys one two among = omega arith
rising_within (x ∷ xs) [] one two among = let (k, within, is) = among x (0, omega arith, refl) in absurd (omega arith)
rising_within (x ∷ xs) (y ∷ ys) one two among =
    ⊎_elim
    (λ (same : y ≡ x).
    let rest = rising_within xs ys (AllPairs-tail (λ a b. a < b) x xs one) (AllPairs-tail (λ a b. a < b) y ys two)
    (λ n has. let up = above n has in later n (λ (e : y ≡ n). absurd (omega arith)) (among n (own n has))) in
    omega arith)
    (λ (has : Contains ys x).
    let rest = rising_within (x ∷ xs) ys one (AllPairs-tail (λ a b. a < b) y ys two) (each has) in
    omega arith)
    (head (among x (0, omega arith, refl)))
  where
    head : Contains (y ∷ ys) x → (y ≡ x) ⊎ Contains ys x
    head (zero, within, is) = inl is
    head (suc k, within, is) = inr (k, omega arith, is)

    above : (n : ℕ) → Contains xs n → x < n
    above n (k, within, is) = let less : x < get_or xs k n = one 0 (suc k) n (omega arith) (omega arith) in omega arith

    below : (n : ℕ) → Contains ys n → y < n
    below n (k, within, is) = let less : y < get_or ys k n = two 0 (suc k) n (omega arith) (omega arith) in omega arith

    later : (n : ℕ) → y ≢ n → Contains (y ∷ ys) n → Contains ys n
    later n differ (zero, within, is) = absurd (differ is)
    later n differ (suc k, within, is) = (k, omega arith, is)

    own : (n : ℕ) → Contains xs n → Contains (x ∷ xs) n
    own n (k, within, is) = (suc k, omega arith, is)

    each : Contains ys x → (n : ℕ) → Contains (x ∷ xs) n → Contains ys n
    each has n (zero, within, is) = subst (Contains ys) is has
    each has n (suc k, within, is) =
        let here : Contains xs n = (k, omega arith, is) in
        let up = above n here in
        let up-2 = below x has in
        later n (λ (e : y ≡ n). absurd (omega arith)) (among n (own n here))

abbrev ends_of : ChannelId → List Pair → List ℕ
ends_of x links = map (λ pair. pair.1.0) (filter (starts_at x) links)

abbrev numbers_linked : List Pair → ChannelId → List Row → List ℕ
numbers_linked links x rows = map number (filter (λ row. linked_in links x row.channel.id) rows)

ends_test : (x a b c d : ℕ) → eqb a x ≡ true → eqb c x ≡ true → (ltb a c || (eqb c a && ltb b d)) ≡ true → b < d
ends_test x a b c d one two above = grind (arith, nat_tests)

ends_rise : (x : ChannelId) (links : List Pair) → Ordered links → AllPairs (λ a b. a < b) (ends_of x links)
ends_rise x links ordered =
    let own = filter (starts_at x) links in
    AllPairs-map (λ pair later. IsTrue (is_above pair.0 pair.1 later)) (λ a b. a < b) (λ pair. pair.1.0) own
    (λ i j d below within above.
    let one = get_or own i d in
    let two = get_or own j d in
    ends_test x.0 one.0.0 one.1.0 two.0.0 two.1.0 (filter_passes (starts_at x) links i d (omega arith)) (filter_passes (starts_at x) links j d within) above)
    (AllPairs-filter (λ pair later. IsTrue (is_above pair.0 pair.1 later)) (starts_at x) links ordered)

linked_rise : (links : List Pair) (x : ChannelId) (rows : List Row) → Rise rows → AllPairs (λ a b. a < b) (numbers_linked links x rows)
linked_rise links x rows rise =
    let p : Row → Bool = λ row. linked_in links x row.channel.id in
    AllPairs-map (λ row later. number row < number later) (λ a b. a < b) number (filter p rows) (λ i j d below within less. less)
    (AllPairs-filter (λ row later. number row < number later) p rows rise)

ends_linked : (rows : List Row) (links : List Pair) (x : ChannelId) (n : ℕ) → ArePairs rows links → Contains (ends_of x links) n → Contains (numbers_linked links x rows) n
ends_linked rows links x n are has =
    let (k, within, passes) = passes_from (starts_at x) (λ pair. pair.1.0) links n has in
    let pair = get_or links k (x, x) in
    let (starts, ends) = passes (x, x) in
    let (row, found) = some_row (row_of rows pair.1) (are.between k (x, x) within).1 in
    let (j, inside, is) = row_stands rows pair.1 row found in
    let same = number_found rows pair.1 row found in
    let on : linked_in links x row.channel.id ≡ true = any_has (is_pair x row.channel.id) pair links (and_from (eqb pair.0.0 x.0) (eqb pair.1.0 (number row)) starts (eq-eqb pair.1.0 (number row) (sym same))) (k, within, get_or_default links k pair (x, x) within) in
    passes_to (λ one. linked_in links x one.channel.id) number rows n (j, inside, λ d. (ap (λ (r : Row). linked_in links x r.channel.id) (is d) ∙ on, ap number (is d) ∙ same ∙ ends))

linked_ends : (rows : List Row) (links : List Pair) (x : ChannelId) (n : ℕ) → Contains (numbers_linked links x rows) n → Contains (ends_of x links) n
linked_ends rows links x n has =
    let (j, inside, passes) = passes_from (λ row. linked_in links x row.channel.id) number rows n has in
    let row = get_or rows j root_row in
    let (on, named) = passes root_row in
    let (pair, (k, within, here), is) = any_from (is_pair x row.channel.id) links on in
    let (starts, ends) = and_parts (eqb pair.0.0 x.0) (eqb pair.1.0 (number row)) is in
    passes_to (starts_at x) (λ one. one.1.0) links n (
      k,
      within,
      λ d.
          let same : get_or links k d ≡ pair = get_or_default links k d pair within ∙ here in
          (ap (starts_at x) same ∙ starts, ap (λ (p : Pair). p.1.0) same ∙ eqb-true pair.1.0 (number row) ends ∙ named),
    )

-- the pairs of a channel are as many as the channels that it is linked to
pub counted : (rows : List Row) (links : List Pair) (x : ChannelId) → Rise rows → ArePairs rows links → count_by (starts_at x) links ≡ count_by (λ row. linked_in links x row.channel.id) rows
counted rows links x rise are =
    let p : Row → Bool = λ row. linked_in links x row.channel.id in
    let up = rising_within (ends_of x links) (numbers_linked links x rows) (ends_rise x links are.ordered) (linked_rise links x rows rise) (λ n has. ends_linked rows links x n are has) in
    let down = rising_within (numbers_linked links x rows) (ends_of x links) (linked_rise links x rows rise) (ends_rise x links are.ordered) (λ n has. linked_ends rows links x n has) in
    omega (arith, length-map (filter (starts_at x) links) (λ pair. pair.1.0), length-map (filter p rows) number, length-filter (starts_at x) links, length-filter p rows)

-- a test that passes one row more at most
count_one_more : (p q : Row → Bool) (n : ℕ) (rows : List Row) → Rise rows → ((row : Row) → q row ≡ true → (p row ≡ true) ⊎ (number row ≡ n)) → count_by q rows ≤ count_by p rows + 1
count_one_more p q n [] rise more = omega arith
count_one_more p q n (row ∷ rows) rise more =
    let f : Row → ℕ = λ y. worth (p y) in
    let g : Row → ℕ = λ y. worth (q y) in
    let rest = count_one_more p q n rows (AllPairs-tail (λ one later. number one < number later) row rows rise) more in
    ⊎_elim
    (λ (on : q row ≡ true). ⊎_elim
    (λ (was : p row ≡ true). omega (arith, sum_by-cons f row rows, sum_by-cons g row rows, ap worth on, ap worth was))
    (λ (here : number row ≡ n).
    let others : count_by q rows ≤ count_by p rows = count_le_at q p rows (λ k d within on-2.
    let less : number row < number (get_or rows k d) = rise 0 (suc k) d (omega arith) (omega arith) in
    ⊎_elim (λ (was : p (get_or rows k d) ≡ true). was) (λ (again : number (get_or rows k d) ≡ n). absurd (omega arith)) (more (get_or rows k d) on-2)) in
    omega (arith, sum_by-cons f row rows, sum_by-cons g row rows, ap worth on))
    (more row on))
    (λ (off : q row ≡ false). omega (arith, sum_by-cons f row rows, sum_by-cons g row rows, ap worth off))
    (cases_Bool (q row))

-- where the change leaves no channel too many links, its links are links
pub links_fit : (tree : TreeState) (id : ChannelId) (change : Change) → Rise tree.channels → AreLinks tree.channels tree.links → is_there tree.channels id ≡ true → list_all (is_there tree.channels) change.links_add ≡ true → overlinks tree id change ≡ false → AreLinks tree.channels (links_after tree id change)
links_fit tree id change rise are here adds fits =
    let rows = tree.channels in
    let after = links_after tree id change in
    let own : Row → Bool = λ row. is_partner_after tree id change row.channel.id in
    let fresh : Row → Bool = λ row. is_new_partner tree id change row.channel.id && leb 64 (length (partners tree row.channel.id)) in
    let pairs = pairs_after tree id change here adds are.pairs in
    let (few, none) = or_parts (ltb 64 (count_by own rows)) (list_any fresh rows) fits in
    record {
      pairs = pairs;
      few_each = λ x.
          let q : Row → Bool = λ row. linked_in after x row.channel.id in
          let p : Row → Bool = λ row. linked_in tree.links x row.channel.id in
          let now = counted rows after x rise pairs in
          let was = counted rows tree.links x rise are.pairs in
          ⊎_elim
          (λ (mine : eqb x.0 id.0 ≡ true).
          let same : x ≡ id = same_number x id mine in
          let less : count_by q rows ≤ count_by own rows = count_le_at q own rows (λ k d within on. sym (own_after tree id change (get_or rows k d).channel.id) ∙ ap (λ (y : ChannelId). linked_in after y (get_or rows k d).channel.id) (sym same) ∙ on) in
          omega (arith, ltb-false 64 (count_by own rows) few))
          (λ (other : eqb x.0 id.0 ≡ false).
          let back : (row : Row) → q row ≡ true → number row ≡ id.0 → is_partner_after tree id change x ≡ true = λ row on here-2.
          sym (own_after tree id change x) ∙ linked_back after x id pairs.both (ap (linked_in after x) (sym (ap (λ n. record { 0 = n }) here-2)) ∙ on) in
          let still : (row : Row) → q row ≡ true → (number row ≡ id.0 → ⊥) → p row ≡ true = λ row on off.
          sym (other_after tree id change x row.channel.id other (ne_eqb (number row) id.0 off)) ∙ on in
          ⊎_elim
          (λ (new : is_new_partner tree id change x ≡ true).
          let room : leb 64 (length (partners tree x)) ≡ false = room_of x new in
          let more : count_by q rows ≤ count_by p rows + 1 = count_one_more p q id.0 rows rise (λ row on. ⊎_elim (λ (e : number row ≡ id.0). inr e) (λ (off : number row ≡ id.0 → ⊥). inl (still row on off)) (cases_eq (number row) id.0)) in
          omega (arith, room_left tree.links x room))
          (λ (old : is_new_partner tree id change x ≡ false).
          let less : count_by q rows ≤ count_by p rows = count_le_at q p rows (λ k d within on.
          let row = get_or rows k d in
          ⊎_elim
          (λ (e : number row ≡ id.0). ap (linked_in tree.links x) (ap (λ n. record { 0 = n }) e) ∙ linked_back tree.links id x are.pairs.both (known x (back row on e) old))
          (λ (off : number row ≡ id.0 → ⊥). still row on off)
          (cases_eq (number row) id.0)) in
          omega (arith, are.few_each x))
          (cases_Bool (is_new_partner tree id change x)))
          (cases_Bool (eqb x.0 id.0));
    }
  where
    known : (x : ChannelId) → is_partner_after tree id change x ≡ true → is_new_partner tree id change x ≡ false → linked_in tree.links id x ≡ true
    known x on old =
        ⊎_elim
        (λ (was : linked_in tree.links id x ≡ true). was)
        (λ (off : linked_in tree.links id x ≡ false). absurd (both_ways (is_new_partner tree id change x) old (and_from (is_partner_after tree id change x) (not (linked_in tree.links id x)) on (ap not off))))
        (cases_Bool (linked_in tree.links id x))

    room_of : (x : ChannelId) → is_new_partner tree id change x ≡ true → leb 64 (length (partners tree x)) ≡ false
    room_of x new =
        let rows = tree.channels in
        let fresh : Row → Bool = λ row. is_new_partner tree id change row.channel.id && leb 64 (length (partners tree row.channel.id)) in
        let pairs = pairs_after tree id change here adds are.pairs in
        let (few, none) = or_parts (ltb 64 (count_by (λ row. is_partner_after tree id change row.channel.id) rows)) (list_any fresh rows) fits in
        let on = own_after tree id change x ∙ (and_parts (is_partner_after tree id change x) (not (linked_in tree.links id x)) new).0 in
        let (pair, has, is) = any_from (is_pair id x) (links_after tree id change) on in
        let there : is_there rows x ≡ true = subst (λ (p : Pair). is_there rows p.1 ≡ true) (pair_is id x pair is) (All-contains (IsBetween rows) (links_after tree id change) pair pairs.between has).1 in
        let (row, found) = some_row (row_of rows x) there in
        let (k, within, stands) = row_stands rows x row found in
        let same : row.channel.id ≡ x = ap (λ n. record { 0 = n }) (number_found rows x row found) in
        let off : fresh row ≡ false = ap fresh (sym (stands row)) ∙ none_passes fresh rows none k row within in
        let off-2 : (is_new_partner tree id change x && leb 64 (length (partners tree x))) ≡ false = ap (λ (y : ChannelId). is_new_partner tree id change y && leb 64 (length (partners tree y))) (sym same) ∙ off in
        sym (ap (λ (b : Bool). b && leb 64 (length (partners tree x))) new) ∙ off-2

not_over : (n : ℕ) → n ≤ 64 → ltb 64 n ≡ false
not_over n few = grind (arith, nat_tests)

full_from : (n : ℕ) → leb 64 n ≡ true → 64 ≤ n
full_from n full = grind (arith, nat_tests)

new_is_other : (was among own gone : Bool) → (((was || (among && not own)) && not gone) && not was) ≡ true → own ≡ false
new_is_other true among own gone on = absurd (both_ways true (ap not (sym (and_false (not gone)) ∙ on)) refl)
new_is_other false true true gone on = absurd (both_ways false refl on)
new_is_other false true false gone on = refl
new_is_other false false own gone on = absurd (both_ways false refl on)

held_before : (l a n r : Bool) → a ≡ false → ((l || (a && n)) && r) ≡ true → l ≡ true
held_before true a n r off on = refl
held_before false true n r off on = sym off
held_before false false n r off on = on

never_new : (l a n r c : Bool) → a ≡ false → ((((l || (a && n)) && r) && not l) && c) ≡ false
never_new true a n true c off = refl
never_new true a n false c off = refl
never_new false true n r c off = absurd (both_ways true off refl)
never_new false false n r c off = refl

-- where no link comes, no channel has too many
pub no_link_more : (tree : TreeState) (id : ChannelId) (change : Change) → Rise tree.channels → AreLinks tree.channels tree.links → change.links_add ≡ [] → overlinks tree id change ≡ false
no_link_more tree id change rise are none =
    let rows = tree.channels in
    let own : Row → Bool = λ row. is_partner_after tree id change row.channel.id in
    let was : Row → Bool = λ row. linked_in tree.links id row.channel.id in
    let fresh : Row → Bool = λ row. is_new_partner tree id change row.channel.id && leb 64 (length (partners tree row.channel.id)) in
    let off : (y : ChannelId) → is_among change.links_add y ≡ false = λ y. ap (λ (adds : List ChannelId). is_among adds y) none in
    let less : count_by own rows ≤ count_by was rows = count_le_at own was rows (λ k d within on.
    let y = (get_or rows k d).channel.id in
    held_before (linked_in tree.links id y) (is_among change.links_add y) (not (eqb y.0 id.0)) (not (is_among change.links_remove y)) (off y) on) in
    let few : count_by own rows ≤ 64 = omega (arith, less, counted rows tree.links id rise are.pairs, are.few_each id) in
    or_from (ltb 64 (count_by own rows)) (list_any fresh rows)
    (not_over (count_by own rows) few)
    (list_any_none fresh rows (λ k d within.
    let y = (get_or rows k d).channel.id in
    never_new (linked_in tree.links id y) (is_among change.links_add y) (not (eqb y.0 id.0)) (not (is_among change.links_remove y)) (leb 64 (length (partners tree y))) (off y)))

-- links are links after a change only where it leaves no channel too many
pub fits_back : (tree : TreeState) (id : ChannelId) (change : Change) → Rise tree.channels → AreLinks tree.channels tree.links → is_there tree.channels id ≡ true → list_all (is_there tree.channels) change.links_add ≡ true → AreLinks tree.channels (links_after tree id change) → overlinks tree id change ≡ false
fits_back tree id change rise are here adds fit =
    let rows = tree.channels in
    let after = links_after tree id change in
    let own : Row → Bool = λ row. is_partner_after tree id change row.channel.id in
    let fresh : Row → Bool = λ row. is_new_partner tree id change row.channel.id && leb 64 (length (partners tree row.channel.id)) in
    let mine : Row → Bool = λ row. linked_in after id row.channel.id in
    let less : count_by own rows ≤ count_by mine rows = count_le_at own mine rows (λ k d within on. own_after tree id change (get_or rows k d).channel.id ∙ on) in
    or_from (ltb 64 (count_by own rows)) (list_any fresh rows)
    (not_over (count_by own rows) (omega (arith, counted rows after id rise fit.pairs, fit.few_each id)))
    (list_any_none fresh rows (λ k d within. ⊎_elim
    (λ (on : fresh (get_or rows k d) ≡ true).
    let x = (get_or rows k d).channel.id in
    let (new, full) = and_parts (is_new_partner tree id change x) (leb 64 (length (partners tree x))) on in
    let (partner, old) = and_parts (is_partner_after tree id change x) (not (linked_in tree.links id x)) new in
    let other : eqb x.0 id.0 ≡ false = new_is_other (linked_in tree.links id x) (is_among change.links_add x) (eqb x.0 id.0) (is_among change.links_remove x) new in
    let p : Row → Bool = λ row. linked_in tree.links x row.channel.id in
    let q : Row → Bool = λ row. linked_in after x row.channel.id in
    let back : linked_in after x id ≡ true = linked_back after id x fit.pairs.both (own_after tree id change x ∙ partner) in
    let unlinked : linked_in tree.links x id ≡ false = ⊎_elim
    (λ (was : linked_in tree.links x id ≡ true). absurd (both_ways (not (linked_in tree.links id x)) (ap not (linked_back tree.links x id are.pairs.both was)) old))
    (λ (off : linked_in tree.links x id ≡ false). off)
    (cases_Bool (linked_in tree.links x id)) in
    let more : count_by p rows < count_by q rows = count_less p q rows
    (λ row was. ⊎_elim
    (λ (e : number row ≡ id.0). ap (linked_in after x) (ap (λ n. record { 0 = n }) e) ∙ back)
    (λ (off : number row ≡ id.0 → ⊥). other_after tree id change x row.channel.id other (ne_eqb (number row) id.0 off) ∙ was)
    (cases_eq (number row) id.0))
    (any_there (λ y. linked_in after x y && not (linked_in tree.links x y)) rows id here (and_from (linked_in after x id) (not (linked_in tree.links x id)) back (ap not unlinked))) in
    let many : 64 ≤ length (partners tree x) = full_from (length (partners tree x)) full in
    absurd (omega (arith, more, many, counted rows after x rise fit.pairs, fit.few_each x, counted rows tree.links x rise are.pairs, length-filter (starts_at x) tree.links, length-map (filter (starts_at x) tree.links) (λ pair. pair.1))))
    (λ (off : fresh (get_or rows k d) ≡ false). off)
    (cases_Bool (fresh (get_or rows k d)))))

-- after a change of its links a channel has the partners that the definition says, and links are links exactly where none has too many
pub links_both_ways : (tree : TreeState) (id : ChannelId) (change : Change) → IsProper tree → is_there tree.channels id ≡ true → list_all (is_there tree.channels) change.links_add ≡ true → (overlinks tree id change ≡ false) ↔ AreLinks tree.channels (links_after tree id change)
links_both_ways tree id change proper here adds = (
  links_fit tree id change proper.rise proper.joined here adds,
  fits_back tree id change proper.rise proper.joined here adds,
)
