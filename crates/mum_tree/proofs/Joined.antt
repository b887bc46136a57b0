-- What the links of every tree keep.
use Rattle.mum_tree.proofs.Common.{◌≡◌, ◌≢◌, ℕ, zero, suc, ◌<◌, ◌≤◌, ◌+◌, ◌||◌, ◌&&◌, not, Bool, true, false, cond, eqb, ltb, List, [], ◌∷◌, get_or, refl, arith, ap, sym, ◌∙◌, subst, IsTrue, All, AllPairs, Contains, count_by, filter, list_any, eqb-true, ne_eqb, cond_both, both_ways, not_from_false, or_from, or_parts, nat_tests, All-cons, All-contains, All-filter, All-nil, All-tail, All-weaker, filter_passes, sum_by-cons, AllPairs-cons, AllPairs-filter, ChannelId, Row, is_there, AreBothWays, AreLinks, ArePairs, IsBetween, IsProper, Pair, Ordered, TreeState, is_above, is_pair, pairs_without, starts_at, with_pair}
use Rattle.mum_tree.proofs.Find.{AllPairs-tail, contains_later}

pub links_none : (rows : List Row) → AreLinks rows []
links_none rows = record {
  pairs = record {
    between = All-nil (IsBetween rows);
    both = All-nil (λ pair. Contains [] (pair.1, pair.0));
    ordered = λ i j d below within. absurd (omega arith);
  };
  few_each = λ id. omega arith;
}

-- other rows, where what was there is there
pub links_kept : (rows rows-2 : List Row) (links : List Pair) → ((id : ChannelId) → is_there rows id ≡ true → is_there rows-2 id ≡ true) → AreLinks rows links → AreLinks rows-2 links
links_kept rows rows-2 links keeps are = record {
  pairs = record {
    between = All-weaker (IsBetween rows) (IsBetween rows-2) (λ pair is. (keeps pair.0 is.0, keeps pair.1 is.1, is.2)) links are.pairs.between;
    both = are.pairs.both;
    ordered = are.pairs.ordered;
  };
  few_each = are.few_each;
}

pub contains_filtered : {X : Type 0} (p : X → Bool) (xs : List X) (x : X) → Contains xs x → p x ≡ true → Contains (filter p xs) x
contains_filtered p [] x (k, within, is) keep = absurd (omega arith)
contains_filtered p (y ∷ xs) x (zero, within, is) keep = cond_both (p y) (y ∷ filter p xs) (filter p xs) (λ zs. Contains zs x) (λ e. (0, omega arith, is)) (λ e. absurd (both_ways (p x) (ap p (sym is) ∙ e) keep))
contains_filtered p (y ∷ xs) x (suc k, within, is) keep =
    let rest = contains_filtered p xs x (k, omega arith, is) keep in
    cond_both (p y) (y ∷ filter p xs) (filter p xs) (λ zs. Contains zs x) (λ e. contains_later y x (filter p xs) rest) (λ e. rest)

count_filtered : (q p : Pair → Bool) (xs : List Pair) → count_by q (filter p xs) ≤ count_by q xs
count_filtered q p [] = omega arith
count_filtered q p (x ∷ xs) =
    let less = count_filtered q p xs in
    let f : Pair → ℕ = λ y. cond (q y) 1 0 in
    cond_both (p x) (x ∷ filter p xs) (filter p xs) (λ zs. count_by q zs ≤ count_by q (x ∷ xs)) (λ e. omega (arith, sum_by-cons f x xs, sum_by-cons f x (filter p xs))) (λ e. omega (arith, sum_by-cons f x xs))

-- the pairs that pass a test which treats both directions alike
pub pairs_filtered : (p : Pair → Bool) (rows rows-2 : List Row) (links : List Pair) → ((pair : Pair) → p pair ≡ true → p (pair.1, pair.0) ≡ true) → ((pair : Pair) → p pair ≡ true → IsBetween rows pair → IsBetween rows-2 pair) → ArePairs rows links → ArePairs rows-2 (filter p links)
pairs_filtered p rows rows-2 links turns stays are = record {
  between = λ k d within. stays (get_or (filter p links) k d) (filter_passes p links k d within) (All-filter p (IsBetween rows) links are.between k d within);
  both = λ k d within.
      let pair = get_or (filter p links) k d in
      contains_filtered p links (pair.1, pair.0) (All-filter p (λ one. Contains links (one.1, one.0)) links are.both k d within) (turns pair (filter_passes p links k d within));
  ordered = AllPairs-filter (λ pair later. IsTrue (is_above pair.0 pair.1 later)) p links are.ordered;
}

pub links_filtered : (p : Pair → Bool) (rows rows-2 : List Row) (links : List Pair) → ((pair : Pair) → p pair ≡ true → p (pair.1, pair.0) ≡ true) → ((pair : Pair) → p pair ≡ true → IsBetween rows pair → IsBetween rows-2 pair) → AreLinks rows links → AreLinks rows-2 (filter p links)
links_filtered p rows rows-2 links turns stays are = record {
  pairs = pairs_filtered p rows rows-2 links turns stays are.pairs;
  few_each = λ id. omega (arith, count_filtered (starts_at id) p links, are.few_each id);
}

All-with : (P : Pair → Type 0) (a b : ChannelId) (links : List Pair) → P (a, b) → All P links → All P (with_pair a b links)
All-with P a b [] here all = All-cons P (a, b) [] here (All-nil P)
All-with P a b (pair ∷ links) here all =
    cond_both (is_above a b pair) ((a, b) ∷ pair ∷ links) (pair ∷ with_pair a b links) (All P) (λ e. All-cons P (a, b) (pair ∷ links) here all)
    (λ e. All-cons P pair (with_pair a b links) (all 0 pair (omega arith)) (All-with P a b links here (All-tail P pair links all)))

contains_new : (a b : ChannelId) (links : List Pair) → Contains (with_pair a b links) (a, b)
contains_new a b [] = (0, omega arith, refl)
contains_new a b (pair ∷ links) = cond_both (is_above a b pair) ((a, b) ∷ pair ∷ links) (pair ∷ with_pair a b links) (λ zs. Contains zs (a, b)) (λ e. (0, omega arith, refl)) (λ e. contains_later pair (a, b) (with_pair a b links) (contains_new a b links))

contains_old : (a b : ChannelId) (links : List Pair) (x : Pair) → Contains links x → Contains (with_pair a b links) x
contains_old a b [] x (k, within, is) = absurd (omega arith)
contains_old a b (pair ∷ links) x (zero, within, is) = cond_both (is_above a b pair) ((a, b) ∷ pair ∷ links) (pair ∷ with_pair a b links) (λ zs. Contains zs x) (λ e. (1, omega arith, is)) (λ e. (0, omega arith, is))
contains_old a b (pair ∷ links) x (suc k, within, is) =
    cond_both (is_above a b pair) ((a, b) ∷ pair ∷ links) (pair ∷ with_pair a b links) (λ zs. Contains zs x) (λ e. (suc (suc k), omega arith, is))
    (λ e. contains_later pair x (with_pair a b links) (contains_old a b links x (k, omega arith, is)))

-- a pair of numbers above another
above_trans : (a b c d e f : ℕ) → (ltb a c || (eqb c a && ltb b d)) ≡ true → (ltb c e || (eqb e c && ltb d f)) ≡ true → (ltb a e || (eqb e a && ltb b f)) ≡ true
above_trans a b c d e f one two = grind (arith, nat_tests)

above_other : (a b c d : ℕ) → (eqb c a && eqb d b) ≡ false → (ltb a c || (eqb c a && ltb b d)) ≡ false → (ltb c a || (eqb a c && ltb d b)) ≡ true
above_other a b c d differ off = grind (arith, nat_tests)

ordered_with : (a b : ChannelId) (links : List Pair) → All (λ pair. is_pair a b pair ≡ false) links → Ordered links → Ordered (with_pair a b links)
ordered_with a b [] new ordered = λ i j d below within. absurd (omega arith)
ordered_with a b (pair ∷ links) new ordered =
    let R : Pair → Pair → Type 0 = λ one later. IsTrue (is_above one.0 one.1 later) in
    let differ = new 0 pair (omega arith) in
    let rest = All-tail (λ one. is_pair a b one ≡ false) pair links new in
    let later : All (R pair) links = λ k d within. ordered 0 (suc k) d (omega arith) (omega arith) in
    cond_both (is_above a b pair) ((a, b) ∷ pair ∷ links) (pair ∷ with_pair a b links) (AllPairs R)
    (λ e. AllPairs-cons R (a, b) (pair ∷ links)
    (All-cons (R (a, b)) pair links e (All-weaker (R pair) (R (a, b)) (λ one above. above_trans a.0 b.0 pair.0.0 pair.1.0 one.0.0 one.1.0 e above) links later))
    ordered)
    (λ e. AllPairs-cons R pair (with_pair a b links) (All-with (R pair) a b links (above_other a.0 b.0 pair.0.0 pair.1.0 differ e) later)
    (ordered_with a b links rest (AllPairs-tail R pair links ordered)))

pub count_with : (q : Pair → Bool) (a b : ChannelId) (links : List Pair) → count_by q (with_pair a b links) ≡ cond (q (a, b)) 1 0 + count_by q links
count_with q a b [] = sum_by-cons (λ (y : Pair). cond (q y) 1 0) (a, b) []
count_with q a b (pair ∷ links) =
    let more = count_with q a b links in
    let f : Pair → ℕ = λ y. cond (q y) 1 0 in
    cond_both (is_above a b pair) ((a, b) ∷ pair ∷ links) (pair ∷ with_pair a b links) (λ zs. count_by q zs ≡ cond (q (a, b)) 1 0 + count_by q (pair ∷ links)) (λ e. sum_by-cons f (a, b) (pair ∷ links)) (λ e. omega (arith, sum_by-cons f pair links, sum_by-cons f pair (with_pair a b links)))

none_any : {X : Type 0} (p : X → Bool) (xs : List X) → list_any p xs ≡ false → All (λ x. p x ≡ false) xs
none_any p [] none = All-nil (λ x. p x ≡ false)
none_any p (x ∷ xs) none =
    let (first, rest) = or_parts (p x) (list_any p xs) none in
    All-cons (λ y. p y ≡ false) x xs first (none_any p xs rest)

-- a new pair in its place
pub ordered_more : (a b : ChannelId) (links : List Pair) → list_any (is_pair a b) links ≡ false → Ordered links → Ordered (with_pair a b links)
ordered_more a b links new ordered = ordered_with a b links (none_any (is_pair a b) links new) ordered

and_swap : (x y : Bool) → (x && y) ≡ (y && x)
and_swap true true = refl
and_swap true false = refl
and_swap false true = refl
and_swap false false = refl

or_swap : (x y : Bool) → (x || y) ≡ (y || x)
or_swap true true = refl
or_swap true false = refl
or_swap false true = refl
or_swap false false = refl

-- a pair that is neither direction of a link, turned round
turned : (w x y z : Bool) → not ((w && x) || (y && z)) ≡ true → not ((z && y) || (x && w)) ≡ true
turned w x y z off = ap (λ (t : Bool). not (t || (x && w))) (and_swap z y) ∙ ap (λ (t : Bool). not ((y && z) || t)) (and_swap x w) ∙ ap not (or_swap (y && z) (w && x)) ∙ off

few_more : (x y : Bool) (n : ℕ) → (x ≡ true → n < 64) → (y ≡ true → n < 64) → (x ≡ true → y ≡ false) → n ≤ 64 → cond x 1 0 + (cond y 1 0 + n) ≤ 64
few_more true true n one two apart few = absurd (both_ways true (apart refl) refl)
few_more true false n one two apart few = let less = one refl in omega arith
few_more false true n one two apart few = let less = two refl in omega arith
few_more false false n one two apart few = omega arith

both_parted_test : (a b : ChannelId) (pair : Pair) → not (is_pair a b pair || is_pair b a pair) ≡ true → not (is_pair a b (pair.1, pair.0) || is_pair b a (pair.1, pair.0)) ≡ true
both_parted_test a b pair off = turned (eqb pair.0.0 a.0) (eqb pair.1.0 b.0) (eqb pair.0.0 b.0) (eqb pair.1.0 a.0) off

pub both_parted : (links : List Pair) (a b : ChannelId) → AreBothWays links → AreBothWays (pairs_without a b links)
both_parted links a b both k d within =
    let p : Pair → Bool = λ pair. not (is_pair a b pair || is_pair b a pair) in
    let pair = get_or (filter p links) k d in
    contains_filtered p links (pair.1, pair.0) (All-filter p (λ one. Contains links (one.1, one.0)) links both k d within) (both_parted_test a b pair (filter_passes p links k d within))

pub ordered_parted : (links : List Pair) (a b : ChannelId) → Ordered links → Ordered (pairs_without a b links)
ordered_parted links a b ordered = AllPairs-filter (λ pair later. IsTrue (is_above pair.0 pair.1 later)) (λ pair. not (is_pair a b pair || is_pair b a pair)) links ordered

filter_whole : {X : Type 0} (p : X → Bool) (xs : List X) → All (λ x. p x ≡ true) xs → filter p xs ≡ xs
filter_whole p [] all = refl
filter_whole {X} p (x ∷ xs) all =
    ap (λ (b : Bool). cond b (x ∷ filter p xs) (filter p xs)) (all 0 x (omega arith))
    ∙ ap (λ (rest : List X). x ∷ rest) (filter_whole p xs (λ k d within. all (suc k) d (omega arith)))

-- a link that is taken away
pub pairs_parted : (rows : List Row) (links : List Pair) (a b : ChannelId) → ArePairs rows links → ArePairs rows (pairs_without a b links)
pairs_parted rows links a b are =
    pairs_filtered (λ pair. not (is_pair a b pair || is_pair b a pair)) rows rows links
    (λ pair off. turned (eqb pair.0.0 a.0) (eqb pair.1.0 b.0) (eqb pair.0.0 b.0) (eqb pair.1.0 a.0) off)
    (λ pair off is. is)
    are

pub links_parted : (rows : List Row) (links : List Pair) (a b : ChannelId) → AreLinks rows links → AreLinks rows (pairs_without a b links)
links_parted rows links a b are = record {
  pairs = pairs_parted rows links a b are.pairs;
  few_each = λ id. omega (arith, count_filtered (starts_at id) (λ pair. not (is_pair a b pair || is_pair b a pair)) links, are.few_each id);
}

count_same : (x y : ChannelId) (links : List Pair) → x.0 ≡ y.0 → count_by (starts_at x) links ≡ count_by (starts_at y) links
count_same x y links e = ap (λ n. count_by (starts_at (record { 0 = n })) links) e

-- a new link in both directions
pub both_made : (links : List Pair) (a b : ChannelId) → AreBothWays links → AreBothWays (with_pair b a (with_pair a b links))
both_made links a b both =
    let one = with_pair a b links in
    let two = with_pair b a one in
    let P : Pair → Type 0 = λ pair. Contains two (pair.1, pair.0) in
    All-with P b a one (contains_old b a one (a, b) (contains_new a b links))
    (All-with P a b links (contains_new b a one)
    (All-weaker (λ pair. Contains links (pair.1, pair.0)) P (λ pair is. contains_old b a one (pair.1, pair.0) (contains_old a b links (pair.1, pair.0) is)) links both))

-- what is not there in one direction is not in the other
pub none_turned : (links : List Pair) (a b : ChannelId) → AreBothWays links → All (λ pair. is_pair a b pair ≡ false) links → All (λ pair. is_pair b a pair ≡ false) links
none_turned links a b both none k d within =
    let pair = get_or links k d in
    and_swap (eqb pair.0.0 b.0) (eqb pair.1.0 a.0) ∙ All-contains (λ (p : Pair). is_pair a b p ≡ false) links (pair.1, pair.0) none (both k d within)

-- a link that is not there leaves all when it is taken away
pub parted_none : (links : List Pair) (a b : ChannelId) → AreBothWays links → list_any (is_pair a b) links ≡ false → pairs_without a b links ≡ links
parted_none links a b both none =
    let one = none_any (is_pair a b) links none in
    let two = none_turned links a b both one in
    filter_whole (λ pair. not (is_pair a b pair || is_pair b a pair)) links (λ k d within. not_from_false _ (or_from _ _ (one k d within) (two k d within)))

pub ordered_made : (links : List Pair) (a b : ChannelId) → AreBothWays links → a.0 ≢ b.0 → list_any (is_pair a b) links ≡ false → Ordered links → Ordered (with_pair b a (with_pair a b links))
ordered_made links a b both differ new ordered =
    let one = with_pair a b links in
    let none = none_any (is_pair a b) links new in
    let apart : is_pair b a (a, b) ≡ false = ap (λ (t : Bool). t && eqb b.0 a.0) (ne_eqb a.0 b.0 differ) in
    ordered_with b a one (All-with (λ pair. is_pair b a pair ≡ false) a b links apart (none_turned links a b both none)) (ordered_with a b links none ordered)

-- a new link between two channels
pub pairs_made : (rows : List Row) (links : List Pair) (a b : ChannelId) → is_there rows a ≡ true → is_there rows b ≡ true → a.0 ≢ b.0 → list_any (is_pair a b) links ≡ false → ArePairs rows links → ArePairs rows (with_pair b a (with_pair a b links))
pairs_made rows links a b here there differ new are = record {
  between = All-with (IsBetween rows) b a (with_pair a b links) (there, here, λ (e : b.0 ≡ a.0). differ (sym e)) (All-with (IsBetween rows) a b links (here, there, differ) are.between);
  both = both_made links a b are.both;
  ordered = ordered_made links a b are.both differ new are.ordered;
}

-- and both have room for it
pub links_made : (rows : List Row) (links : List Pair) (a b : ChannelId) → is_there rows a ≡ true → is_there rows b ≡ true → a.0 ≢ b.0 → list_any (is_pair a b) links ≡ false → count_by (starts_at a) links < 64 → count_by (starts_at b) links < 64 → AreLinks rows links → AreLinks rows (with_pair b a (with_pair a b links))
links_made rows links a b here there differ new room room-2 are =
    let one = with_pair a b links in
    let two = with_pair b a one in
    record {
      pairs = pairs_made rows links a b here there differ new are.pairs;
      few_each = λ id.
          let count : count_by (starts_at id) two ≡ cond (eqb b.0 id.0) 1 0 + (cond (eqb a.0 id.0) 1 0 + count_by (starts_at id) links) =
          count_with (starts_at id) b a one ∙ ap (λ n. cond (eqb b.0 id.0) 1 0 + n) (count_with (starts_at id) a b links) in
          subst (λ n. n ≤ 64) (sym count)
          (few_more (eqb b.0 id.0) (eqb a.0 id.0) (count_by (starts_at id) links)
          (λ e. subst (λ n. n < 64) (count_same b id links (eqb-true b.0 id.0 e)) room-2)
          (λ e. subst (λ n. n < 64) (count_same a id links (eqb-true a.0 id.0 e)) room)
          (λ e. ne_eqb a.0 id.0 (λ (f : a.0 ≡ id.0). differ (f ∙ sym (eqb-true b.0 id.0 e))))
          (are.few_each id));
    }

pub relinked : (tree : TreeState) (links : List Pair) → AreLinks tree.channels links → IsProper tree → IsProper (record { channels = tree.channels; links = links; greatest = tree.greatest; limit = tree.limit })
relinked tree links are proper = record {
  rise = proper.rise;
  root = proper.root;
  lead = proper.lead;
  apart = proper.apart;
  lasting = proper.lasting;
  places_fit = proper.places_fit;
  places_apart = proper.places_apart;
  few = proper.few;
  known = proper.known;
  joined = are;
  limited = proper.limited;
}
