-- A binary search in pairs that are in order.
use Rattle.mum_tree.proofs.Common.{◌≡◌, ℕ, zero, suc, ◌+◌, ◌<◌, ◌≤◌, ◌||◌, ◌&&◌, Bool, true, false, not, cond, eqb, ltb, List, [], ◌∷◌, length, get_or, take, drop, Result, Ok, Err, inl, inr, refl, sym, ap, subst, ◌∙◌, arith, ⊎_elim, All, filter, list_any, IsBinarySearchResult, IsNonDecreasingBy, IsPartitionedBy, IsPartitionPoint, IsSearchInRange, nat_cmp, ordering_index, ordering_then, Less, Equal, Greater, is_ok, Ordering, cases_lt, cases_order, eq-eqb, eqb-true, ltb-true, lt-ltb, ne_eqb, nat_tests, get_or-drop, length-drop, list_any_at, list_any_none, ChannelId, Pair, Ordered, is_above, is_pair, starts_at}

-- what holds of each pair with itself and with those above it holds along the list
along : (links : List Pair) (R : Pair → Pair → Type 0) → Ordered links → ((x : Pair) → R x x) → ((x y : Pair) → is_above x.0 x.1 y ≡ true → R x y) → (i j : ℕ) (d : Pair) → i ≤ j → j < length links → R (get_or links i d) (get_or links j d)
along links R ordered itself above i j d below within =
    ⊎_elim
    (λ (e : i ≡ j). subst (λ k. R (get_or links i d) (get_or links k d)) e (itself (get_or links i d)))
    (λ o. ⊎_elim (λ (l : i < j). above (get_or links i d) (get_or links j d) (ordered i j d l within)) (λ (g : j < i). absurd (omega arith)) o)
    (cases_order i j)

above_least : (a b c d : ℕ) → (ltb a c || (eqb c a && ltb b d)) ≡ true → a ≤ c
above_least a b c d above = grind (arith, nat_tests)

-- the channels that pairs begin at do not fall
pub starts_rise : (links : List Pair) (i j : ℕ) (d : Pair) → Ordered links → i ≤ j → j < length links → (get_or links i d).0.0 ≤ (get_or links j d).0.0
starts_rise links i j d ordered =
    along links (λ x y. x.0.0 ≤ y.0.0) ordered (λ x. omega arith) (λ x y above. above_least x.0.0 x.1.0 y.0.0 y.1.0 above) i j d

-- what begins at a lower channel comes before the others
pub starts_parted : (links : List Pair) (from : ChannelId) → Ordered links → IsPartitionedBy (λ link. ltb link.0.0 from.0) links
starts_parted links from ordered i j d below within lower =
    let rises = starts_rise links i j d ordered below within in
    lt-ltb _ _ (omega (arith, ltb-true _ _ lower))

abbrev pub pair_cmp : Pair → Pair → Ordering
pair_cmp x y = ordering_then (nat_cmp x.0.0 y.0.0) (nat_cmp x.1.0 y.1.0)

pair_equal : (a b c d : ℕ) → ordering_then (nat_cmp a c) (nat_cmp b d) ≡ Equal → (eqb a c && eqb b d) ≡ true
pair_equal a b c d same = grind (arith, nat_tests)

pair_less : (a b c d : ℕ) → ordering_then (nat_cmp a c) (nat_cmp b d) ≡ Less → (eqb a c && eqb b d) ≡ false
pair_less a b c d less = grind (arith, nat_tests)

pair_greater : (a b c d : ℕ) → ordering_then (nat_cmp a c) (nat_cmp b d) ≡ Greater → (eqb a c && eqb b d) ≡ false
pair_greater a b c d greater = grind (arith, nat_tests)

answer_rises : (a b c d e f : ℕ) → (ltb a c || (eqb c a && ltb b d)) ≡ true → ordering_index (ordering_then (nat_cmp a e) (nat_cmp b f)) ≤ ordering_index (ordering_then (nat_cmp c e) (nat_cmp d f))
answer_rises a b c d e f above = grind (arith, nat_tests)

answers_rise : (links : List Pair) (from to : ChannelId) → Ordered links → IsNonDecreasingBy (λ pair. ordering_index (pair_cmp pair (from, to))) links
answers_rise links from to ordered =
    along links (λ x y. ordering_index (pair_cmp x (from, to)) ≤ ordering_index (pair_cmp y (from, to))) ordered
    (λ x. omega arith)
    (λ x y above. answer_rises x.0.0 x.1.0 y.0.0 y.1.0 from.0 to.0 above)

-- a search for a pair finds it exactly where it is there
pub found_by_binary_search : (links : List Pair) (from to : ChannelId) → Ordered links → (r : Result ℕ ℕ) → IsSearchInRange r (length links) → IsBinarySearchResult (λ pair. pair_cmp pair (from, to)) links r → is_ok r ≡ list_any (is_pair from to) links
found_by_binary_search links from to ordered (Ok i) within equal =
    let d : Pair = (from, to) in
    sym (list_any_at (is_pair from to) links i d within (pair_equal (get_or links i d).0.0 (get_or links i d).1.0 from.0 to.0 (equal d)))
found_by_binary_search links from to ordered (Err i) within parted = sym (list_any_none (is_pair from to) links other)
  where
    other : All (λ pair. is_pair from to pair ≡ false) links
    other j d lt = elim (cases_lt j i) [
      | inl below ↦ pair_less (get_or links j d).0.0 (get_or links j d).1.0 from.0 to.0 ((parted (answers_rise links from to ordered)).0 j d (omega arith) below)
      | inr above ↦ pair_greater (get_or links j d).0.0 (get_or links j d).1.0 from.0 to.0 ((parted (answers_rise links from to ordered)).1 j d above lt)
    ]

not_above : (a b c d e f : ℕ) → (ltb c e || (eqb e c && ltb d f)) ≡ true → not (ltb a e || (eqb e a && ltb b f)) ≡ true → not (ltb a c || (eqb c a && ltb b d)) ≡ true
not_above a b c d e f above off = grind (arith, nat_tests)

-- what is not above a pair comes before what is
pub above_parted : (links : List Pair) (from to : ChannelId) → Ordered links → IsPartitionedBy (λ pair. not (is_above from to pair)) links
above_parted links from to ordered =
    along links (λ x y. not (is_above from to y) ≡ true → not (is_above from to x) ≡ true) ordered
    (λ x off. off)
    (λ x y above off. not_above from.0 to.0 x.0.0 x.1.0 y.0.0 y.1.0 above off)

-- from where the pairs of a channel begin they come before all others
pub own_parted : (links : List Pair) (first : ℕ) (of : ChannelId) → Ordered links → ((k : ℕ) (d : Pair) → first ≤ k → k < length links → of.0 ≤ (get_or links k d).0.0) → IsPartitionedBy (starts_at of) (drop first links)
own_parted links first of ordered after i j d below within own =
    let inside : first + j < length links = omega (arith, length-drop first links) in
    let here : (get_or (drop first links) i d).0.0 ≡ (get_or links (first + i) d).0.0 = ap (λ (pair : Pair). pair.0.0) (get_or-drop first links i d) in
    let later : (get_or (drop first links) j d).0.0 ≡ (get_or links (first + j) d).0.0 = ap (λ (pair : Pair). pair.0.0) (get_or-drop first links j d) in
    let rises = starts_rise links (first + i) (first + j) d ordered (omega arith) inside in
    let least = after (first + i) d (omega arith) (omega arith) in
    eq-eqb _ _ (omega (arith, eqb-true _ _ own))

filter_from : {X : Type 0} (p : X → Bool) (xs : List X) (i : ℕ) → ((k : ℕ) (d : X) → k < i → k < length xs → p (get_or xs k d) ≡ false) → filter p (drop i xs) ≡ filter p xs
filter_from p xs zero off = refl
filter_from p [] (suc i) off = refl
filter_from p (x ∷ xs) (suc i) off =
    filter_from p xs i (λ k d below within. off (suc k) d (omega arith) (omega arith))
    ∙ sym (ap (λ (b : Bool). cond b (x ∷ filter p xs) (filter p xs)) (off 0 x (omega arith) (omega arith)))

filter_front : {X : Type 0} (p : X → Bool) (xs : List X) (i : ℕ) → ((k : ℕ) (d : X) → k < i → k < length xs → p (get_or xs k d) ≡ true) → ((k : ℕ) (d : X) → i ≤ k → k < length xs → p (get_or xs k d) ≡ false) → take i xs ≡ filter p xs
filter_front {X = X} p [] zero on off = refl
filter_front {X = X} p [] (suc i) on off = refl
filter_front {X = X} p (x ∷ xs) zero on off =
    filter_front p xs zero (λ k d below within. absurd (omega arith)) (λ k d above within. off (suc k) d (omega arith) (omega arith))
    ∙ sym (ap (λ (b : Bool). cond b (x ∷ filter p xs) (filter p xs)) (off 0 x (omega arith) (omega arith)))
filter_front {X = X} p (x ∷ xs) (suc i) on off =
    ap (λ (ys : List X). x ∷ ys) (filter_front p xs i (λ k d below within. on (suc k) d (omega arith) (omega arith)) (λ k d above within. off (suc k) d (omega arith) (omega arith)))
    ∙ sym (ap (λ (b : Bool). cond b (x ∷ filter p xs) (filter p xs)) (on 0 x (omega arith) (omega arith)))

-- the front of them are the pairs of the channel
pub own_front : (links rest : List Pair) (first count : ℕ) (of : ChannelId) → rest ≡ drop first links → ((k : ℕ) (d : Pair) → k < first → (get_or links k d).0.0 < of.0) → IsPartitionPoint (λ pair. starts_at of pair ≡ true) (λ pair. starts_at of pair ≡ false) rest count → take count rest ≡ filter (starts_at of) links
own_front links rest first count of is before parted =
    filter_front (starts_at of) rest count (λ k d below within. parted.0 k d (omega arith) below) (λ k d above within. parted.1 k d above within)
    ∙ ap (filter (starts_at of)) is
    ∙ filter_from (starts_at of) links first (λ k d below within. ne_eqb _ _ (λ e. absurd (omega (arith, before k d below))))
