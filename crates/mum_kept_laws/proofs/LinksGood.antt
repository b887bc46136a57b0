-- The links that are kept of a proper tree are those between two different channels, each once, few at each channel.
use Rattle.mum_kept_laws.proofs.Common.{◌≡◌, ℕ, suc, ◌<◌, ◌≤◌, ◌==◌, ◌&&◌, ◌||◌, Bool, true, false, not, cond, nat_lt, List, [], ◌∷◌, length, filter, map, Option, Some, None, is_some, refl, sym, ap, ◌∙◌, arith, IsTrue, count_by, list_any, option_map, option_map_or, and_from, and_parts, eq-eqb, eqb-true, false≢true, ltb-true, nat_tests, length-map, AllPairs-filter, length-filter, is_among, ChannelId, Row, IsProperTree, is_there, row_of, Ordered, Pair, TreeState, is_above, is_pair, partners, starts_at, AllPairs-tail, linked_back, count_by-cons, Each, each_filter, each_from_all, each_self, each_so, same_channel, AreGoodLinks, JoinsTwo, is_link_of, is_kept_link, is_lasting, kept_links, lasts}
use Rattle.mum_kept_laws.proofs.{Counting.AreOnce, Counting.few_among, Counting.occurs, Infos.placeless_rows, OrderLength.none_counted, Restricted.all_from_each, Restricted.each_kept, Restricted.lasting_found, Restricted.lasting_rows}

-- ---- each pair is there once

pairs_once : (a b : ChannelId) (pairs : List Pair) → Ordered pairs → count_by (is_pair a b) pairs ≤ 1
pairs_once a b [] ordered = omega arith
pairs_once a b (pair ∷ pairs) ordered = step (is_pair a b pair) refl (pairs_once a b pairs (AllPairs-tail (λ one later. IsTrue (is_above one.0 one.1 later)) pair pairs ordered))
  where
    above : Each (λ later. is_above pair.0 pair.1 later ≡ true) pairs
    above = each_from_all (λ later. is_above pair.0 pair.1 later ≡ true) pairs (λ k d within. ordered 0 (suc k) d (omega arith) (omega arith))

    other : (x y z w u v : ℕ) → (nat_lt x z || ((z == x) && nat_lt y w)) ≡ true → ((x == u) && (y == v)) ≡ true → ((z == u) && (w == v)) ≡ false
    other x y z w u v more same = grind (arith, nat_tests)

    step : (same : Bool) → is_pair a b pair ≡ same → count_by (is_pair a b) pairs ≤ 1 → count_by (is_pair a b) (pair ∷ pairs) ≤ 1
    step true same few =
        let none : count_by (is_pair a b) pairs ≡ 0 =
        none_counted (is_pair a b) pairs (each_so (λ later. is_above pair.0 pair.1 later ≡ true) (λ later. is_pair a b later ≡ false) (λ later more. other pair.0.0 pair.1.0 later.0.0 later.1.0 a.0 b.0 more same) pairs above) in
        omega (arith, none, count_by-cons (is_pair a b) pair pairs, ap (λ (b : Bool). cond {A = ℕ} b 1 0) same)
    step false off few = omega (arith, few, count_by-cons (is_pair a b) pair pairs, ap (λ (b : Bool). cond {A = ℕ} b 1 0) off)

-- ---- the other end of a link

abbrev other_end : ChannelId → Pair → ChannelId
other_end id pair = cond (pair.0.0 == id.0) pair.1 pair.0

-- of the links of a channel to another there is one
same_other : (id y : ChannelId) (pair : Pair) → pair.0.0 < pair.1.0 → is_link_of id pair ≡ true → ((other_end id pair).0 == y.0) ≡ true → is_pair (cond (nat_lt id.0 y.0) id y) (cond (nat_lt id.0 y.0) y id) pair ≡ true
same_other id y pair less own same = by_end (pair.0.0 == id.0) refl own same
  where
    first_lower : (a b c d : ℕ) → a < b → (a == c) ≡ true → (b == d) ≡ true → (nat_lt c d ≡ true) × (((a == c) && (b == d)) ≡ true)
    first_lower a b c d less one two = (grind (arith, nat_tests), and_from (a == c) (b == d) one two)

    second_lower : (a b c d : ℕ) → a < b → (b == c) ≡ true → (a == d) ≡ true → (nat_lt c d ≡ false) × (((a == d) && (b == c)) ≡ true)
    second_lower a b c d less one two = (grind (arith, nat_tests), and_from (a == d) (b == c) two one)

    by_end : (b : Bool) → (pair.0.0 == id.0) ≡ b → (b || (pair.1.0 == id.0)) ≡ true → ((cond b pair.1 pair.0).0 == y.0) ≡ true → is_pair (cond (nat_lt id.0 y.0) id y) (cond (nat_lt id.0 y.0) y id) pair ≡ true
    by_end true first own same =
        let two = first_lower pair.0.0 pair.1.0 id.0 y.0 less first same in
        ap (λ (b : Bool). is_pair (cond b id y) (cond b y id) pair) two.0 ∙ two.1
    by_end false off own same =
        let two = second_lower pair.0.0 pair.1.0 id.0 y.0 less own same in
        ap (λ (b : Bool). is_pair (cond b id y) (cond b y id) pair) two.0 ∙ two.1

-- what passes the one test passes the other, so it is no more often there
no_more : {X : Type 0} (p q : X → Bool) (xs : List X) → Each (λ x. p x ≡ true → q x ≡ true) xs → count_by p xs ≤ count_by q xs
no_more p q [] so = omega arith
no_more p q (x ∷ xs) so = step (p x) refl (q x) refl (no_more p q xs so.1)
  where
    step : (b : Bool) → p x ≡ b → (c : Bool) → q x ≡ c → count_by p xs ≤ count_by q xs → count_by p (x ∷ xs) ≤ count_by q (x ∷ xs)
    step true on true also few = omega (arith, few, count_by-cons p x xs, count_by-cons q x xs, ap (λ (b : Bool). cond {A = ℕ} b 1 0) on, ap (λ (b : Bool). cond {A = ℕ} b 1 0) also)
    step true on false off few = absurd (false≢true (sym off ∙ so.0 on))
    step false off c is few = omega (arith, few, count_by-cons p x xs, count_by-cons q x xs, ap (λ (b : Bool). cond {A = ℕ} b 1 0) off)

count_other : (id y : ChannelId) (pairs : List Pair) → count_by (λ one. one.0 == y.0) (map (other_end id) (filter (is_link_of id) pairs)) ≡ count_by (λ pair. is_link_of id pair && ((other_end id pair).0 == y.0)) pairs
count_other id y [] = refl
count_other id y (pair ∷ pairs) = step (is_link_of id pair) refl (count_other id y pairs)
  where
    rest : List ChannelId
    rest = map (other_end id) (filter (is_link_of id) pairs)

    step : (b : Bool) → is_link_of id pair ≡ b → occurs y rest ≡ count_by (λ one. is_link_of id one && ((other_end id one).0 == y.0)) pairs
        → occurs y (map (other_end id) (cond b (pair ∷ filter (is_link_of id) pairs) (filter (is_link_of id) pairs))) ≡ count_by (λ one. is_link_of id one && ((other_end id one).0 == y.0)) (pair ∷ pairs)
    step true on same =
        omega (
          arith,
          same,
          count_by-cons (λ (one : ChannelId). one.0 == y.0) (other_end id pair) rest,
          count_by-cons (λ (one : Pair). is_link_of id one && ((other_end id one).0 == y.0)) pair pairs,
          ap (λ (b : Bool). cond {A = ℕ} (b && ((other_end id pair).0 == y.0)) 1 0) on,
        )
    step false off same =
        omega (arith, same, count_by-cons (λ (one : Pair). is_link_of id one && ((other_end id one).0 == y.0)) pair pairs, ap (λ (b : Bool). cond {A = ℕ} (b && ((other_end id pair).0 == y.0)) 1 0) off)

-- a linked channel is among the partners
among_partners : (id y : ChannelId) (pairs : List Pair) → list_any (is_pair id y) pairs ≡ true → is_among (map (λ (pair : Pair). pair.1) (filter (starts_at id) pairs)) y ≡ true
among_partners id y [] some = absurd (false≢true some)
among_partners id y (pair ∷ pairs) some = step (pair.0.0 == id.0) refl (pair.1.0 == y.0) refl some (among_partners id y pairs)
  where
    rest : List Pair
    rest = filter (starts_at id) pairs

    or_true : (b : Bool) → (b || true) ≡ true
    or_true true = refl
    or_true false = refl

    step : (b : Bool) → (pair.0.0 == id.0) ≡ b → (c : Bool) → (pair.1.0 == y.0) ≡ c → ((b && c) || list_any (is_pair id y) pairs) ≡ true
        → (list_any (is_pair id y) pairs ≡ true → is_among (map (λ (one : Pair). one.1) rest) y ≡ true) → is_among (map (λ (one : Pair). one.1) (cond b (pair ∷ rest) rest)) y ≡ true
    step true first true second some later = ap (λ (b : Bool). b || is_among (map (λ (one : Pair). one.1) rest) y) second
    step true first false off some later = ap (λ (b : Bool). (pair.1.0 == y.0) || b) (later some) ∙ or_true (pair.1.0 == y.0)
    step false off c is some later = later some

module _ (tree : TreeState) (proper : IsProperTree tree) where
  kept_pass : Each (λ pair. is_kept_link tree pair ≡ true) (kept_links tree)
  kept_pass = each_kept (is_kept_link tree) tree.links

  rises_of : (pair : Pair) → is_kept_link tree pair ≡ true → pair.0.0 < pair.1.0
  rises_of pair on = ltb-true pair.0.0 pair.1.0 (and_parts (nat_lt pair.0.0 pair.1.0) (lasts tree pair.0) (and_parts (nat_lt pair.0.0 pair.1.0 && lasts tree pair.0) (lasts tree pair.1) on).0).0

  -- what lasts is among the rows that are kept
  there_left : (id : ChannelId) → lasts tree id ≡ true → is_there (placeless_rows (lasting_rows tree.channels)) id ≡ true
  there_left id on = by_row (row_of tree.channels id) refl on
    where
      not_false : (b : Bool) → not b ≡ true → b ≡ false
      not_false true off = absurd (false≢true off)
      not_false false on = refl

      by_row : (found : Option Row) → row_of tree.channels id ≡ found → option_map_or is_lasting (option_map (λ (row : Row). row.channel) found) false ≡ true → is_there (placeless_rows (lasting_rows tree.channels)) id ≡ true
      by_row None none on = absurd (false≢true on)
      by_row (Some row) found on = ap (λ (o : Option Row). is_some o) (lasting_found tree.channels id row found (not_false row.channel.temporary on))

  joins : Each (JoinsTwo (placeless_rows (lasting_rows tree.channels))) (kept_links tree)
  joins =
      each_so (λ pair. is_kept_link tree pair ≡ true) (JoinsTwo (placeless_rows (lasting_rows tree.channels)))
      (λ pair on.
      let two = and_parts (nat_lt pair.0.0 pair.1.0 && lasts tree pair.0) (lasts tree pair.1) on in
      let one = and_parts (nat_lt pair.0.0 pair.1.0) (lasts tree pair.0) two.0 in
      (there_left pair.0 one.1, there_left pair.1 two.1, rises_of pair on)) (kept_links tree) kept_pass

  ordered_left : Ordered (kept_links tree)
  ordered_left = AllPairs-filter (λ pair later. IsTrue (is_above pair.0 pair.1 later)) (is_kept_link tree) tree.links proper.joined.pairs.ordered

  -- each link is one of the tree
  linked_each : Each (λ pair. list_any (is_pair pair.0 pair.1) tree.links ≡ true) (kept_links tree)
  linked_each = each_filter (λ pair. list_any (is_pair pair.0 pair.1) tree.links ≡ true) (is_kept_link tree) tree.links (each_self (λ (one : Pair). is_pair one.0 one.1) (λ pair. and_from (pair.0.0 == pair.0.0) (pair.1.0 == pair.1.0) (eq-eqb pair.0.0 pair.0.0 refl) (eq-eqb pair.1.0 pair.1.0 refl)) tree.links)

  few_left : (id : ChannelId) → count_by (is_link_of id) (kept_links tree) ≤ 64
  few_left id =
      let ends : List ChannelId = map (other_end id) (filter (is_link_of id) (kept_links tree)) in
      let many : length ends ≡ count_by (is_link_of id) (kept_links tree) = length-map (filter (is_link_of id) (kept_links tree)) (other_end id) ∙ length-filter (is_link_of id) (kept_links tree) in
      let all : length (partners tree id) ≡ count_by (starts_at id) tree.links = length-map (filter (starts_at id) tree.links) (λ (pair : Pair). pair.1) ∙ length-filter (starts_at id) tree.links in
      omega (arith, many, all, few_among (partners tree id) ends once among, proper.joined.few_each id)
    where
      once : AreOnce (map (other_end id) (filter (is_link_of id) (kept_links tree)))
      once y =
          omega (
            arith,
            count_other id y (kept_links tree),
            no_more (λ (pair : Pair). is_link_of id pair && ((other_end id pair).0 == y.0)) (is_pair (cond (nat_lt id.0 y.0) id y) (cond (nat_lt id.0 y.0) y id)) (kept_links tree)
                (each_so (λ pair. is_kept_link tree pair ≡ true) (λ pair. (is_link_of id pair && ((other_end id pair).0 == y.0)) ≡ true → is_pair (cond (nat_lt id.0 y.0) id y) (cond (nat_lt id.0 y.0) y id) pair ≡ true)
                (λ pair on both. let two = and_parts (is_link_of id pair) ((other_end id pair).0 == y.0) both in same_other id y pair (rises_of pair on) two.0 two.1) (kept_links tree) kept_pass),
            pairs_once (cond (nat_lt id.0 y.0) id y) (cond (nat_lt id.0 y.0) y id) (kept_links tree) ordered_left,
          )

      own_among : (pair : Pair) → list_any (is_pair pair.0 pair.1) tree.links ≡ true → is_link_of id pair ≡ true → is_among (partners tree id) (other_end id pair) ≡ true
      own_among pair linked own = by_end (pair.0.0 == id.0) refl own
        where
          by_end : (b : Bool) → (pair.0.0 == id.0) ≡ b → (b || (pair.1.0 == id.0)) ≡ true → is_among (partners tree id) (cond b pair.1 pair.0) ≡ true
          by_end true first own =
              let same : pair.0 ≡ id = same_channel pair.0 id (eqb-true pair.0.0 id.0 first) in
              among_partners id pair.1 tree.links (ap (λ (x : ChannelId). list_any (is_pair x pair.1) tree.links) (sym same) ∙ linked)
          by_end false off own =
              let same : pair.1 ≡ id = same_channel pair.1 id (eqb-true pair.1.0 id.0 own) in
              among_partners id pair.0 tree.links (ap (λ (x : ChannelId). list_any (is_pair x pair.0) tree.links) (sym same) ∙ linked_back tree.links pair.0 pair.1 proper.joined.pairs.both linked)

      over : (pairs : List Pair) → Each (λ pair. list_any (is_pair pair.0 pair.1) tree.links ≡ true) pairs → Each (λ one. is_among (partners tree id) one ≡ true) (map (other_end id) (filter (is_link_of id) pairs))
      over [] all = tt
      over (pair ∷ pairs) all = step (is_link_of id pair) refl (over pairs all.1)
        where
          step : (b : Bool) → is_link_of id pair ≡ b → Each (λ one. is_among (partners tree id) one ≡ true) (map (other_end id) (filter (is_link_of id) pairs))
              → Each (λ one. is_among (partners tree id) one ≡ true) (map (other_end id) (cond b (pair ∷ filter (is_link_of id) pairs) (filter (is_link_of id) pairs)))
          step true own rest = (own_among pair all.0 own, rest)
          step false off rest = rest

      among : Each (λ one. is_among (partners tree id) one ≡ true) (map (other_end id) (filter (is_link_of id) (kept_links tree)))
      among = over (kept_links tree) linked_each

  pub links_good : AreGoodLinks (placeless_rows (lasting_rows tree.channels)) (kept_links tree)
  links_good = record {
    between = all_from_each (JoinsTwo (placeless_rows (lasting_rows tree.channels))) (kept_links tree) joins;
    rising = ordered_left;
    few_each = few_left;
  }
