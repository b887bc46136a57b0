-- The edits of links fit one after the other, and join what they say.
use Rattle.mum_kept_laws.proofs.Common.{◌≡◌, ℕ, suc, ◌+◌, ◌*◌, ◌<◌, ◌≤◌, ◌==◌, ◌&&◌, ◌||◌, Bool, true, false, not, cond, eqb, nat_lt, List, [], ◌∷◌, ◌++◌, length, filter, map, Option, Some, None, count_by, is_none, is_some, append_assoc, append-nil, refl, sym, ap, subst, ◌∙◌, arith, IsTrue, nat_le, ⊤, list_any, and_from, eq-eqb, false≢true, ne_eqb, nat_tests, length-map, list_any-append, length-filter, ChannelId, Row, TreeFault, LinkCount, NoChannel, Change, fault_of_edit, with_change, with_given, IsProperTree, fault_of_link, is_there, number, row_of, Ordered, Pair, TreeState, are_linked, changed, is_above, is_pair, pairs_with, partners, starts_at, with_link, with_pair, edits_both_ways, AllPairs-tail, count_with, link_both_ways, Edit, applied, channel_parts, StateValue, Each, each_append, each_both, each_from_all, each_so, none_passes, named_in_tree, count_by-cons, count_by-filter-le, IsBare, Leads, leads, less_left, KeptChannel, JoinsTwo, is_link_of, link_edit, tree_rows}
use Rattle.mum_kept_laws.proofs.{Counting.count_append, Counting.count_apart, Infos.placeless_rows, Infos.there_placeless, Passing.Passes, Passing.nothing_passes, Passing.one_passes}

-- the channels are as they are to be, and these links join them
pub record IsLinked (channels : List KeptChannel) (met : List Pair) (tree : TreeState) : Type 0 where
  pub rows : placeless_rows tree.channels ≡ tree_rows channels
  -- from the lesser to the greater
  pub linked : (a b : ChannelId) → a.0 < b.0 → list_any (is_pair a b) tree.links ≡ list_any (is_pair a b) met
  pub counted : (a : ChannelId) → count_by (starts_at a) tree.links ≡ count_by (is_link_of a) met

pub none_linked : (channels : List KeptChannel) (tree : TreeState) → placeless_rows tree.channels ≡ tree_rows channels → tree.links ≡ [] → IsLinked channels [] tree
none_linked channels tree rows none = record {
  rows = rows;
  linked = λ a b less. ap (list_any (is_pair a b)) none;
  counted = λ a. ap (count_by (starts_at a)) none;
}

-- each link is after those before it
abbrev pub AreFresh : List Pair → List Pair → Type 0
AreFresh met [] = ⊤
AreFresh met (pair ∷ pairs) = (list_any (is_pair pair.0 pair.1) met ≡ false) × AreFresh (met ++ pair ∷ []) pairs

lower_differs : (one pair : Pair) → is_above one.0 one.1 pair ≡ true → is_pair pair.0 pair.1 one ≡ false
lower_differs one pair above = of_numbers one.0.0 one.1.0 pair.0.0 pair.1.0 above
  where
    of_numbers : (a b c d : ℕ) → (nat_lt a c || ((c == a) && nat_lt b d)) ≡ true → ((a == c) && (b == d)) ≡ false
    of_numbers a b c d above = grind (arith, nat_tests)

pub fresh_from : (met pairs : List Pair) → Ordered pairs → Each (λ pair. Each (λ one. is_above one.0 one.1 pair ≡ true) met) pairs → AreFresh met pairs
fresh_from met [] ordered all = tt
fresh_from met (pair ∷ pairs) ordered all = (
  none_passes (is_pair pair.0 pair.1) met (each_so (λ one. is_above one.0 one.1 pair ≡ true) (λ one. is_pair pair.0 pair.1 one ≡ false) (λ one above. lower_differs one pair above) met all.0),
  fresh_from (met ++ pair ∷ []) pairs (AllPairs-tail (λ one later. IsTrue (is_above one.0 one.1 later)) pair pairs ordered)
      (each_both (λ later. Each (λ one. is_above one.0 one.1 later ≡ true) met) (λ later. is_above pair.0 pair.1 later ≡ true) (λ later. Each (λ one. is_above one.0 one.1 later ≡ true) (met ++ pair ∷ []))
      (λ later before above. each_append (λ one. is_above one.0 one.1 later ≡ true) met (pair ∷ []) before (above, tt)) pairs all.1
      (each_from_all (λ later. is_above pair.0 pair.1 later ≡ true) pairs (λ k d within. ordered 0 (suc k) d (omega arith) (omega arith)))),
)

-- ---- one pair more

any_with : (p : Pair → Bool) (a b : ChannelId) (links : List Pair) → list_any p (with_pair a b links) ≡ (p (a, b) || list_any p links)
any_with p a b [] = refl
any_with p a b (pair ∷ links) = step (is_above a b pair) (any_with p a b links)
  where
    or_move : (x y z : Bool) → (x || (y || z)) ≡ (y || (x || z))
    or_move true true z = refl
    or_move true false z = refl
    or_move false y z = refl

    step : (above : Bool) → list_any p (with_pair a b links) ≡ (p (a, b) || list_any p links)
        → list_any p (cond above ((a, b) ∷ pair ∷ links) (pair ∷ with_pair a b links)) ≡ (p (a, b) || (p pair || list_any p links))
    step true rest = refl
    step false rest = ap (λ (x : Bool). p pair || x) rest ∙ or_move (p pair) (p (a, b)) (list_any p links)

or_swap : (a b : Bool) → (a || b) ≡ (b || (a || false))
or_swap true true = refl
or_swap true false = refl
or_swap false true = refl
or_swap false false = refl

-- the pair in the other direction is not of a lesser and a greater
turned_differs : (a b x y : ℕ) → a < b → x < y → ((b == x) && (a == y)) ≡ false
turned_differs a b x y less also = grind (arith, nat_tests)

count_either : (in_a in_b : Bool) (n : ℕ) → (in_a ≡ true → in_b ≡ true → ⊥) → cond in_b 1 0 + (cond in_a 1 0 + n) ≡ n + cond (in_a || in_b) 1 0
count_either true true n apart = absurd (apart refl refl)
count_either true false n apart = omega arith
count_either false true n apart = omega arith
count_either false false n apart = omega arith

never_both : (a b x : ℕ) → a < b → eqb a x ≡ true → eqb b x ≡ true → ⊥
never_both a b x less one other = grind (arith, nat_tests)

linked_more : (channels : List KeptChannel) (met : List Pair) (tree : TreeState) (a b : ChannelId) → a.0 < b.0 → IsLinked channels met tree
    → IsLinked channels (met ++ (a, b) ∷ []) (record tree { links = with_pair b a (with_pair a b tree.links) })
linked_more channels met tree a b less before = record {
  rows = before.rows;
  linked = λ x y also.
      any_with (is_pair x y) b a (with_pair a b tree.links)
      ∙ ap (λ (first : Bool). first || list_any (is_pair x y) (with_pair a b tree.links)) (turned_differs a.0 b.0 x.0 y.0 less also)
      ∙ any_with (is_pair x y) a b tree.links
      ∙ ap (λ (rest : Bool). is_pair x y (a, b) || rest) (before.linked x y also)
      ∙ or_swap (is_pair x y (a, b)) (list_any (is_pair x y) met)
      ∙ sym (list_any-append (is_pair x y) met ((a, b) ∷ []));
  counted = λ x.
      count_with (starts_at x) b a (with_pair a b tree.links)
      ∙ ap (λ (n : ℕ). cond (eqb b.0 x.0) 1 0 + n) (count_with (starts_at x) a b tree.links)
      ∙ ap (λ (n : ℕ). cond (eqb b.0 x.0) 1 0 + (cond (eqb a.0 x.0) 1 0 + n)) (before.counted x)
      ∙ count_either (eqb a.0 x.0) (eqb b.0 x.0) (count_by (is_link_of x) met) (never_both a.0 b.0 x.0 less)
      ∙ sym (counted_with x);
}
  where
    counted_with : (x : ChannelId) → count_by (is_link_of x) (met ++ (a, b) ∷ []) ≡ count_by (is_link_of x) met + cond (eqb a.0 x.0 || eqb b.0 x.0) 1 0
    counted_with x = omega (arith, count_append (is_link_of x) met ((a, b) ∷ []), count_by-cons (is_link_of x) (a, b) [])

-- ---- the edit of a link

unchanged : (id : ChannelId) (change : Change) (rows : List Row) → ((row : Row) → record row { channel = with_given change row.channel } ≡ row) → changed id (with_given change) rows ≡ rows
unchanged id change [] same = refl
unchanged id change (row ∷ rows) same =
    ap (λ (r : Row). r ∷ changed id (with_given change) rows) (step (eqb (number row) id.0)) ∙ ap (λ (rs : List Row). row ∷ rs) (unchanged id change rows same)
  where
    step : (b : Bool) → cond b (record row { channel = with_given change row.channel }) row ≡ row
    step true = same row
    step false = refl

two_there : (a b : Bool) → a ≡ true → b ≡ true → (a && (b && true)) ≡ true
two_there true true is also = refl
two_there true false is also = absurd (false≢true also)
two_there false b is also = absurd (false≢true is)

named_two : (a b : Bool) → a ≡ true → b ≡ true → (true && (a && (b && true)) && true) ≡ true
named_two true true is also = refl
named_two true false is also = absurd (false≢true also)
named_two false b is also = absurd (false≢true is)

neither : (a b : Bool) → a ≡ false → b ≡ false → (a || b) ≡ false
neither false b one two = two
neither true b one two = absurd (false≢true (sym one))

-- two are there, have room, and are not joined yet
record CanJoin (channels : List KeptChannel) (met : List Pair) (a b : ChannelId) : Type 0 where
  first_there : is_there (tree_rows channels) a ≡ true
  second_there : is_there (tree_rows channels) b ≡ true
  less : a.0 < b.0
  new : list_any (is_pair a b) met ≡ false
  first_room : count_by (is_link_of a) met < 64
  second_room : count_by (is_link_of b) met < 64

module _ (left : ℕ) (channels : List KeptChannel) (met : List Pair) (state : StateValue) (a b : ChannelId) (bare : IsBare (suc left) state) (before : IsLinked channels met state.tree) (can : CanJoin channels met a b) where
  abbrev change : Change
  change = channel_parts None None None None None (b ∷ []) []

  there : (x : ChannelId) → is_there (tree_rows channels) x ≡ true → is_there state.tree.channels x ≡ true
  there x is = sym (there_placeless state.tree.channels x) ∙ ap (λ (rows : List Row). is_there rows x) before.rows ∙ is

  a_there : is_there state.tree.channels a ≡ true
  a_there = there a can.first_there

  b_there : is_there state.tree.channels b ≡ true
  b_there = there b can.second_there

  partners_counted : (x : ChannelId) → length (partners state.tree x) ≡ count_by (is_link_of x) met
  partners_counted x = length-map (filter (starts_at x) state.tree.links) (λ pair. pair.1) ∙ length-filter (starts_at x) state.tree.links ∙ before.counted x

  has_room : (n : ℕ) → n < 64 → nat_le 64 n ≡ false
  has_room n few = grind (arith, nat_tests)

  not_crowded : (nat_le 64 (length (partners state.tree a)) || nat_le 64 (length (partners state.tree b))) ≡ false
  not_crowded =
      let first = can.first_room in
      let second = can.second_room in
      neither (nat_le 64 (length (partners state.tree a))) (nat_le 64 (length (partners state.tree b)))
      (has_room (length (partners state.tree a)) (omega (arith, partners_counted a)))
      (has_room (length (partners state.tree b)) (omega (arith, partners_counted b)))

  not_joined : list_any (is_pair a b) state.tree.links ≡ false
  not_joined = before.linked a b can.less ∙ can.new

  apart : eqb a.0 b.0 ≡ false
  apart = let less = can.less in ne_eqb a.0 b.0 (λ (e : a.0 ≡ b.0). absurd (omega arith))

  link_allowed : fault_of_link state.tree a b ≡ None
  link_allowed =
      let crowd : Bool = nat_le 64 (length (partners state.tree a)) || nat_le 64 (length (partners state.tree b)) in
      ap (λ (x : Bool). cond (not x) (Some NoChannel) (cond (eqb a.0 b.0 || are_linked state.tree a b) None (cond crowd (Some LinkCount) None)))
      (and_from (is_there state.tree.channels a) (is_there state.tree.channels b) a_there b_there)
      ∙ ap (λ (x : Bool). cond (eqb a.0 b.0 || are_linked state.tree a b) None (cond x (Some LinkCount) None)) not_crowded
      ∙ step (eqb a.0 b.0 || are_linked state.tree a b)
    where
      step : (x : Bool) → cond {A = Option TreeFault} x None None ≡ None
      step true = refl
      step false = refl

  link_change : with_change state.tree a change ≡ with_link state.tree a b
  link_change =
      ap (λ (rows : List Row). record { channels = rows; links = pairs_with a b state.tree.links; greatest = state.tree.greatest; limit = state.tree.limit })
      (unchanged a change state.tree.channels (λ row. refl))

  edit_allowed : fault_of_edit state.tree a change ≡ None
  edit_allowed =
      (edits_both_ways state.tree a change bare.proper.tree
      (named_in_tree state.tree a change bare.proper.tree (two_there (is_there state.tree.channels a) (is_there state.tree.channels b) a_there b_there))).1
      (subst IsProperTree (sym link_change) ((link_both_ways state.tree a b bare.proper.tree a_there b_there).0 link_allowed))

  link_led : Leads left state (link_edit (a, b))
  link_led =
      leads left state (link_edit (a, b)) refl bare
      (named_two (is_there state.tree.channels a) (is_there state.tree.channels b) a_there b_there)
      refl
      (and_from _ _ (and_from _ _ (ap is_none edit_allowed) refl) refl)

  link_tree : (applied state (link_edit (a, b))).tree ≡ record state.tree { links = with_pair b a (with_pair a b state.tree.links) }
  link_tree =
      ap (λ (s : StateValue). s.tree) link_led.is ∙ link_change
      ∙ ap (λ (x : Bool). record state.tree { links = cond x state.tree.links (with_pair b a (with_pair a b state.tree.links)) }) (neither (eqb a.0 b.0) (list_any (is_pair a b) state.tree.links) apart not_joined)

  link_linked : IsLinked channels (met ++ (a, b) ∷ []) (applied state (link_edit (a, b))).tree
  link_linked = subst (IsLinked channels (met ++ (a, b) ∷ [])) (sym link_tree) (linked_more channels met state.tree a b can.less before)

-- ---- all of them

pub links_pass : (channels : List KeptChannel) (pairs met : List Pair) (state : StateValue) (left : ℕ) → IsBare (length pairs + left) state → IsLinked channels met state.tree
    → Each (JoinsTwo (tree_rows channels)) pairs → AreFresh met pairs → ((a : ChannelId) → count_by (is_link_of a) met + count_by (is_link_of a) pairs ≤ 64)
    → Passes left state (map link_edit pairs) (λ later. IsLinked channels (met ++ pairs) later.tree)
links_pass channels [] met state left bare before joins fresh few =
    nothing_passes left state (λ later. IsLinked channels (met ++ []) later.tree) (less_left (0 + left) left state (omega arith) bare)
    (subst (λ (pairs : List Pair). IsLinked channels pairs state.tree) (sym (append-nil met)) before)
links_pass channels (pair ∷ pairs) met state left bare before joins fresh few =
    let more : ℕ = length pairs + left in
    let enough : IsBare (suc more) state = less_left (suc (length pairs) + left) (suc more) state (omega arith) bare in
    let can : CanJoin channels met pair.0 pair.1 = record {
      first_there = joins.0.0;
      second_there = joins.0.1;
      less = joins.0.2;
      new = fresh.0;
      first_room = omega (arith, few pair.0, count_by-cons (is_link_of pair.0) pair pairs, ap (λ (b : Bool). cond {A = ℕ} b 1 0) own_first);
      second_room = omega (arith, few pair.1, count_by-cons (is_link_of pair.1) pair pairs, ap (λ (b : Bool). cond {A = ℕ} b 1 0) own_second);
    } in
    let edit : Edit = link_edit pair in
    one_passes left more state edit (map link_edit pairs) (λ later. IsLinked channels (met ++ pair ∷ pairs) later.tree)
    (link_led more channels met state pair.0 pair.1 enough before can)
    (subst (λ (all : List Pair). Passes left (applied state edit) (map link_edit pairs) (λ later. IsLinked channels all later.tree)) (append_assoc met (pair ∷ []) pairs)
    (links_pass channels pairs (met ++ pair ∷ []) (applied state edit) left (link_led more channels met state pair.0 pair.1 enough before can).bare
    (link_linked more channels met state pair.0 pair.1 enough before can)
    joins.1 fresh.1
    (λ a. omega (arith, few a, count_by-cons (is_link_of a) pair pairs, count_append (is_link_of a) met (pair ∷ []), count_by-cons (is_link_of a) pair []))))
  where
    own_first : is_link_of pair.0 pair ≡ true
    own_first = ap (λ (b : Bool). b || (pair.1.0 == pair.0.0)) (eq-eqb pair.0.0 pair.0.0 refl)

    own_second : is_link_of pair.1 pair ≡ true
    own_second = ap (λ (b : Bool). (pair.0.0 == pair.1.0) || b) (eq-eqb pair.1.0 pair.1.0 refl) ∙ or_true (pair.0.0 == pair.1.0)
      where
        or_true : (b : Bool) → (b || true) ≡ true
        or_true true = refl
        or_true false = refl

-- ---- how many links there are

-- each of them begins at a channel that is there, at each at most 64
pub links_few : (rows : List Row) (pairs : List Pair) → Each (λ pair. is_there rows pair.0 ≡ true) pairs → ((a : ChannelId) → count_by (is_link_of a) pairs ≤ 64) → length pairs ≤ 64 * length rows
links_few rows pairs there few = over rows pairs there (λ a. omega (arith, few a, ends_more a pairs))
  where
    ends_more : (a : ChannelId) (xs : List Pair) → count_by (starts_at a) xs ≤ count_by (is_link_of a) xs
    ends_more a [] = omega arith
    ends_more a (x ∷ xs) = omega (arith, count_by-cons (starts_at a) x xs, count_by-cons (is_link_of a) x xs, ends_more a xs, either (x.0.0 == a.0) (x.1.0 == a.0))
      where
        either : (b c : Bool) → cond {A = ℕ} b 1 0 ≤ cond (b || c) 1 0
        either true c = omega arith
        either false true = omega arith
        either false false = omega arith

    over : (rows : List Row) (xs : List Pair) → Each (λ pair. is_there rows pair.0 ≡ true) xs → ((a : ChannelId) → count_by (starts_at a) xs ≤ 64) → length xs ≤ 64 * length rows
    over [] [] there few = omega arith
    over [] (x ∷ xs) there few = absurd (false≢true there.0)
    over (row ∷ rows) xs there few =
        let rest : List Pair = filter (λ (pair : Pair). not (starts_at row.channel.id pair)) xs in
        let fewer : length rest ≤ 64 * length rows = over rows rest (left_over xs there) (λ a. omega (arith, few a, count_by-filter-le (starts_at a) (λ (pair : Pair). not (starts_at row.channel.id pair)) xs)) in
        omega (arith, fewer, few row.channel.id, count_apart (starts_at row.channel.id) xs)
      where
        swapped : (m n : ℕ) → (m == n) ≡ false → (n == m) ≡ false
        swapped m n off = grind (arith, nat_tests)

        left_over : (ys : List Pair) → Each (λ pair. is_there (row ∷ rows) pair.0 ≡ true) ys → Each (λ pair. is_there rows pair.0 ≡ true) (filter (λ (pair : Pair). not (starts_at row.channel.id pair)) ys)
        left_over [] all = tt
        left_over (y ∷ ys) all = step (y.0.0 == row.channel.id.0) refl (left_over ys all.1)
          where
            step : (b : Bool) → (y.0.0 == row.channel.id.0) ≡ b → Each (λ pair. is_there rows pair.0 ≡ true) (filter (λ (pair : Pair). not (starts_at row.channel.id pair)) ys)
                → Each (λ pair. is_there rows pair.0 ≡ true) (cond (not b) (y ∷ filter (λ (pair : Pair). not (starts_at row.channel.id pair)) ys) (filter (λ (pair : Pair). not (starts_at row.channel.id pair)) ys))
            step true same rest = rest
            step false off rest = (sym (ap (λ (b : Bool). is_some (cond b (Some row) (row_of rows y.0))) (swapped y.0.0 (number row) off)) ∙ all.0, rest)
