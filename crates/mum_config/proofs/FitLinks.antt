-- The edits that join channels fit one after the other.
use Rattle.mum_config.proofs.Common.{◌≡◌, ℕ, suc, ◌+◌, ◌&&◌, ◌||◌, not, Bool, true, false, cond, eqb, List, [], ◌∷◌, ◌++◌, length, map, Option, None, Some, count_by, is_none, is_some, min, max, refl, sym, ap, subst, ◌∙◌, arith, nat_le, filter, list_any, option_map_or, and_from, nat_tests, length-map, list_any-append, length-filter, Data, ChannelId, Row, LinkCount, NoChannel, Change, fault_of_edit, with_change, with_given, IsProperTree, fault_of_link, is_there, number, Pair, TreeState, are_linked, changed, is_above, is_pair, pairs_with, partners, starts_at, with_link, with_pair, edits_both_ways, count_with, link_both_ways, Edit, all_fit, applied, fits, channel_parts, StateValue, named_in_tree, greatest, number_fault, number_of, depth_of, against, place_text, within, Ends, are_same, end_fault, ends_fault, ends_of, first_end, is_crowded, is_end, is_new, join_edit, link_count, link_edit, link_fault, pair_of, second_end, with_ends, with_link_met, elements_fault, WrongKind, first_none, later_none, none_within}
use Rattle.mum_config.proofs.{Bare.IsBare, Bare.Leads, Bare.leads, Bare.less_left, Bare.one_more, Counts.count_by-append, Counts.count_one, Counts.end_is, MetChannels.channel, Said.not_against}

-- ---- links

-- the links that were met are those of the tree, where each is in both directions
pub record AreJoined (met : List Ends) (links : List Pair) : Type 0 where
  pub linked : (a b : ℕ) → eqb a b ≡ false → list_any (is_pair (channel a) (channel b)) links ≡ list_any (are_same (ends_of a b)) met
  pub counted : (a : ℕ) → count_by (starts_at (channel a)) links ≡ link_count met a

pub none_joined : AreJoined [] []
none_joined = record { linked = λ a b apart. refl; counted = λ a. refl }

or_move : (a b c : Bool) → (a || (b || c)) ≡ (b || (a || c))
or_move true true c = refl
or_move true false c = refl
or_move false b c = refl

any_with : (p : Pair → Bool) (a b : ChannelId) (links : List Pair) → list_any p (with_pair a b links) ≡ (p (a, b) || list_any p links)
any_with p a b [] = refl
any_with p a b (pair ∷ links) = step (is_above a b pair) (any_with p a b links)
  where
    step : (above : Bool) → list_any p (with_pair a b links) ≡ (p (a, b) || list_any p links)
        → list_any p (cond above ((a, b) ∷ pair ∷ links) (pair ∷ with_pair a b links)) ≡ (p (a, b) || (p pair || list_any p links))
    step true rest = refl
    step false rest = ap (λ (x : Bool). p pair || x) rest ∙ or_move (p pair) (p (a, b)) (list_any p links)

-- two pairs of numbers are the same in one direction or the other
same_ends : (a b x y : ℕ) → ((eqb b x && eqb a y) || (eqb a x && eqb b y)) ≡ (eqb (min x y) (min a b) && eqb (max x y) (max a b))
same_ends a b x y = grind (arith, nat_tests)

or_last : (a b c d : Bool) → (a || b) ≡ d → (a || (b || c)) ≡ (c || (d || false))
or_last true b true d is = refl
or_last true b false true is = refl
or_last true b false false is = absurd (cc)
or_last false true true d is = refl
or_last false true false true is = refl
or_last false true false false is = absurd (cc)
or_last false false true d is = refl
or_last false false false true is = absurd (cc)
or_last false false false false is = refl

count_either : (in_a in_b : Bool) (n : ℕ) → (in_a ≡ true → in_b ≡ true → ⊥) → cond in_b 1 0 + (cond in_a 1 0 + n) ≡ n + cond (in_a || in_b) 1 0
count_either true true n apart = absurd (apart refl refl)
count_either true false n apart = omega arith
count_either false true n apart = omega arith
count_either false false n apart = omega arith

never_both : (a b x : ℕ) → eqb a b ≡ false → eqb a x ≡ true → eqb b x ≡ true → ⊥
never_both a b x apart one other = grind (arith, nat_tests)

module _ (met : List Ends) (links : List Pair) (a b : ℕ) (joined : AreJoined met links) where
  joined_more : eqb a b ≡ false → AreJoined (met ++ ends_of a b ∷ []) (with_pair (channel b) (channel a) (with_pair (channel a) (channel b) links))
  joined_more apart = record {
    linked = λ x y differ.
        any_with (is_pair (channel x) (channel y)) (channel b) (channel a) (with_pair (channel a) (channel b) links)
        ∙ ap (λ (rest : Bool). (eqb b x && eqb a y) || rest) (any_with (is_pair (channel x) (channel y)) (channel a) (channel b) links)
        ∙ ap (λ (rest : Bool). (eqb b x && eqb a y) || ((eqb a x && eqb b y) || rest)) (joined.linked x y differ)
        ∙ or_last (eqb b x && eqb a y) (eqb a x && eqb b y) (list_any (are_same (ends_of x y)) met) (are_same (ends_of x y) (ends_of a b)) (same_ends a b x y)
        ∙ sym (list_any-append (are_same (ends_of x y)) met (ends_of a b ∷ []));
    counted = λ x.
        count_with (starts_at (channel x)) (channel b) (channel a) (with_pair (channel a) (channel b) links)
        ∙ ap (λ (n : ℕ). cond (eqb b x) 1 0 + n) (count_with (starts_at (channel x)) (channel a) (channel b) links)
        ∙ ap (λ (n : ℕ). cond (eqb b x) 1 0 + (cond (eqb a x) 1 0 + n)) (joined.counted x)
        ∙ count_either (eqb a x) (eqb b x) (link_count met x) (never_both a b x apart)
        ∙ sym (count_by-append (is_end x) met (ends_of a b ∷ []) ∙ ap (λ (n : ℕ). link_count met x + n) (count_one _ (is_end x) (ends_of a b) (end_is a b x)));
  }

  joined_with : AreJoined (with_ends met a b) (pairs_with (channel a) (channel b) links)
  joined_with = step (eqb a b) refl (list_any (is_pair (channel a) (channel b)) links) (list_any (are_same (ends_of a b)) met) (joined.linked a b)
    where
      step : (same : Bool) → eqb a b ≡ same → (there was : Bool) → (eqb a b ≡ false → there ≡ was)
          → AreJoined (cond (not same && not was) (met ++ ends_of a b ∷ []) met) (cond (same || there) links (with_pair (channel b) (channel a) (with_pair (channel a) (channel b) links)))
      step true is there was agree = joined
      step false is true true agree = joined
      step false is false false agree = joined_more is
      step false is true false agree = let clash : true ≡ false = agree is in absurd (cc)
      step false is false true agree = let clash : false ≡ true = agree is in absurd (cc)

-- ---- an edit of a link

unchanged : (id : ChannelId) (change : Change) (rows : List Row) → ((row : Row) → record row { channel = with_given change row.channel } ≡ row) → changed id (with_given change) rows ≡ rows
unchanged id change [] same = refl
unchanged id change (row ∷ rows) same =
    ap (λ (r : Row). r ∷ changed id (with_given change) rows) (step (eqb (number row) id.0)) ∙ ap (λ (rs : List Row). row ∷ rs) (unchanged id change rows same)
  where
    step : (b : Bool) → cond b (record row { channel = with_given change row.channel }) row ≡ row
    step true = same row
    step false = refl

two_there : (a b : Bool) → a ≡ true → b ≡ true → (a && (b && true)) ≡ true
two_there true true is also = refl
two_there true false is also = absurd (cc)
two_there false b is also = absurd (cc)

named_two : (a b : Bool) → a ≡ true → b ≡ true → (true && (a && (b && true)) && true) ≡ true
named_two true true is also = refl
named_two true false is also = absurd (cc)
named_two false b is also = absurd (cc)

record Linked (left : ℕ) (met : List Ends) (state : StateValue) (edit : Edit) : Type 0 where
  fit : fits state edit ≡ true
  bare : IsBare left (applied state edit)
  joined : AreJoined met (applied state edit).tree.links
  rows : (applied state edit).tree.channels ≡ state.tree.channels

module _ (left : ℕ) (met : List Ends) (state : StateValue) (a b : ℕ) (bare : IsBare (suc left) state) (joined : AreJoined met state.tree.links)
    (a_there : is_there state.tree.channels (channel a) ≡ true) (b_there : is_there state.tree.channels (channel b) ≡ true) (quiet : (is_new met a b && is_crowded met a b) ≡ false) where
  partners_counted : (n : ℕ) → length (partners state.tree (channel n)) ≡ link_count met n
  partners_counted n = length-map (filter (starts_at (channel n)) state.tree.links) (λ pair. pair.1) ∙ length-filter (starts_at (channel n)) state.tree.links ∙ joined.counted n

  not_crowded : eqb a b ≡ false → list_any (are_same (ends_of a b)) met ≡ false → (nat_le 64 (length (partners state.tree (channel a))) || nat_le 64 (length (partners state.tree (channel b)))) ≡ false
  not_crowded apart new =
      let fresh : is_new met a b ≡ true = and_from (not (eqb a b)) (not (list_any (are_same (ends_of a b)) met)) (ap not apart) (ap not new) in
      ap (λ (n : ℕ). nat_le 64 n || nat_le 64 (length (partners state.tree (channel b)))) (partners_counted a)
      ∙ ap (λ (n : ℕ). nat_le 64 (link_count met a) || nat_le 64 n) (partners_counted b)
      ∙ ap (λ (x : Bool). x && is_crowded met a b) (sym fresh) ∙ quiet

  link_allowed : fault_of_link state.tree (channel a) (channel b) ≡ None
  link_allowed =
      let crowd : Bool = nat_le 64 (length (partners state.tree (channel a))) || nat_le 64 (length (partners state.tree (channel b))) in
      ap (λ (x : Bool). cond (not x) (Some NoChannel) (cond (eqb a b || are_linked state.tree (channel a) (channel b)) None (cond crowd (Some LinkCount) None)))
      (and_from (is_there state.tree.channels (channel a)) (is_there state.tree.channels (channel b)) a_there b_there)
      ∙ step (eqb a b) refl (are_linked state.tree (channel a) (channel b)) refl
    where
      step : (same : Bool) → eqb a b ≡ same → (there : Bool) → are_linked state.tree (channel a) (channel b) ≡ there
          → cond (same || there) None (cond (nat_le 64 (length (partners state.tree (channel a))) || nat_le 64 (length (partners state.tree (channel b)))) (Some LinkCount) None) ≡ None
      step true is there also = refl
      step false is true also = refl
      step false is false also = ap (λ (x : Bool). cond x (Some LinkCount) None) (not_crowded is (sym (joined.linked a b is) ∙ also))

  link_change : with_change state.tree (channel a) (channel_parts None None None None None (channel b ∷ []) []) ≡ with_link state.tree (channel a) (channel b)
  link_change =
      ap (λ (rows : List Row). record { channels = rows; links = pairs_with (channel a) (channel b) state.tree.links; greatest = state.tree.greatest; limit = state.tree.limit })
      (unchanged (channel a) (channel_parts None None None None None (channel b ∷ []) []) state.tree.channels (λ row. refl))

  edit_allowed : fault_of_edit state.tree (channel a) (channel_parts None None None None None (channel b ∷ []) []) ≡ None
  edit_allowed =
      (edits_both_ways state.tree (channel a) (channel_parts None None None None None (channel b ∷ []) []) bare.proper.tree
      (named_in_tree state.tree (channel a) (channel_parts None None None None None (channel b ∷ []) []) bare.proper.tree (two_there (is_there state.tree.channels (channel a)) (is_there state.tree.channels (channel b)) a_there b_there))).1
      (subst IsProperTree (sym link_change) ((link_both_ways state.tree (channel a) (channel b) bare.proper.tree a_there b_there).0 link_allowed))

  link_led : Leads left state (join_edit a b)
  link_led =
      leads left state (join_edit a b) refl bare
      (named_two (is_there state.tree.channels (channel a)) (is_there state.tree.channels (channel b)) a_there b_there)
      refl
      (and_from _ _ (and_from _ _ (ap is_none edit_allowed) refl) refl)

  link_made : Linked left (with_ends met a b) state (join_edit a b)
  link_made =
      let tree : (applied state (join_edit a b)).tree ≡ with_link state.tree (channel a) (channel b) = ap (λ (s : StateValue). s.tree) link_led.is ∙ link_change in
      record {
        fit = link_led.fit;
        bare = link_led.bare;
        joined = subst (AreJoined (with_ends met a b)) (sym (ap (λ (t : TreeState). t.links) tree)) (joined_with met state.tree.links a b joined);
        rows = ap (λ (t : TreeState). t.channels) tree;
      }

-- ---- what is said of a pair

record AreGoodEnds (depths : List (ℕ × ℕ)) (met : List Ends) (a b : ℕ) : Type 0 where
  first_there : is_some (depth_of depths a) ≡ true
  second_there : is_some (depth_of depths b) ≡ true
  quiet : (is_new met a b && is_crowded met a b) ≡ false

some_is : {X : Type 0} (found : Option X) → is_none found ≡ false → is_some found ≡ true
some_is None none = absurd (cc)
some_is (Some x) none = refl

end_there : (depths : List (ℕ × ℕ)) (value : Data) → end_fault depths value ≡ None → is_some (depth_of depths (number_of value)) ≡ true
end_there depths value none = some_is (depth_of depths (number_of value)) (not_against _ _ (later_none (number_fault 0 greatest value) _ none))

good_ends : (depths : List (ℕ × ℕ)) (met : List Ends) (found : Option (Data × Data)) → option_map_or (ends_fault depths met) found (against WrongKind true) ≡ None
    → AreGoodEnds depths met (option_map_or (λ pair. number_of pair.0) found 0) (option_map_or (λ pair. number_of pair.1) found 0)
good_ends depths met None none = absurd (cc)
good_ends depths met (Some pair) none =
    let rest = later_none (within (place_text 0) (end_fault depths pair.0)) _ none in
    record {
      first_there = end_there depths pair.0 (none_within _ _ (first_none _ _ none));
      second_there = end_there depths pair.1 (none_within _ _ (first_none _ _ rest));
      quiet = not_against _ _ (later_none (within (place_text 1) (end_fault depths pair.1)) _ rest);
    }

link_step : (left : ℕ) (depths : List (ℕ × ℕ)) (met : List Ends) (state : StateValue) (value : Data) → IsBare (suc left) state → AreJoined met state.tree.links
    → ((n : ℕ) → is_there state.tree.channels (channel n) ≡ is_some (depth_of depths n)) → link_fault depths met value ≡ None
    → Linked left (with_link_met met value) state (link_edit value)
unfolding link_fault with_link_met link_edit
link_step left depths met state value bare joined there none =
    let good : AreGoodEnds depths met (first_end value) (second_end value) = good_ends depths met (pair_of value) none in
    link_made left met state (first_end value) (second_end value) bare joined (there (first_end value) ∙ good.first_there) (there (second_end value) ∙ good.second_there) good.quiet

pub links_fit : (values : List Data) (place : ℕ) (depths : List (ℕ × ℕ)) (met : List Ends) (state : StateValue) (left : ℕ) → IsBare (length values + left) state → AreJoined met state.tree.links
    → ((n : ℕ) → is_there state.tree.channels (channel n) ≡ is_some (depth_of depths n))
    → elements_fault (link_fault depths) with_link_met met place values ≡ None
    → all_fit state (map link_edit values) ≡ true
links_fit [] place depths met state left bare joined there none = refl
links_fit (value ∷ values) place depths met state left bare joined there none =
    let one : Linked (length values + left) (with_link_met met value) state (link_edit value) =
    link_step (length values + left) depths met state value (less_left (suc (length values) + left) (suc (length values + left)) state (omega arith) bare) joined there (none_within _ _ (first_none _ _ none)) in
    one_more state (link_edit value) (map link_edit values) one.fit
    (links_fit values (place + 1) depths (with_link_met met value) (applied state (link_edit value)) left one.bare one.joined
    (λ n. ap (λ (rows : List Row). is_there rows (channel n)) one.rows ∙ there n)
    (later_none _ _ none))
