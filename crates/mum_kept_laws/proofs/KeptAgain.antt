-- What is kept of the state that kept rows make is the rows.
use Rattle.mum_kept_laws.proofs.Common.{◌≡◌, ℕ, ◌<◌, ◌==◌, ◌&&◌, ◌||◌, Bool, true, false, not, cond, nat_lt, List, [], ◌∷◌, filter, map, Option, Some, refl, sym, ap, subst, ◌∙◌, arith, IsTrue, list_any, option_map, option_map_or, and_from, and_parts, false≢true, ltb-true, nat_tests, AllPairs-filter, ChannelId, ChannelPolicy, Row, IsBetween, is_there, number, row_of, Pair, TreeState, is_above, is_pair, some_row, same_pairs, IsProper, StateValue, policy_of, Each, each_find, each_from_all, each_so, KeptChannel, KeptRows, IsTree, JoinsTwo, is_kept_link, is_lasting, kept, kept_channel, kept_links, lasts, policy_in, policy_payload, tree_rows, each_unmapped, RebuildFits, RebuiltIsKept, respelled, respelled_rows}
use Rattle.mum_kept_laws.proofs.{Infos.placeless, Infos.placeless_rows, LinkPhase.IsLinked, Rebuilding.IsRebuilt, Rebuilding.all_pass}

-- ---- channels

abbrev kept_of_rows : StateValue → List Row → List KeptChannel
kept_of_rows state rows = map (λ row. kept_channel state row.channel) (filter (λ row. is_lasting row.channel) rows)

without_places : (state : StateValue) (rows : List Row) → kept_of_rows state rows ≡ kept_of_rows state (placeless_rows rows)
without_places state [] = refl
without_places state (row ∷ rows) = step row.channel.temporary (without_places state rows)
  where
    step : (b : Bool) → kept_of_rows state rows ≡ kept_of_rows state (placeless_rows rows)
        → map (λ (one : Row). kept_channel state one.channel) (cond (not b) (row ∷ filter (λ (one : Row). is_lasting one.channel) rows) (filter (λ (one : Row). is_lasting one.channel) rows))
        ≡ map (λ (one : Row). kept_channel state one.channel) (cond (not b) (placeless row ∷ filter (λ (one : Row). is_lasting one.channel) (placeless_rows rows)) (filter (λ (one : Row). is_lasting one.channel) (placeless_rows rows)))
    step true rest = rest
    step false rest = ap (λ (others : List KeptChannel). kept_channel state row.channel ∷ others) rest

with_policies : (state : StateValue) (channels : List KeptChannel) → Each (λ channel. policy_of state channel.id ≡ Some (policy_in channel.policy)) channels → kept_of_rows state (tree_rows channels) ≡ map respelled channels
with_policies state [] all = refl
with_policies state (channel ∷ channels) all =
    ap (λ (o : Option ChannelPolicy). record channel { policy = option_map_or (policy_payload channel.id) o [] } ∷ kept_of_rows state (tree_rows channels)) all.0
    ∙ ap (λ (others : List KeptChannel). respelled channel ∷ others) (with_policies state channels all.1)

-- ---- links

-- each channel lasts
all_last : (channels : List KeptChannel) (tree : TreeState) → placeless_rows tree.channels ≡ tree_rows channels → (id : ChannelId) → is_there tree.channels id ≡ true → lasts tree id ≡ true
all_last channels tree same id there =
    let found = some_row (row_of tree.channels id) there in
    let lasting : found.0.channel.temporary ≡ false = (each_find (λ (row : Row). row.channel.temporary ≡ false) (λ (row : Row). number row == id.0) tree.channels found.0 each_lasting found.1).0 in
    ap (λ (o : Option Row). option_map_or is_lasting (option_map (λ (row : Row). row.channel) o) false) found.1 ∙ ap not lasting
  where
    lasting_rows : (cs : List KeptChannel) → Each (λ row. row.channel.temporary ≡ false) (tree_rows cs)
    lasting_rows [] = tt
    lasting_rows (c ∷ cs) = (refl, lasting_rows cs)

    each_lasting : Each (λ row. row.channel.temporary ≡ false) tree.channels
    each_lasting = each_unmapped (λ row. row.channel.temporary ≡ false) placeless tree.channels (subst (Each (λ row. row.channel.temporary ≡ false)) (sym same) (lasting_rows channels))

any_filter : {X : Type 0} (test p : X → Bool) (xs : List X) → Each (λ x. test x ≡ true → p x ≡ true) xs → list_any test (filter p xs) ≡ list_any test xs
any_filter test p [] so = refl
any_filter test p (x ∷ xs) so = step (p x) refl (test x) refl (any_filter test p xs so.1)
  where
    step : (b : Bool) → p x ≡ b → (c : Bool) → test x ≡ c → list_any test (filter p xs) ≡ list_any test xs → list_any test (cond b (x ∷ filter p xs) (filter p xs)) ≡ (c || list_any test xs)
    step true on c is rest = ap (λ (b : Bool). b || list_any test (filter p xs)) is ∙ ap (λ (b : Bool). c || b) rest
    step false off true is rest = absurd (false≢true (sym off ∙ so.0 is))
    step false off false is rest = rest

none_filter : {X : Type 0} (test p : X → Bool) (xs : List X) → ((x : X) → p x ≡ true → test x ≡ false) → list_any test (filter p xs) ≡ false
none_filter test p [] so = refl
none_filter test p (x ∷ xs) so = step (p x) refl (none_filter test p xs so)
  where
    step : (b : Bool) → p x ≡ b → list_any test (filter p xs) ≡ false → list_any test (cond b (x ∷ filter p xs) (filter p xs)) ≡ false
    step true on rest = ap (λ (b : Bool). b || list_any test (filter p xs)) (so x on) ∙ rest
    step false off rest = rest

rising_pair : (a b x y : ℕ) → ((x == a) && (y == b)) ≡ true → a < b → nat_lt x y ≡ true
rising_pair a b x y same less = grind (arith, nat_tests)

falling_pair : (a b x y : ℕ) → nat_lt a b ≡ false → x < y → ((x == a) && (y == b)) ≡ false
falling_pair a b x y not_less rise = grind (arith, nat_tests)

links_again : (rows : KeptRows) (state : StateValue) → IsProper state → IsTree rows → IsLinked rows.channels rows.links state.tree → kept_links state.tree ≡ rows.links
links_again rows state proper good linked =
    same_pairs (kept_links state.tree) rows.links
    (AllPairs-filter (λ pair later. IsTrue (is_above pair.0 pair.1 later)) (is_kept_link state.tree) state.tree.links proper.tree.joined.pairs.ordered)
    good.1.rising
    (λ a b. by_order a b (nat_lt a.0 b.0) refl)
  where
    between : Each (IsBetween state.tree.channels) state.tree.links
    between = each_from_all (IsBetween state.tree.channels) state.tree.links proper.tree.joined.pairs.between

    is_kept : (a b : ChannelId) → a.0 < b.0 → (pair : Pair) → IsBetween state.tree.channels pair → is_pair a b pair ≡ true → is_kept_link state.tree pair ≡ true
    is_kept a b less pair two same =
        and_from (nat_lt pair.0.0 pair.1.0 && lasts state.tree pair.0) (lasts state.tree pair.1)
        (and_from (nat_lt pair.0.0 pair.1.0) (lasts state.tree pair.0) (rising_pair a.0 b.0 pair.0.0 pair.1.0 same less) (all_last rows.channels state.tree linked.rows pair.0 two.0))
        (all_last rows.channels state.tree linked.rows pair.1 two.1)

    not_rising : (a b : ChannelId) → nat_lt a.0 b.0 ≡ false → (pair : Pair) → is_kept_link state.tree pair ≡ true → is_pair a b pair ≡ false
    not_rising a b off pair on =
        falling_pair a.0 b.0 pair.0.0 pair.1.0 off
        (ltb-true pair.0.0 pair.1.0 (and_parts (nat_lt pair.0.0 pair.1.0) (lasts state.tree pair.0) (and_parts (nat_lt pair.0.0 pair.1.0 && lasts state.tree pair.0) (lasts state.tree pair.1) on).0).0)

    joins : Each (JoinsTwo (tree_rows rows.channels)) rows.links
    joins = each_from_all (JoinsTwo (tree_rows rows.channels)) rows.links good.1.between

    none_falls : (a b : ChannelId) → nat_lt a.0 b.0 ≡ false → (pairs : List Pair) → Each (JoinsTwo (tree_rows rows.channels)) pairs → list_any (is_pair a b) pairs ≡ false
    none_falls a b off [] all = refl
    none_falls a b off (pair ∷ pairs) all =
        ap (λ (x : Bool). x || list_any (is_pair a b) pairs) (falling_pair a.0 b.0 pair.0.0 pair.1.0 off all.0.2) ∙ none_falls a b off pairs all.1

    by_order : (a b : ChannelId) (less : Bool) → nat_lt a.0 b.0 ≡ less → list_any (is_pair a b) (kept_links state.tree) ≡ list_any (is_pair a b) rows.links
    by_order a b true on =
        let rise : a.0 < b.0 = ltb-true a.0 b.0 on in
        any_filter (is_pair a b) (is_kept_link state.tree) state.tree.links
        (each_so (IsBetween state.tree.channels) (λ pair. is_pair a b pair ≡ true → is_kept_link state.tree pair ≡ true) (λ pair two same. is_kept a b rise pair two same) state.tree.links between)
        ∙ linked.linked a b rise
    by_order a b false off = none_filter (is_pair a b) (is_kept_link state.tree) state.tree.links (not_rising a b off) ∙ sym (none_falls a b off rows.links joins)

-- ---- both

pub kept_rebuilt : (rows : KeptRows) (state : StateValue) → IsProper state → IsTree rows → IsRebuilt rows state → kept state ≡ respelled_rows rows
kept_rebuilt rows state proper good rebuilt =
    ap (λ (channels : List KeptChannel). record { channels = channels; links = kept_links state.tree })
    (without_places state state.tree.channels ∙ ap (λ (xs : List Row). kept_of_rows state xs) rebuilt.linked.rows ∙ with_policies state rows.channels rebuilt.policies)
    ∙ ap (λ (links : List Pair). record { channels = map respelled rows.channels; links = links }) (links_again rows state proper good rebuilt.linked)

pub rebuild_fits_lem : RebuildFits
rebuild_fits_lem rows configuration tree words fit_after = (all_pass rows configuration tree words fit_after).fit

pub rebuilt_is_kept_lem : RebuiltIsKept
rebuilt_is_kept_lem rows configuration tree words fit_after =
    let passed = all_pass rows configuration tree words fit_after in
    kept_rebuilt rows _ passed.bare.proper tree passed.holds
