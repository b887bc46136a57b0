-- A channel that an edit does not name stays.
use Rattle.mum_notify.proofs.Common.{◌≡◌, ℕ, suc, ◌<◌, ◌==◌, ◌&&◌, ◌||◌, Bool, true, false, not, cond, List, [], ◌∷◌, ◌++◌, map, filter, fold, Option, Some, None, refl, sym, ap, ◌∙◌, arith, nat_lt, subst, is_some, All, list_any, option_map, and_parts, both_ways, eqb-true, false≢true, ltb-true, ne_eqb, nat_tests, is_among, ChannelId, SessionId, Change, pairs_with_all, pairs_without_all, with_given, least_place, IsBetween, IsProperTree, is_below, is_there, number, row_of, Pair, TreeState, changed, ends_from, is_above, is_pair, new_row, pairs_with, pairs_without, partners, starts_at, with_info, with_new, with_pair, without_rows, without_subtree, Channel, ChannelInfo, Row, User, number_found, row_of-map, row_of_old, kept_row, or_swap, there_after, applied, has_member, is_emptied, without_emptied, fits, gives_right_numbers, is_countable, sets_properly, left_by, with_left_closed, names_there, channel_parts, IsProper, set_by, with_tree, StateValue, with_clearing, with_suppression, Edit, EditChannel, MakeChannel, RemoveChannel, SetLimits, there_without_subtree, clearing_tree, heard_members, fit_proper, closed_by, left_alone, there_known, channel_of, edited_channels, with_channel}
use Rattle.mum_notify.proofs.{Families.same_channel, ByParent.filter_alike}

-- ---- tests

off_left : (a b : Bool) → (a || b) ≡ false → a ≡ false
off_left true b off = off
off_left false b off = refl

off_right : (a b : Bool) → (a || b) ≡ false → b ≡ false
off_right true b off = absurd (false≢true (sym off))
off_right false b off = off

-- ---- links of a channel that are not touched

from_other : (x a b : ChannelId) (pairs : List Pair) → (a.0 == x.0) ≡ false → filter (starts_at x) (with_pair a b pairs) ≡ filter (starts_at x) pairs
from_other x a b [] other = ap (λ (t : Bool). cond {A = List Pair} t ((a, b) ∷ []) []) other
from_other x a b (pair ∷ pairs) other = step (is_above a b pair) (from_other x a b pairs other)
  where
    step : (t : Bool) → filter (starts_at x) (with_pair a b pairs) ≡ filter (starts_at x) pairs → filter (starts_at x) (cond t ((a, b) ∷ pair ∷ pairs) (pair ∷ with_pair a b pairs)) ≡ filter (starts_at x) (pair ∷ pairs)
    step true rest = ap (λ (t : Bool). cond t ((a, b) ∷ filter (starts_at x) (pair ∷ pairs)) (filter (starts_at x) (pair ∷ pairs))) other
    step false rest = ap (λ (ps : List Pair). cond (starts_at x pair) (pair ∷ ps) ps) rest

with_other : (x a b : ChannelId) (pairs : List Pair) → (a.0 == x.0) ≡ false → (b.0 == x.0) ≡ false → filter (starts_at x) (pairs_with a b pairs) ≡ filter (starts_at x) pairs
with_other x a b pairs one two = step ((a.0 == b.0) || list_any (is_pair a b) pairs)
  where
    step : (t : Bool) → filter (starts_at x) (cond t pairs (with_pair b a (with_pair a b pairs))) ≡ filter (starts_at x) pairs
    step true = refl
    step false = from_other x b a (with_pair a b pairs) two ∙ from_other x a b pairs one

own_stays : (x a b first second : ℕ) → (a == x) ≡ false → (b == x) ≡ false → (first == x) ≡ true → not (((first == a) && (second == b)) || ((first == b) && (second == a))) ≡ true
own_stays x a b first second one two here = grind (arith, nat_tests)

without_other : (x a b : ChannelId) (pairs : List Pair) → (a.0 == x.0) ≡ false → (b.0 == x.0) ≡ false → filter (starts_at x) (pairs_without a b pairs) ≡ filter (starts_at x) pairs
without_other x a b [] one two = refl
without_other x a b (pair ∷ pairs) one two =
    step (starts_at x pair) (not (is_pair a b pair || is_pair b a pair)) refl refl (without_other x a b pairs one two)
  where
    step : (here stays : Bool) → starts_at x pair ≡ here → not (is_pair a b pair || is_pair b a pair) ≡ stays → filter (starts_at x) (pairs_without a b pairs) ≡ filter (starts_at x) pairs
        → filter (starts_at x) (pairs_without a b (pair ∷ pairs)) ≡ filter (starts_at x) (pair ∷ pairs)
    step true true is kept rest = rw (kept, is) (ap (λ (ps : List Pair). pair ∷ ps) rest)
    step true false is kept rest = absurd (both_ways (not (is_pair a b pair || is_pair b a pair)) kept (own_stays x.0 a.0 b.0 pair.0.0 pair.1.0 one two is))
    step false true is kept rest = rw (kept, is) rest
    step false false is kept rest = rw (kept, is) rest

with_all_other : (x id : ChannelId) (others : List ChannelId) (pairs : List Pair) → (id.0 == x.0) ≡ false → is_among others x ≡ false → filter (starts_at x) (pairs_with_all id others pairs) ≡ filter (starts_at x) pairs
with_all_other x id [] pairs one none = refl
with_all_other x id (other ∷ others) pairs one none =
    with_all_other x id others (pairs_with id other pairs) one (off_right (other.0 == x.0) (is_among others x) none)
    ∙ with_other x id other pairs one (off_left (other.0 == x.0) (is_among others x) none)

without_all_other : (x id : ChannelId) (others : List ChannelId) (pairs : List Pair) → (id.0 == x.0) ≡ false → is_among others x ≡ false → filter (starts_at x) (pairs_without_all id others pairs) ≡ filter (starts_at x) pairs
without_all_other x id [] pairs one none = refl
without_all_other x id (other ∷ others) pairs one none =
    without_all_other x id others (pairs_without id other pairs) one (off_right (other.0 == x.0) (is_among others x) none)
    ∙ without_other x id other pairs one (off_left (other.0 == x.0) (is_among others x) none)

-- ---- who is edited

again : (a b : Bool) → (a || b) ≡ (a || (a || b))
again true b = refl
again false b = refl

among_with : (new x : ChannelId) (ids : List ChannelId) → is_among (with_channel new ids) x ≡ ((new.0 == x.0) || is_among ids x)
among_with new x [] = refl
among_with new x (id ∷ ids) = lower (nat_lt id.0 new.0) (among_with new x ids)
  where
    same : (t : Bool) → (id.0 == new.0) ≡ t → is_among (cond t (id ∷ ids) (new ∷ id ∷ ids)) x ≡ ((new.0 == x.0) || is_among (id ∷ ids) x)
    same true is = ap (λ n. (n == x.0) || is_among ids x) (eqb-true id.0 new.0 is) ∙ again (new.0 == x.0) (is_among ids x) ∙ ap (λ n. (new.0 == x.0) || ((n == x.0) || is_among ids x)) (sym (eqb-true id.0 new.0 is))
    same false is = refl

    lower : (t : Bool) → is_among (with_channel new ids) x ≡ ((new.0 == x.0) || is_among ids x)
        → is_among (cond t (id ∷ with_channel new ids) (cond (id.0 == new.0) (id ∷ ids) (new ∷ id ∷ ids))) x ≡ ((new.0 == x.0) || is_among (id ∷ ids) x)
    lower true rest = ap (λ (t : Bool). (id.0 == x.0) || t) rest ∙ or_swap (id.0 == x.0) (new.0 == x.0) (is_among ids x)
    lower false rest = same (id.0 == new.0) refl

among_fold : (x : ChannelId) (ids ordered : List ChannelId) → is_among (fold (λ ordered id. with_channel id ordered) ordered ids) x ≡ false → (is_among ids x ≡ false) × (is_among ordered x ≡ false)
among_fold x [] ordered none = (refl, none)
among_fold x (id ∷ ids) ordered none =
    let rest = among_fold x ids (with_channel id ordered) none in
    let here : ((id.0 == x.0) || is_among ordered x) ≡ false = sym (among_with id x ordered) ∙ rest.1 in
    (ap (λ (t : Bool). t || is_among ids x) (off_left (id.0 == x.0) (is_among ordered x) here) ∙ rest.0, off_right (id.0 == x.0) (is_among ordered x) here)

among_append : (x : ChannelId) (ids more : List ChannelId) → is_among (ids ++ more) x ≡ false → (is_among ids x ≡ false) × (is_among more x ≡ false)
among_append x [] more none = (refl, none)
among_append x (id ∷ ids) more none =
    let rest = among_append x ids more (off_right (id.0 == x.0) (is_among (ids ++ more) x) none) in
    (ap (λ (t : Bool). t || is_among ids x) (off_left (id.0 == x.0) (is_among (ids ++ more) x) none) ∙ rest.0, rest.1)

-- ---- what is in a list

-- the channel is as it was, where it still is, and is linked to those to which it was, where they still are
pub record Keeps (before after : TreeState) (id : ChannelId) : Type 0 where
  pub row : (was now : Channel) → channel_of before id ≡ Some was → channel_of after id ≡ Some now → was ≡ now
  pub links : is_there after.channels id ≡ true → partners after id ≡ filter (is_there after.channels) (partners before id)

same_some : {X : Type 0} (x y : X) (o : Option X) → o ≡ Some x → o ≡ Some y → x ≡ y
same_some x y o one two = let both : Some x ≡ Some y = sym one ∙ two in cc

-- the links of a proper tree lead to channels that are there
between_there : (rows : List Row) (id : ChannelId) (links : List Pair) → All (IsBetween rows) links → filter (is_there rows) (ends_from id links) ≡ ends_from id links
between_there rows id [] all = refl
between_there rows id (pair ∷ links) all = step (starts_at id pair) (between_there rows id links (λ k d within. all (suc k) d (omega arith)))
  where
    there : is_there rows pair.1 ≡ true
    there = (all 0 pair (omega arith)).1

    step : (t : Bool) → filter (is_there rows) (ends_from id links) ≡ ends_from id links
        → filter (is_there rows) (map (λ (one : Pair). one.1) (cond t (pair ∷ filter (starts_at id) links) (filter (starts_at id) links))) ≡ map (λ (one : Pair). one.1) (cond t (pair ∷ filter (starts_at id) links) (filter (starts_at id) links))
    step true rest = ap (λ (t : Bool). cond t (pair.1 ∷ filter (is_there rows) (ends_from id links)) (filter (is_there rows) (ends_from id links))) there ∙ ap (λ (ids : List ChannelId). pair.1 ∷ ids) rest
    step false rest = rest

-- where nothing of the channel is touched
untouched : (before after : TreeState) (id : ChannelId) → IsProperTree after → ((was : Channel) → channel_of before id ≡ Some was → channel_of after id ≡ Some was)
    → filter (starts_at id) after.links ≡ filter (starts_at id) before.links → Keeps before after id
untouched before after id proper row links =
    let same : partners after id ≡ partners before id = ap (λ (ps : List Pair). map (λ (pair : Pair). pair.1) ps) links in
    record {
      row = λ was now one two. same_some was now (channel_of after id) (row was one) two;
      links = λ there. sym (between_there after.channels id after.links proper.joined.pairs.between) ∙ ap (λ (ids : List ChannelId). filter (is_there after.channels) ids) same;
    }

-- of the links of a channel that stays, those stay whose other end does
ends_cut : (kept : List Row) (id : ChannelId) (links : List Pair) → is_there kept id ≡ true
    → ends_from id (filter (λ pair. is_there kept pair.0 && is_there kept pair.1) links) ≡ filter (is_there kept) (ends_from id links)
ends_cut kept id [] there = refl
ends_cut kept id (pair ∷ links) there = step (starts_at id pair) (is_there kept pair.0) (is_there kept pair.1) refl refl refl (ends_cut kept id links there)
  where
    step : (s a b : Bool) → starts_at id pair ≡ s → is_there kept pair.0 ≡ a → is_there kept pair.1 ≡ b
        → ends_from id (filter (λ one. is_there kept one.0 && is_there kept one.1) links) ≡ filter (is_there kept) (ends_from id links)
        → ends_from id (filter (λ one. is_there kept one.0 && is_there kept one.1) (pair ∷ links)) ≡ filter (is_there kept) (ends_from id (pair ∷ links))
    step true true true is one two rest = rw (one, two, is, two) (ap (λ (ids : List ChannelId). pair.1 ∷ ids) rest)
    step true true false is one two rest = rw (one, two, is, two) rest
    step true false b is one two rest =
        absurd (both_ways (is_there kept pair.0) one (ap (is_there kept) (same_channel pair.0 id (eqb-true pair.0.0 id.0 is)) ∙ there))
    step false true true is one two rest = rw (one, two, is) rest
    step false true false is one two rest = rw (one, two, is) rest
    step false false b is one two rest = rw (one, is) rest

-- what is cut away leaves the others
cut_away : (tree : TreeState) (top id : ChannelId) → IsProperTree tree → Keeps tree (without_subtree tree top) id
cut_away tree top id proper = record {
  row = λ was now one two. found (row_of (without_subtree tree top).channels id) refl was now one two;
  links = λ there. ends_cut (without_subtree tree top).channels id tree.links there;
}
  where
    found : (o : Option Row) → row_of (without_subtree tree top).channels id ≡ o → (was now : Channel) → channel_of tree id ≡ Some was → option_map (λ (row : Row). row.channel) o ≡ Some now → was ≡ now
    found None is was now one two = cc
    found (Some row) is was now one two =
        let (old, there, stays) = there_after (λ (kept : Row). not (is_below tree.channels top kept.channel.id)) tree.channels id proper.rise (ap is_some is) in
        let again : row_of (without_subtree tree top).channels id ≡ Some old = kept_row (λ (kept : Row). not (is_below tree.channels top kept.channel.id)) tree.channels id old there stays in
        let same : row ≡ old = same_some row old (row_of (without_subtree tree top).channels id) is again in
        let first : old.channel ≡ was = same_some old.channel was (channel_of tree id) (ap (λ (o : Option Row). option_map (λ (kept : Row). kept.channel) o) there) one in
        let last : row.channel ≡ now = cc in
        sym first ∙ ap (λ (kept : Row). kept.channel) (sym same) ∙ last

pub filter_within : {X : Type 0} (p q : X → Bool) → ((x : X) → p x ≡ true → q x ≡ true) → (xs : List X) → filter p (filter q xs) ≡ filter p xs
filter_within p q so [] = refl
filter_within {X} p q so (x ∷ xs) = step (p x) (q x) refl refl (filter_within p q so xs)
  where
    step : (a b : Bool) → p x ≡ a → q x ≡ b → filter p (filter q xs) ≡ filter p xs → filter p (filter q (x ∷ xs)) ≡ filter p (x ∷ xs)
    step true true one two rest = rw (two, one) (ap (λ (ys : List X). x ∷ ys) rest)
    step true false one two rest = absurd (both_ways (q x) two (so x one))
    step false true one two rest = rw (two, one) rest
    step false false one two rest = rw (two, one) rest

was_there : (tree : TreeState) (top id : ChannelId) → is_there (without_subtree tree top).channels id ≡ true → is_there tree.channels id ≡ true
was_there tree top id there = (and_parts (is_there tree.channels id) (not (is_below tree.channels top id)) (sym (there_without_subtree tree top id) ∙ there)).0

some_of : (o : Option Row) → is_some o ≡ true → (channel : Channel) × (option_map (λ (row : Row). row.channel) o ≡ Some channel)
some_of None there = absurd (false≢true there)
some_of (Some row) there = (row.channel, refl)

there_of_channel : (o : Option Row) (channel : Channel) → option_map (λ (row : Row). row.channel) o ≡ Some channel → is_some o ≡ true
there_of_channel None channel is = cc
there_of_channel (Some row) channel is = refl

-- what is there, and is still there where something is cut away, is there
then_cut : (before middle : TreeState) (top id : ChannelId) → IsProperTree middle → Keeps before middle id → Keeps before (without_subtree middle top) id
then_cut before middle top id proper first =
    let second = cut_away middle top id proper in
    record {
      row = λ was now one two.
          let there = was_there middle top id (there_of_channel (row_of (without_subtree middle top).channels id) now two) in
          let (between, is) = some_of (row_of middle.channels id) there in
          first.row was between one is ∙ second.row between now is two;
      links = λ there.
          second.links there ∙ ap (λ (ids : List ChannelId). filter (is_there (without_subtree middle top).channels) ids) (first.links (was_there middle top id there))
          ∙ filter_within (is_there (without_subtree middle top).channels) (is_there middle.channels) (λ one. was_there middle top one) (partners before id);
    }

-- ---- rows that are changed

pub changed_number : (other : ChannelId) (change : Channel → Channel) → ((channel : Channel) → (change channel).id ≡ channel.id) → (row : Row) → number (cond (number row == other.0) (record row { channel = change row.channel }) row) ≡ number row
changed_number other change keeps row = step (number row == other.0)
  where
    step : (b : Bool) → number (cond b (record row { channel = change row.channel }) row) ≡ number row
    step true = ap (λ (id : ChannelId). id.0) (keeps row.channel)
    step false = refl

row_changed : (rows : List Row) (id other : ChannelId) (change : Channel → Channel) → ((channel : Channel) → (change channel).id ≡ channel.id) → (id.0 == other.0) ≡ false → (row : Row) → row_of rows id ≡ Some row → row_of (changed other change rows) id ≡ Some row
row_changed rows id other change keeps apart row is =
    let f : Row → Row = λ one. cond (number one == other.0) (record one { channel = change one.channel }) one in
    let off : (number row == other.0) ≡ false = ap (λ n. n == other.0) (number_found rows id row is) ∙ apart in
    row_of-map f (changed_number other change keeps) rows id ∙ ap (λ (o : Option Row). option_map f o) is
    ∙ ap (λ (b : Bool). Some (cond b (record row { channel = change row.channel }) row)) off

by_row : (rows others : List Row) (id : ChannelId) (o : Option Row) → row_of rows id ≡ o → ((row : Row) → row_of rows id ≡ Some row → row_of others id ≡ Some row) → (was : Channel) → option_map (λ (row : Row). row.channel) o ≡ Some was → option_map (λ (row : Row). row.channel) (row_of others id) ≡ Some was
by_row rows others id None is so was one = cc
by_row rows others id (Some row) is so was one = ap (λ (o : Option Row). option_map (λ (kept : Row). kept.channel) o) (so row is) ∙ one

-- ---- what an edit sets

new_number : (state : StateValue) (id new : ChannelId) → IsProper state → is_there state.tree.channels id ≡ true → state.tree.greatest < new.0 → (id.0 == new.0) ≡ false
new_number state id new proper there above = let known = there_known state.tree id proper.tree there in ne_eqb id.0 new.0 (λ (same : id.0 ≡ new.0). absurd (omega arith))

made_row : (state : StateValue) (id new parent : ChannelId) (name : List ℕ) (temporary : Bool) (info : ChannelInfo) → (id.0 == new.0) ≡ false → (was : Channel) → channel_of state.tree id ≡ Some was
    → channel_of (with_info (with_new state.tree new parent name temporary) new info) id ≡ Some was
made_row state id new parent name temporary info apart was is =
    let rows : List Row = state.tree.channels ++ new_row (least_place state.tree.channels) new parent name temporary ∷ [] in
    by_row state.tree.channels (changed new (λ (channel : Channel). record channel { info = info }) rows) id (row_of state.tree.channels id) refl
    (λ row there. row_changed rows id new (λ (channel : Channel). record channel { info = info }) (λ channel. refl) apart row (row_of_old state.tree.channels (new_row (least_place state.tree.channels) new parent name temporary) id row there)) was is

made_above : (state : StateValue) (id parent : ChannelId) (name : List ℕ) (temporary : Bool) (info : ChannelInfo) (maker : Option SessionId) → fits state (MakeChannel id parent name temporary info maker) ≡ true → state.tree.greatest < id.0
made_above state id parent name temporary info maker fit =
    let edit : Edit = MakeChannel id parent name temporary info maker in
    let outer = and_parts (names_there state edit && gives_right_numbers state edit && sets_properly state edit) (is_countable state edit) fit in
    let inner = and_parts (names_there state edit && gives_right_numbers state edit) (sets_properly state edit) outer.0 in
    ltb-true state.tree.greatest id.0 (and_parts (names_there state edit) (gives_right_numbers state edit) inner.0).1

pub apart_sym : (a b : ℕ) → (a == b) ≡ false → (b == a) ≡ false
apart_sym a b off = grind (arith, nat_tests)

set_keeps : (state : StateValue) (edit : Edit) (id : ChannelId) → IsProper state → IsProper (set_by state edit) → fits state edit ≡ true → is_among (edited_channels edit) id ≡ false → is_there state.tree.channels id ≡ true → Keeps state.tree (set_by state edit).tree id
set_keeps state (MakeChannel new parent name temporary info None) id proper set fit none there =
    untouched state.tree (set_by state (MakeChannel new parent name temporary info None)).tree id set.tree
    (made_row state id new parent name temporary info (new_number state id new proper there (made_above state new parent name temporary info None fit))) refl
set_keeps state (MakeChannel new parent name true info (Some maker)) id proper set fit none there =
    untouched state.tree (set_by state (MakeChannel new parent name true info (Some maker))).tree id set.tree
    (made_row state id new parent name true info (new_number state id new proper there (made_above state new parent name true info (Some maker) fit))) refl
set_keeps state (MakeChannel new parent name false info (Some maker)) id proper set fit none there =
    untouched state.tree (set_by state (MakeChannel new parent name false info (Some maker))).tree id set.tree
    (made_row state id new parent name false info (new_number state id new proper there (made_above state new parent name false info (Some maker) fit))) refl
set_keeps state (EditChannel other actor name parent description position max_users links_add links_remove) id proper set fit none there =
    let all = among_fold id (other ∷ links_add ++ links_remove) [] none in
    let parts = among_append id (other ∷ links_add) links_remove all.0 in
    let apart : (other.0 == id.0) ≡ false = off_left (other.0 == id.0) (is_among links_add id) parts.0 in
    let change : Change = channel_parts name parent description position max_users links_add links_remove in
    untouched state.tree (set_by state (EditChannel other actor name parent description position max_users links_add links_remove)).tree id set.tree
    (by_row state.tree.channels (changed other (with_given change) state.tree.channels) id (row_of state.tree.channels id) refl
    (λ row is. row_changed state.tree.channels id other (with_given change) (λ channel. refl) (apart_sym other.0 id.0 apart) row is))
    (without_all_other id other links_remove (pairs_with_all other links_add state.tree.links) apart parts.1
    ∙ with_all_other id other links_add state.tree.links apart (off_right (other.0 == id.0) (is_among links_add id) parts.0))
set_keeps state (RemoveChannel top actor) id proper set fit none there = cut_away state.tree top id proper.tree
set_keeps state (SetLimits sessions channels) id proper set fit none there =
    untouched state.tree (record state.tree { limit = channels }) id set.tree (λ was is. is) refl
set_keeps state edit id proper set fit none there = untouched state.tree state.tree id proper.tree (λ was is. is) refl

-- ---- what an edit leaves

-- the channels after an edit are those that it sets, but for a temporary one that it emptied
pub applied_tree : (state : StateValue) (edit : Edit) → IsProper state → fits state edit ≡ true → (applied state edit).tree ≡ (with_left_closed (left_by state edit) (set_by state edit)).tree
applied_tree state edit proper fit =
    let set : StateValue = set_by state edit in
    let heard : StateValue = with_clearing edit (with_suppression state edit set) in
    let was : List User = state.roster.sessions in
    let by_tree : (without_emptied state heard).tree ≡ without_rows set.tree (filter (λ row. not (is_emptied was heard.roster.sessions row)) set.tree.channels) =
    ap (λ (tree : TreeState). without_rows tree (filter (λ row. not (is_emptied was heard.roster.sessions row)) tree.channels)) (clearing_tree edit (with_suppression state edit set)) in
    let by_members : filter (λ row. not (is_emptied was heard.roster.sessions row)) set.tree.channels ≡ filter (λ row. not (is_emptied was set.roster.sessions row)) set.tree.channels =
    filter_alike (λ (row : Row). not (is_emptied was heard.roster.sessions row)) (λ (row : Row). not (is_emptied was set.roster.sessions row))
    (λ row. ap (λ (b : Bool). not (row.channel.temporary && has_member was row.channel.id && not b)) (heard_members row.channel.id state edit set)) set.tree.channels in
    by_tree ∙ ap (λ (rows : List Row). without_rows set.tree rows) by_members
    ∙ ap (λ (one : StateValue). one.tree) (closed_by state set (left_by state edit) (fit_proper state edit proper fit).0 (left_alone state edit proper)).closed

closed_keeps : (before : TreeState) (state : StateValue) (left : Option ChannelId) (id : ChannelId) → IsProper state → Keeps before state.tree id → Keeps before (with_left_closed left state).tree id
closed_keeps before state None id proper first = first
closed_keeps before state (Some top) id proper first = step (has_member state.roster.sessions top)
  where
    step : (b : Bool) → Keeps before (cond b state (with_tree state (without_subtree state.tree top))).tree id
    step true = first
    step false = then_cut before state.tree top id proper.tree first

pub other_channels_stand_lem : (state : StateValue) (edit : Edit) (id : ChannelId) (was now : Channel) → IsProper state → fits state edit ≡ true → is_among (edited_channels edit) id ≡ false → channel_of state.tree id ≡ Some was → channel_of (applied state edit).tree id ≡ Some now
    → (was ≡ now) × (partners (applied state edit).tree id ≡ filter (is_there (applied state edit).tree.channels) (partners state.tree id))
other_channels_stand_lem state edit id was now proper fit none one two =
    let there = there_of_channel (row_of state.tree.channels id) was one in
    let set = (fit_proper state edit proper fit).0 in
    let closed = closed_keeps state.tree (set_by state edit) (left_by state edit) id set (set_keeps state edit id proper set fit none there) in
    let keeps : Keeps state.tree (applied state edit).tree id = subst (λ (tree : TreeState). Keeps state.tree tree id) (sym (applied_tree state edit proper fit)) closed in
    (keeps.row was now one two, keeps.links (there_of_channel (row_of (applied state edit).tree.channels id) now two))
