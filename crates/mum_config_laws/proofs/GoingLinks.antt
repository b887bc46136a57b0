-- The links of a configuration are there, and no others.
use Rattle.mum_config_laws.proofs.Common.{◌≡◌, ◌≢◌, ℕ, suc, ◌+◌, ◌⊎◌, ◌==◌, ◌||◌, Bool, true, false, cond, eqb, List, [], ◌∷◌, length, map, Option, None, Some, inl, inr, refl, sym, ap, subst, ◌∙◌, arith, option_map_or, Contains, list_any, and_parts, eqb-true, Data, Items, array, item, no_items, ChannelId, Row, Change, with_given, Pair, changed, is_above, is_pair, pairs_with, with_pair, applied, channel_parts, StateValue, Each, each_from_all, WrongKind, against, place_text, within, elements_fault, elements_in, greatest, number_fault, number_of, first_none, later_none, none_within, Ends, end_fault, ends_fault, first_end, link_edit, link_fault, pair_in, pair_of, second_end, with_link_met, IsBare, less_left, SaysLink}
use Rattle.mum_tree.specs.Rows.{number}
use Rattle.mum_config_laws.proofs.{Going.Goes, Going.one_goes, Lists.In, Lists.contained_in, Lists.each_in, SaidValues.number_said}

abbrev channel : ℕ → ChannelId
channel n = record { 0 = n }

-- ---- what is kept of the whole list

pub record LinkThere (links : List Pair) (value : Data) : Type 0 where
  pub one : ChannelId
  pub other : ChannelId
  pub says : SaysLink value one other
  pub to : one.0 ≢ other.0 → In (one, other) links
  pub back : one.0 ≢ other.0 → In (other, one) links

abbrev pub LinkGiven : List Data → Pair → Type 0
LinkGiven all pair = (value : Data) × In value all × (SaysLink value pair.0 pair.1 ⊎ SaysLink value pair.1 pair.0)

pub record LinksSo (all left : List Data) (links : List Pair) : Type 0 where
  pub there : (value : Data) → In value all → In value left ⊎ LinkThere links value
  pub given : Each (LinkGiven all) links

-- what links do not change
pub record IsBesideLinks (was now : StateValue) : Type 0 where
  pub server : now.server ≡ was.server
  pub accounts : now.accounts ≡ was.accounts
  pub channels : now.tree.channels ≡ was.tree.channels
  pub limit : now.tree.limit ≡ was.tree.limit
  pub policies : now.policies ≡ was.policies
  pub roster : now.roster ≡ was.roster

-- ---- a pair more

pair_in_links : (a b : ChannelId) (links : List Pair) → In (a, b) (with_pair a b links)
pair_in_links a b [] = inl refl
pair_in_links a b (pair ∷ links) = step (is_above a b pair) (pair_in_links a b links)
  where
    step : (above : Bool) → In (a, b) (with_pair a b links) → In (a, b) (cond above ((a, b) ∷ pair ∷ links) (pair ∷ with_pair a b links))
    step true rest = inl refl
    step false rest = inr rest

pair_stays : (a b : ChannelId) (links : List Pair) (one : Pair) → In one links → In one (with_pair a b links)
pair_stays a b [] one inside = absurd inside
pair_stays a b (pair ∷ links) one inside = step (is_above a b pair) (pair_stays a b links one) inside
  where
    step : (above : Bool) → (In one links → In one (with_pair a b links)) → In one (pair ∷ links) → In one (cond above ((a, b) ∷ pair ∷ links) (pair ∷ with_pair a b links))
    step true rest inside = inr inside
    step false rest inside = elim inside as (λ _. In one (pair ∷ with_pair a b links)) [ inl is ↦ inl is | inr later ↦ inr (rest later) ]

each_pair : (P : Pair → Type 0) (a b : ChannelId) (links : List Pair) → P (a, b) → Each P links → Each P (with_pair a b links)
each_pair P a b [] new all = (new, tt)
each_pair P a b (pair ∷ links) new all = step (is_above a b pair) (each_pair P a b links new all.1)
  where
    step : (above : Bool) → Each P (with_pair a b links) → Each P (cond above ((a, b) ∷ pair ∷ links) (pair ∷ with_pair a b links))
    step true rest = (new, all)
    step false rest = (all.0, rest)

-- ---- a link more

same_channel : (one other : ChannelId) → one.0 ≡ other.0 → one ≡ other
same_channel one other same = ap channel same

linked_in : (a b : ChannelId) (links : List Pair) → list_any (is_pair a b) links ≡ true → In (a, b) links
linked_in a b [] some = absurd (cc)
linked_in a b (pair ∷ links) some = step (is_pair a b pair) refl (linked_in a b links)
  where
    step : (it : Bool) → is_pair a b pair ≡ it → (list_any (is_pair a b) links ≡ true → In (a, b) links) → In (a, b) (pair ∷ links)
    step true is later =
        let both = and_parts (pair.0.0 == a.0) (pair.1.0 == b.0) is in
        inl (ap (λ (one : ChannelId). (one, pair.1)) (same_channel pair.0 a (eqb-true pair.0.0 a.0 both.0)) ∙ ap (λ (other : ChannelId). (a, other)) (same_channel pair.1 b (eqb-true pair.1.0 b.0 both.1)))
    step false other later = inr (later (sym (ap (λ (x : Bool). x || list_any (is_pair a b) links) other) ∙ some))

module _ (a b : ChannelId) (links : List Pair) (both : (one other : ChannelId) → In (one, other) links → In (other, one) links) where
  joined_there : a.0 ≢ b.0 → In (a, b) (pairs_with a b links) × In (b, a) (pairs_with a b links)
  joined_there apart = step (a.0 == b.0) refl (list_any (is_pair a b) links) refl
    where
      step : (same : Bool) → (a.0 == b.0) ≡ same → (there : Bool) → list_any (is_pair a b) links ≡ there
          → In (a, b) (cond (same || there) links (with_pair b a (with_pair a b links))) × In (b, a) (cond (same || there) links (with_pair b a (with_pair a b links)))
      step true is there also = absurd (apart (eqb-true a.0 b.0 is))
      step false is true also = (linked_in a b links also, both a b (linked_in a b links also))
      step false is false also = (pair_stays b a (with_pair a b links) (a, b) (pair_in_links a b links), pair_in_links b a (with_pair a b links))

  joined_stays : (one : Pair) → In one links → In one (pairs_with a b links)
  joined_stays one inside = step ((a.0 == b.0) || list_any (is_pair a b) links)
    where
      step : (none : Bool) → In one (cond none links (with_pair b a (with_pair a b links)))
      step true = inside
      step false = pair_stays b a (with_pair a b links) one (pair_stays a b links one inside)

  each_joined : (P : Pair → Type 0) → P (a, b) → P (b, a) → Each P links → Each P (pairs_with a b links)
  each_joined P to back all = step ((a.0 == b.0) || list_any (is_pair a b) links)
    where
      step : (none : Bool) → Each P (cond none links (with_pair b a (with_pair a b links)))
      step true = all
      step false = each_pair P b a (with_pair a b links) back (each_pair P a b links to all)

link_so : (all left : List Data) (a b : ChannelId) (links : List Pair) (value : Data) → ((one other : ChannelId) → In (one, other) links → In (other, one) links) → SaysLink value a b → In value all
    → LinksSo all (value ∷ left) links → LinksSo all left (pairs_with a b links)
link_so all left a b links value both says inside so =
    let new : LinkThere (pairs_with a b links) value = record {
      one = a;
      other = b;
      says = says;
      to = λ apart. (joined_there a b links both apart).0;
      back = λ apart. (joined_there a b links both apart).1;
    } in
    record {
      there = λ v listed. elim (so.there v listed) as (λ _. In v left ⊎ LinkThere (pairs_with a b links) v) [
        | inl first ↦ (elim first as (λ _. In v left ⊎ LinkThere (pairs_with a b links) v) [
          | inl is ↦ inr (subst (LinkThere (pairs_with a b links)) is new)
          | inr later ↦ inl later
        ])
        | inr old ↦ inr (record {
          one = old.one;
          other = old.other;
          says = old.says;
          to = λ apart. joined_stays a b links both (old.one, old.other) (old.to apart);
          back = λ apart. joined_stays a b links both (old.other, old.one) (old.back apart);
        })
      ];
      given = each_joined a b links both (LinkGiven all) (value, inside, inl says) (value, inside, inr says) so.given;
    }

-- ---- what is said of a pair

two_values : (value : Data) (pair : Data × Data) → pair_of value ≡ Some pair → value ≡ array (item pair.0 (item pair.1 no_items))
two_values (array items) pair is = of_items items is
  where
    of_items : (items : Items) → pair_in (elements_in items) ≡ Some pair → array items ≡ array (item pair.0 (item pair.1 no_items))
    of_items no_items is = absurd (cc)
    of_items (item one no_items) is = absurd (cc)
    of_items (item one (item two no_items)) is = ap (λ (p : Data × Data). array (item p.0 (item p.1 no_items))) (same_pair (one, two) pair is)
      where
        same_pair : (p q : Data × Data) → Some p ≡ Some q → p ≡ q
        same_pair p q same = cc
    of_items (item one (item two (item three rest))) is = absurd (cc)
two_values value pair is = absurd (cc)

link_says : (depths : List (ℕ × ℕ)) (met : List Ends) (value : Data) → link_fault depths met value ≡ None → SaysLink value (channel (first_end value)) (channel (second_end value))
unfolding link_fault
link_says depths met value none = step (pair_of value) refl none
  where
    step : (found : Option (Data × Data)) → pair_of value ≡ found → option_map_or (ends_fault depths met) found (against WrongKind true) ≡ None
        → SaysLink value (channel (option_map_or (λ pair. number_of pair.0) found 0)) (channel (option_map_or (λ pair. number_of pair.1) found 0))
    step None is none = absurd (cc)
    step (Some pair) is none =
        let rest = later_none (within (place_text 0) (end_fault depths pair.0)) _ none in
        record {
          first = pair.0;
          second = pair.1;
          two = two_values value pair is;
          from = number_said 0 greatest pair.0 (first_none (number_fault 0 greatest pair.0) _ (none_within _ _ (first_none _ _ none)));
          to = number_said 0 greatest pair.1 (first_none (number_fault 0 greatest pair.1) _ (none_within _ _ (first_none _ _ rest)));
        }

-- ---- all links

unchanged : (id : ChannelId) (change : Change) (rows : List Row) → ((row : Row) → record row { channel = with_given change row.channel } ≡ row) → changed id (with_given change) rows ≡ rows
unchanged id change [] same = refl
unchanged id change (row ∷ rows) same =
    ap (λ (r : Row). r ∷ changed id (with_given change) rows) (step (eqb (number row) id.0)) ∙ ap (λ (rs : List Row). row ∷ rs) (unchanged id change rows same)
  where
    step : (b : Bool) → cond b (record row { channel = with_given change row.channel }) row ≡ row
    step true = same row
    step false = refl

both_ways : (state : StateValue) (left : ℕ) → IsBare left state → (one other : ChannelId) → In (one, other) state.tree.links → In (other, one) state.tree.links
both_ways state left bare one other inside =
    contained_in (other, one) state.tree.links
    (each_in (λ (pair : Pair). Contains state.tree.links (pair.1, pair.0)) state.tree.links (one, other) (each_from_all (λ (pair : Pair). Contains state.tree.links (pair.1, pair.0)) state.tree.links bare.proper.tree.joined.pairs.both) inside)

pub links_go : (Q : StateValue → Type 0) (all values : List Data) (place : ℕ) (depths : List (ℕ × ℕ)) (met : List Ends) (state : StateValue) (left : ℕ)
    → IsBare (length values + left) state → Each (λ value. In value all) values → elements_fault (link_fault depths) with_link_met met place values ≡ None
    → LinksSo all values state.tree.links
    → ((later : StateValue) → IsBare left later → LinksSo all [] later.tree.links → IsBesideLinks state later → Q later)
    → Goes Q state (map link_edit values)
unfolding link_edit
links_go Q all [] place depths met state left bare inside none so on =
    λ fit. on state (less_left (0 + left) left state (omega arith) bare) so (record { server = refl; accounts = refl; channels = refl; limit = refl; policies = refl; roster = refl })
links_go Q all (value ∷ values) place depths met state left bare inside none so on =
    let a : ChannelId = channel (first_end value) in
    let b : ChannelId = channel (second_end value) in
    let change : Change = channel_parts None None None None None (b ∷ []) [] in
    one_goes Q (length values + left) state (link_edit value) (map link_edit values) refl
    (less_left (suc (length values) + left) (suc (length values + left)) state (omega arith) bare)
    (λ led.
    links_go Q all values (place + 1) depths (with_link_met met value) (applied state (link_edit value)) left led.bare inside.1 (later_none _ _ none)
    (subst (LinksSo all values) (sym (ap (λ (s : StateValue). s.tree.links) led.is))
    (link_so all values a b state.tree.links value (both_ways state (length (value ∷ values) + left) bare) (link_says depths met value (none_within _ _ (first_none _ _ none))) inside.0 so))
    (λ later still so_then beside. on later still so_then (record {
      server = beside.server ∙ ap (λ (s : StateValue). s.server) led.is;
      accounts = beside.accounts ∙ ap (λ (s : StateValue). s.accounts) led.is;
      channels = beside.channels ∙ ap (λ (s : StateValue). s.tree.channels) led.is ∙ unchanged a change state.tree.channels (λ row. refl);
      limit = beside.limit ∙ ap (λ (s : StateValue). s.tree.limit) led.is;
      policies = beside.policies ∙ ap (λ (s : StateValue). s.policies) led.is;
      roster = beside.roster ∙ ap (λ (s : StateValue). s.roster) led.is;
    })))
