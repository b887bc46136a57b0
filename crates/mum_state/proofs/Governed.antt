-- What calls on channels leave, as the code has it, is what contracts say.
use Rattle.mum_state.proofs.Common.{◌≡◌, ℕ, zero, suc, ◌+◌, ◌<◌, ◌≤◌, ◌&&◌, ◌⊎◌, ◌++◌, not, Bool, true, false, cond, List, [], ◌∷◌, length, length-set, get_or, set, refl, sym, ap, subst, ◌∙◌, arith, Some, None, inl, inr, option_map, both_ways, cases_eq, cases_lt, and-false, get_or-set_other, get_or-set_same, get_or_past, ChannelId, ChannelPolicy, ChannelInfo, Row, Change, with_change, with_given, NoChannel, has_place, least_place, fault_of_set_info, IsProperTree, is_below, is_there, row_of, TreeState, new_row, with_info, with_new, without_subtree, ChannelsState, with_channel_made, without_channel, with_policy, PolicyRow, open_policy, is_left, policies_by_place}
use Rattle.mum_state.proofs.{ByPlace.laid, Listed.last_passes, Listed.map_same, Quiet.rows_there, Laid.IsOpenWhereFree, Laid.free_changed, Laid.laid_changed, Laid.laid_left, Laid.laid_made, Laid.laid_set}

-- the channels of a tree with the policies that lie at their places
abbrev pub governed : List ChannelPolicy → TreeState → ChannelsState
governed stored tree = record { tree = tree; policies = policies_by_place stored tree.channels }

pub made_value : (stored : List ChannelPolicy) (tree made : TreeState) (id parent : ChannelId) (name : List ℕ) (temporary : Bool) (info : ChannelInfo) → IsOpenWhereFree stored tree.channels
    → made ≡ with_info (with_new tree id parent name temporary) id info → governed stored made ≡ with_channel_made (governed stored tree) id parent name temporary info
made_value stored tree made id parent name temporary info free is =
    ap (governed stored) is
    ∙ ap (λ (policies : List PolicyRow). record { tree = with_info (with_new tree id parent name temporary) id info; policies = policies }) (laid_made stored tree id parent name temporary info free)

pub edited_value : (stored : List ChannelPolicy) (tree edited : TreeState) (id : ChannelId) (change : Change) → edited ≡ with_change tree id change
    → governed stored edited ≡ record (governed stored tree) { tree = with_change tree id change }
edited_value stored tree edited id change is =
    ap (governed stored) is
    ∙ ap (λ (policies : List PolicyRow). record { tree = with_change tree id change; policies = policies }) (laid_changed id (with_given change) (λ channel. refl) stored tree.channels)

pub edited_free : (stored : List ChannelPolicy) (tree edited : TreeState) (id : ChannelId) (change : Change) → edited ≡ with_change tree id change → IsOpenWhereFree stored tree.channels → IsOpenWhereFree stored edited.channels
edited_free stored tree edited id change is free =
    subst (λ (t : TreeState). IsOpenWhereFree stored t.channels) (sym is) (free_changed id (with_given change) (λ channel. refl) stored tree.channels free)

pub removed_value : (before after : List ChannelPolicy) (tree left : TreeState) (id : ChannelId) → left ≡ without_subtree tree id
    → ((place : ℕ) → has_place left.channels place ≡ true → get_or after place open_policy ≡ get_or before place open_policy)
    → governed after left ≡ without_channel (governed before tree) id
removed_value before after tree left id is kept =
    ap (governed after) is
    ∙ ap (λ (policies : List PolicyRow). record { tree = without_subtree tree id; policies = policies })
    (laid_left before after tree.channels (λ channel. not (is_below tree.channels id channel))
    (subst (λ (t : TreeState). (place : ℕ) → has_place t.channels place ≡ true → get_or after place open_policy ≡ get_or before place open_policy) is kept))

pub set_value : (stored : List ChannelPolicy) (tree : TreeState) (id : ChannelId) (policy : ChannelPolicy) (place : ℕ) → IsProperTree tree → length stored ≡ tree.limit
    → option_map (λ row. row.place) (row_of tree.channels id) ≡ Some place → governed (set stored place policy) tree ≡ record (governed stored tree) { policies = with_policy id policy (policies_by_place stored tree.channels) }
set_value stored tree id policy place proper whole placed =
    ap (λ (policies : List PolicyRow). record { tree = tree; policies = policies }) (laid_set stored tree id policy place proper whole placed)

-- a new channel is there
pub new_there : (tree : TreeState) (id parent : ChannelId) (name : List ℕ) (temporary : Bool) → fault_of_set_info (with_new tree id parent name temporary) id ≡ None
new_there tree id parent name temporary =
    let new : Row = new_row (least_place tree.channels) id parent name temporary in
    let all : List Row = tree.channels ++ new ∷ [] in
    ap (λ (b : Bool). cond (not b) (Some NoChannel) None)
    (last_passes (λ (row : Row). is_there all row.channel.id) tree.channels new (rows_there all))

-- ---- open policies

pub open_pushed : (policies : List ChannelPolicy) → ((place : ℕ) → get_or policies place open_policy ≡ open_policy) → (place : ℕ) → get_or (policies ++ open_policy ∷ []) place open_policy ≡ open_policy
open_pushed [] all zero = refl
open_pushed [] all (suc place) = refl
open_pushed (policy ∷ policies) all zero = all 0
open_pushed (policy ∷ policies) all (suc place) = open_pushed policies (λ k. all (suc k)) place

-- an open policy after others is what comes after them anyway
pub open_behind : (policies further : List ChannelPolicy) → ((place : ℕ) → get_or further place open_policy ≡ open_policy)
    → (place : ℕ) → get_or (policies ++ further) place open_policy ≡ get_or policies place open_policy
open_behind [] further all place = all place
open_behind (policy ∷ policies) further all zero = refl
open_behind (policy ∷ policies) further all (suc place) = open_behind policies further all place

pub raised_value : (stored further : List ChannelPolicy) (tree : TreeState) (limit : ℕ) → ((place : ℕ) → get_or further place open_policy ≡ open_policy)
    → governed (stored ++ further) (record tree { limit = limit }) ≡ record (governed stored tree) { tree = record tree { limit = limit } }
raised_value stored further tree limit all =
    ap (λ (policies : List PolicyRow). record { tree = record tree { limit = limit }; policies = policies })
    (map_same (laid (stored ++ further)) (laid stored)
    (λ row. ap (λ (policy : ChannelPolicy). record { channel = row.channel.id; policy = policy }) (open_behind stored further all row.place)) tree.channels)

pub raised_free : (stored further : List ChannelPolicy) (tree : TreeState) → ((place : ℕ) → get_or further place open_policy ≡ open_policy)
    → IsOpenWhereFree stored tree.channels → IsOpenWhereFree (stored ++ further) tree.channels
raised_free stored further tree all free place none = open_behind stored further all place ∙ free place none

-- ---- places whose channels are gone

-- as far as places were visited, those that are left are open, and all others are as they were
pub record AreOpened (before : List Bool) (rows : List Row) (first now : List ChannelPolicy) (places : ℕ) : Type 0 where
  pub whole : length now ≡ length first
  pub opened : (place : ℕ) → place < places → is_left before rows place ≡ true → get_or now place open_policy ≡ open_policy
  pub kept : (place : ℕ) → is_left before rows place ≡ false → get_or now place open_policy ≡ get_or first place open_policy

pub opened_none : (before : List Bool) (rows : List Row) (first : List ChannelPolicy) → AreOpened before rows first first 0
opened_none before rows first = record { whole = refl; opened = λ place under on. absurd (omega arith); kept = λ place off. refl }

pub opened_more : (before : List Bool) (rows : List Row) (first middle now : List ChannelPolicy) (place : ℕ) (left : Bool)
    → place < length first → AreOpened before rows first middle place → left ≡ is_left before rows place
    → now ≡ cond left (set middle place open_policy) middle → AreOpened before rows first now (place + 1)
opened_more before rows first middle now place true within are is same = record {
  whole = ap length same ∙ simp length-set are.whole;
  opened = λ other under on. ap (λ (ps : List ChannelPolicy). get_or ps other open_policy) same ∙ elim (cases_eq other place) [
    | inl here ↦
        let inside : place < length middle = (let whole : length middle ≡ length first = are.whole in omega arith) in
        ap (λ (k : ℕ). get_or (set middle place open_policy) k open_policy) here ∙ get_or-set_same middle place open_policy open_policy inside
    | inr apart ↦ get_or-set_other middle place other open_policy open_policy apart ∙ are.opened other (omega arith) on
  ];
  kept = λ other off.
      ap (λ (ps : List ChannelPolicy). get_or ps other open_policy) same
      ∙ get_or-set_other middle place other open_policy open_policy (λ here. both_ways (is_left before rows other) off (ap (is_left before rows) here ∙ sym is))
      ∙ are.kept other off;
}
opened_more before rows first middle now place false within are is same = record {
  whole = ap length same ∙ are.whole;
  opened = λ other under on. ap (λ (ps : List ChannelPolicy). get_or ps other open_policy) same ∙ elim (cases_eq other place) [
    | inl here ↦ absurd (both_ways (is_left before rows other) (ap (is_left before rows) here ∙ sym is) on)
    | inr apart ↦ are.opened other (omega arith) on
  ];
  kept = λ other off. ap (λ (ps : List ChannelPolicy). get_or ps other open_policy) same ∙ are.kept other off;
}

-- after the last policy comes the open one too
pub opened_all : (before : List Bool) (rows : List Row) (first now : List ChannelPolicy) (places : ℕ) → AreOpened before rows first now places → length first ≤ places
    → (place : ℕ) → is_left before rows place ≡ true → get_or now place open_policy ≡ open_policy
opened_all before rows first now places are done place on = step (cases_lt place (length first))
  where
    step : (place < length first) ⊎ (length first ≤ place) → get_or now place open_policy ≡ open_policy
    step (inl under) = are.opened place (omega arith) on
    step (inr past) = get_or_past now place open_policy (let whole : length now ≡ length first = are.whole in omega arith)

module _ (before : List Bool) (rows left : List Row) (first now : List ChannelPolicy)
    (opened : (place : ℕ) → is_left before left place ≡ true → get_or now place open_policy ≡ open_policy)
    (kept : (place : ℕ) → is_left before left place ≡ false → get_or now place open_policy ≡ get_or first place open_policy) where
  pub kept_there : (place : ℕ) → has_place left place ≡ true → get_or now place open_policy ≡ get_or first place open_policy
  kept_there place there = kept place (ap (λ b. get_or before place false && not b) there ∙ and-false (get_or before place false))

  -- a place that is free is left, or was free before
  pub free_left : ((place : ℕ) → get_or before place false ≡ has_place rows place) → IsOpenWhereFree first rows → IsOpenWhereFree now left
  free_left marks free place none = step (get_or before place false) refl
    where
      step : (b : Bool) → get_or before place false ≡ b → get_or now place open_policy ≡ open_policy
      step true had = opened place (ap (λ b. b && not (has_place left place)) had ∙ ap not none)
      step false unhad = kept place (ap (λ b. b && not (has_place left place)) unhad) ∙ free place (sym (marks place) ∙ unhad)
