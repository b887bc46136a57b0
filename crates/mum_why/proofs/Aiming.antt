-- What a packet is aimed at, in words of the route.
use Rattle.mum_why.proofs.Common.{◌≡◌, ◌≢◌, ◌∙◌, ℕ, zero, suc, ◌&&◌, ◌||◌, ◌⊎◌, inl, inr, Bool, true, false, not, cond, eqb, List, [], ◌∷◌, map, Option, Some, None, refl, sym, ap, subst, ⊎_elim, IsTrue, Contains, filter, list_any, slice_get, option_map, option_map_or, and_from, and_parts, cases_eq, eq-eqb, eqb-true, false≢true, ne_eqb, get_or_from_slice_get, none-some, same_Some, slice_get-get_or, slice_get-map, slice_get_within, is_among, ChannelId, SessionId, SPEAK, WHISPER, is_there, TreeState, any_from, any_has, linked_leads, same_number, TargetItem, User, IsProper, StateValue, shown, TALK, cover, spread, talk, may, needed_for, is_named, items_of, Contains-among, among-Contains, among-filter, among-spread, Aimed, aims_of, item_aim, one_names, spreads_over, talk_aim, IsAimedAt, IsNamedBy, SpreadsOver}
use Rattle.mum_tree.specs.Walks.{linked}

-- ---- places in lists

pub contains_at : {X : Type 0} (xs : List X) (i : ℕ) (x : X) → slice_get xs i ≡ Some x → Contains xs x
contains_at xs i x is = (i, slice_get_within xs i x is, get_or_from_slice_get xs i x x is)

pub at_of : {X : Type 0} (xs : List X) (x : X) → Contains xs x → (i : ℕ) × (slice_get xs i ≡ Some x)
at_of {X} xs x (k, within, is) = (k, slice_get-get_or xs k x within ∙ ap (λ (y : X). Some y) is)

-- ---- the aims of a packet

pub aims_of_talk : (state : StateValue) (own : User) (target : ℕ) → target ≡ TALK → aims_of state own target ≡ talk_aim own ∷ []
aims_of_talk state own target talks = ap (aims_of state own) talks

pub aims_of_items : (state : StateValue) (own : User) (target : ℕ) → target ≢ TALK
    → aims_of state own target ≡ map (item_aim own.session) (items_of state own.session target)
aims_of_items state own target away =
    ap (λ (b : Bool). cond b (talk_aim own ∷ []) (map (item_aim own.session) (items_of state own.session target))) (ne_eqb target TALK away)

-- the aim at this place is talk, or that of an item
abbrev pub IsAimOf : StateValue → User → ℕ → ℕ → Aimed → Type 0
IsAimOf state own target place aim =
    ((target ≡ TALK) × (talk_aim own ≡ aim))
    ⊎ ((target ≢ TALK) × (item : TargetItem) × (slice_get (items_of state own.session target) place ≡ Some item) × (item_aim own.session item ≡ aim))

only_one : (x y : Aimed) (place : ℕ) → slice_get (x ∷ []) place ≡ Some y → x ≡ y
only_one x y zero is = same_Some x y is
only_one x y (suc place) is = absurd (none-some y is)

pub aim_of : (state : StateValue) (own : User) (target place : ℕ) (aim : Aimed) → slice_get (aims_of state own target) place ≡ Some aim
    → IsAimOf state own target place aim
aim_of state own target place aim there =
    ⊎_elim
    (λ (talks : target ≡ TALK).
    inl (talks, only_one (talk_aim own) aim place (sym (ap (λ (aims : List Aimed). slice_get aims place) (aims_of_talk state own target talks)) ∙ there)))
    (λ (away : target ≢ TALK).
    let (item, is, same) = shown (item_aim own.session) (slice_get (items_of state own.session target) place) aim
    (sym (ap (λ (aims : List Aimed). slice_get aims place) (aims_of_items state own target away)
    ∙ slice_get-map (item_aim own.session) (items_of state own.session target) place)
    ∙ there) in
    inr (away, item, is, same))
    (cases_eq target TALK)

pub talk_there : (state : StateValue) (own : User) (target : ℕ) → target ≡ TALK → slice_get (aims_of state own target) 0 ≡ Some (talk_aim own)
talk_there state own target talks = ap (λ (aims : List Aimed). slice_get aims 0) (aims_of_talk state own target talks)

pub item_there : (state : StateValue) (own : User) (target place : ℕ) (item : TargetItem) → target ≢ TALK
    → slice_get (items_of state own.session target) place ≡ Some item → slice_get (aims_of state own target) place ≡ Some (item_aim own.session item)
item_there state own target place item away is =
    ap (λ (aims : List Aimed). slice_get aims place) (aims_of_items state own target away)
    ∙ slice_get-map (item_aim own.session) (items_of state own.session target) place
    ∙ ap (λ (o : Option TargetItem). option_map (item_aim own.session) o) is

-- what a speaker needs is the same for all of them
pub may_aim : (state : StateValue) (own : User) (target place : ℕ) (aim : Aimed) (channel : ChannelId) → slice_get (aims_of state own target) place ≡ Some aim
    → may state aim.speaker aim.permission channel ≡ may state own.session (needed_for target) channel
may_aim state own target place aim channel there =
    ⊎_elim
    (λ (is : (target ≡ TALK) × (talk_aim own ≡ aim)).
    ap (λ (a : Aimed). may state a.speaker a.permission channel) (sym is.1)
    ∙ sym (ap (λ (n : ℕ). may state own.session (needed_for n) channel) is.0))
    (λ (is : (target ≢ TALK) × (item : TargetItem) × (slice_get (items_of state own.session target) place ≡ Some item) × (item_aim own.session item ≡ aim)).
    let (away, item, at, same) = is in
    ap (λ (a : Aimed). may state a.speaker a.permission channel) (sym same)
    ∙ sym (ap (λ (b : Bool). may state own.session (cond b SPEAK WHISPER) channel) (ne_eqb target TALK away)))
    (aim_of state own target place aim there)

-- ---- over what talk spreads

or_none : (b : Bool) → (b || false) ≡ b
or_none true = refl
or_none false = refl

-- a channel, and what links lead to from it, are what links lead to
spread_links : (tree : TreeState) (top id : ChannelId) → is_among (linked tree top) top ≡ true
    → is_among (spread tree true false top) id ≡ is_among (linked tree top) id
spread_links tree top id own = among-spread tree true false top id ∙ by_first (eqb top.0 id.0) refl
  where
    by_first : (b : Bool) → eqb top.0 id.0 ≡ b → ((b || is_among (linked tree top) id) || false) ≡ is_among (linked tree top) id
    by_first true same = sym (ap (is_among (linked tree top)) (sym (same_number top id same)) ∙ own)
    by_first false other = or_none (is_among (linked tree top) id)

pub talk_spreads : (state : StateValue) (own : User) (channel : ChannelId) → IsProper state → IsTrue (is_there state.tree.channels own.channel)
    → spreads_over state.tree (talk_aim own) channel ≡ is_among (linked state.tree own.channel) channel
talk_spreads state own channel proper there =
    ap (λ (t : Bool). t && is_among (spread state.tree true false own.channel) channel) there
    ∙ spread_links state.tree own.channel channel
    (Contains-among (linked state.tree own.channel) own.channel
    ((linked_leads state.tree own.channel own.channel proper.tree.joined there).1 (0, refl)))

-- talk covers what it spreads over, where the speaker may speak
pub talk_covers : (state : StateValue) (own : User) (channel : ChannelId) → IsProper state → IsTrue (is_there state.tree.channels own.channel)
    → is_among (talk state own) channel ≡ (spreads_over state.tree (talk_aim own) channel && may state own.session SPEAK channel)
talk_covers state own channel proper there =
    among-filter (may state own.session SPEAK) (linked state.tree own.channel) channel
    ∙ ap (λ (t : Bool). t && may state own.session SPEAK channel) (sym (talk_spreads state own channel proper there))

-- ---- over what an item spreads

pub item_spreads_from : (state : StateValue) (speaker : SessionId) (item : TargetItem) (channel : ChannelId)
    → spreads_over state.tree (item_aim speaker item) channel ≡ true → SpreadsOver state item channel
item_spreads_from state speaker item channel on = by_top item.channel on
  where
    by_top : (o : Option ChannelId)
        → option_map_or (λ top. is_there state.tree.channels top && is_among (spread state.tree item.links item.children top) channel) o false ≡ true
        → (top : ChannelId) × (o ≡ Some top) × IsTrue (is_there state.tree.channels top) × Contains (spread state.tree item.links item.children top) channel
    by_top None on = absurd (false≢true on)
    by_top (Some top) on =
        let parts = and_parts (is_there state.tree.channels top) (is_among (spread state.tree item.links item.children top) channel) on in
        (top, refl, parts.0, among-Contains (spread state.tree item.links item.children top) channel parts.1)

pub item_spreads_into : (state : StateValue) (speaker : SessionId) (item : TargetItem) (channel : ChannelId)
    → SpreadsOver state item channel → spreads_over state.tree (item_aim speaker item) channel ≡ true
item_spreads_into state speaker item channel (top, is, there, has) =
    ap (λ (o : Option ChannelId). option_map_or (λ one. is_there state.tree.channels one && is_among (spread state.tree item.links item.children one) channel) o false) is
    ∙ and_from (is_there state.tree.channels top) (is_among (spread state.tree item.links item.children top) channel) there
    (Contains-among (spread state.tree item.links item.children top) channel has)

-- an item covers what it spreads over, where the speaker may whisper
pub item_covers : (state : StateValue) (own : User) (item : TargetItem) (channel : ChannelId)
    → is_among (cover state own item) channel ≡ (spreads_over state.tree (item_aim own.session item) channel && may state own.session WHISPER channel)
item_covers state own item channel = by_top item.channel
  where
    by_there : (top : ChannelId) (b : Bool)
        → is_among (cond b (filter (may state own.session WHISPER) (spread state.tree item.links item.children top)) []) channel
        ≡ ((b && is_among (spread state.tree item.links item.children top) channel) && may state own.session WHISPER channel)
    by_there top true = among-filter (may state own.session WHISPER) (spread state.tree item.links item.children top) channel
    by_there top false = refl

    by_top : (o : Option ChannelId)
        → is_among (option_map_or (λ top. cond (is_there state.tree.channels top) (filter (may state own.session WHISPER) (spread state.tree item.links item.children top)) []) o []) channel
        ≡ (option_map_or (λ top. is_there state.tree.channels top && is_among (spread state.tree item.links item.children top) channel) o false && may state own.session WHISPER channel)
    by_top None = refl
    by_top (Some top) = by_there top (is_there state.tree.channels top)

-- ---- what is aimed at a channel, or at a session by name

pub aimed_from : (state : StateValue) (own : User) (target place : ℕ) (aim : Aimed) (channel : ChannelId) → IsProper state
    → IsTrue (is_there state.tree.channels own.channel) → slice_get (aims_of state own target) place ≡ Some aim
    → spreads_over state.tree aim channel ≡ true → IsAimedAt state own target channel
aimed_from state own target place aim channel proper inside there on =
    ⊎_elim
    (λ (is : (target ≡ TALK) × (talk_aim own ≡ aim)).
    inl (
      is.0,
      among-Contains (linked state.tree own.channel) channel
          (sym (talk_spreads state own channel proper inside) ∙ ap (λ (a : Aimed). spreads_over state.tree a channel) is.1 ∙ on),
    ))
    (λ (is : (target ≢ TALK) × (item : TargetItem) × (slice_get (items_of state own.session target) place ≡ Some item) × (item_aim own.session item ≡ aim)).
    let (away, item, at, same) = is in
    inr (
      away,
      (
        item,
        contains_at (items_of state own.session target) place item at,
        item_spreads_from state own.session item channel (ap (λ (a : Aimed). spreads_over state.tree a channel) same ∙ on),
      ),
    ))
    (aim_of state own target place aim there)

-- one of these aims spreads over the channel
pub record IsSpread (state : StateValue) (own : User) (target : ℕ) (channel : ChannelId) : Type 0 where
  pub place : ℕ
  pub aim : Aimed
  pub there : slice_get (aims_of state own target) place ≡ Some aim
  pub on : spreads_over state.tree aim channel ≡ true

pub aimed_into : (state : StateValue) (own : User) (target : ℕ) (channel : ChannelId) → IsProper state → IsTrue (is_there state.tree.channels own.channel)
    → IsAimedAt state own target channel → IsSpread state own target channel
aimed_into state own target channel proper inside (inl (talks, has)) = record {
  place = 0;
  aim = talk_aim own;
  there = talk_there state own target talks;
  on = talk_spreads state own channel proper inside ∙ Contains-among (linked state.tree own.channel) channel has;
}
aimed_into state own target channel proper inside (inr (away, (item, has, spreads))) =
    let (place, at) = at_of (items_of state own.session target) item has in
    record {
      place = place;
      aim = item_aim own.session item;
      there = item_there state own target place item away at;
      on = item_spreads_into state own.session item channel spreads;
    }

-- the items that name a session
items_name : (state : StateValue) (own : User) (target : ℕ) (user : User) → target ≢ TALK
    → one_names state own target user ≡ list_any (λ item. is_named item.sessions user) (items_of state own.session target)
items_name state own target user away =
    ap (λ (b : Bool). not b && list_any (λ item. is_named item.sessions user) (items_of state own.session target)) (ne_eqb target TALK away)

same_session : (a b : SessionId) → eqb a.0 b.0 ≡ true → a ≡ b
same_session a b e = ap (λ n. record { 0 = n }) (eqb-true a.0 b.0 e)

pub named_from : (state : StateValue) (own : User) (target : ℕ) (user : User) → one_names state own target user ≡ true → IsNamedBy state own target user
named_from state own target user on =
    ⊎_elim
    (λ (talks : target ≡ TALK). absurd (false≢true (sym (ap (λ (n : ℕ). one_names state own n user) talks) ∙ on)))
    (λ (away : target ≢ TALK).
    let (item, has, named) = any_from (λ (item : TargetItem). is_named item.sessions user) (items_of state own.session target) (sym (items_name state own target user away) ∙ on) in
    let (one, inside, number) = any_from (λ (one : SessionId). eqb one.0 user.session.0) item.sessions named in
    (away, item, has, subst (Contains item.sessions) (same_session one user.session number) inside))
    (cases_eq target TALK)

pub named_into : (state : StateValue) (own : User) (target : ℕ) (user : User) → IsNamedBy state own target user → one_names state own target user ≡ true
named_into state own target user (away, item, has, inside) =
    items_name state own target user away
    ∙ any_has (λ (item : TargetItem). is_named item.sessions user) item (items_of state own.session target)
    (any_has (λ (one : SessionId). eqb one.0 user.session.0) user.session item.sessions (eq-eqb user.session.0 user.session.0 refl) inside) has
