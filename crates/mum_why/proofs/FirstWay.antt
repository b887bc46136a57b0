-- The first that stops just there, one item or one channel after the other.
use Rattle.mum_why.proofs.Common.{◌≡◌, ◌∙◌, ℕ, ◌+◌, ◌<◌, ◌≤◌, Bool, true, false, cond, List, ◌∷◌, length, map, get_or, drop, Option, Some, None, refl, sym, ap, find, option_map, option_or, drop_of_length-le, drop_more, ChannelId, SessionId, TargetItem, User, StateValue, TALK, Stop, Aimed, aims_of, channel_where, item_aim, talk_aim, way_from}
use Rattle.mum_why.proofs.Aiming.{aims_of_talk}

-- ---- the first of a list

pub find_next : {X : Type 0} (p : X → Bool) (xs : List X) (i : ℕ) (d : X) → i < length xs → p (get_or xs i d) ≡ false
    → find p (drop i xs) ≡ find p xs → find p (drop (i + 1) xs) ≡ find p xs
find_next p xs i d within off so_far =
    sym (ap (find p) (drop_more xs i d within) ∙ ap (λ (b : Bool). cond b (Some (get_or xs i d)) (find p (drop (i + 1) xs))) off) ∙ so_far

pub find_here : {X : Type 0} (p : X → Bool) (xs : List X) (i : ℕ) (d : X) → i < length xs → p (get_or xs i d) ≡ true
    → find p (drop i xs) ≡ find p xs → find p xs ≡ Some (get_or xs i d)
find_here p xs i d within on so_far =
    sym so_far ∙ ap (find p) (drop_more xs i d within) ∙ ap (λ (b : Bool). cond b (Some (get_or xs i d)) (find p (drop (i + 1) xs))) on

pub find_end : {X : Type 0} (p : X → Bool) (xs : List X) (i : ℕ) → length xs ≤ i → find p (drop i xs) ≡ find p xs → find p xs ≡ None
find_end p xs i past so_far = sym so_far ∙ ap (find p) (drop_of_length-le xs past)

-- ---- items

-- the first way of these items, the first of which is at this place
abbrev pub way_of : StateValue → SessionId → User → Bool → Stop → ℕ → List TargetItem → Option (ℕ × ChannelId)
way_of state speaker user listens wanted place items = way_from state user listens wanted place (map (item_aim speaker) items)

-- by what the first of them has
item_first : (state : StateValue) (speaker : SessionId) (user : User) (listens : Bool) (wanted : Stop) (items : List TargetItem) (place : ℕ) (item : TargetItem) (aim : Aimed)
    (found : Option ChannelId) → place < length items → item ≡ get_or items place item → aim ≡ item_aim speaker item → found ≡ channel_where state aim user listens wanted
    → way_of state speaker user listens wanted place (drop place items)
    ≡ option_or (option_map (λ channel. (place, channel)) found) (way_of state speaker user listens wanted (place + 1) (drop (place + 1) items))
unfolding way_from
item_first state speaker user listens wanted items place item aim found within read same is =
    ap (way_of state speaker user listens wanted place)
    (drop_more items place item within ∙ ap (λ (one : TargetItem). one ∷ drop (place + 1) items) (sym read))
    ∙ ap (λ (o : Option ChannelId). option_or (option_map (λ channel. (place, channel)) o) (way_of state speaker user listens wanted (place + 1) (drop (place + 1) items)))
    (sym (is ∙ ap (λ (a : Aimed). channel_where state a user listens wanted) same))

pub item_next : (state : StateValue) (speaker : SessionId) (user : User) (listens : Bool) (wanted : Stop) (items : List TargetItem) (place : ℕ) (item : TargetItem) (aim : Aimed)
    (found : Option ChannelId) → place < length items → item ≡ get_or items place item → aim ≡ item_aim speaker item → found ≡ channel_where state aim user listens wanted
    → found ≡ None → way_of state speaker user listens wanted place (drop place items) ≡ way_of state speaker user listens wanted 0 items
    → way_of state speaker user listens wanted (place + 1) (drop (place + 1) items) ≡ way_of state speaker user listens wanted 0 items
item_next state speaker user listens wanted items place item aim found within read same is none so_far =
    sym (item_first state speaker user listens wanted items place item aim found within read same is
    ∙ ap (λ (o : Option ChannelId). option_or (option_map (λ channel. (place, channel)) o) (way_of state speaker user listens wanted (place + 1) (drop (place + 1) items))) none)
    ∙ so_far

pub item_here : (state : StateValue) (speaker : SessionId) (user : User) (listens : Bool) (wanted : Stop) (items : List TargetItem) (place : ℕ) (item : TargetItem) (aim : Aimed)
    (found : Option ChannelId) (channel : ChannelId) → place < length items → item ≡ get_or items place item → aim ≡ item_aim speaker item
    → found ≡ channel_where state aim user listens wanted → found ≡ Some channel
    → way_of state speaker user listens wanted place (drop place items) ≡ way_of state speaker user listens wanted 0 items
    → Some (place, channel) ≡ way_of state speaker user listens wanted 0 items
item_here state speaker user listens wanted items place item aim found channel within read same is here so_far =
    sym (item_first state speaker user listens wanted items place item aim found within read same is
    ∙ ap (λ (o : Option ChannelId). option_or (option_map (λ one. (place, one)) o) (way_of state speaker user listens wanted (place + 1) (drop (place + 1) items))) here)
    ∙ so_far

pub item_none : (state : StateValue) (speaker : SessionId) (user : User) (listens : Bool) (wanted : Stop) (items : List TargetItem) (place : ℕ) → length items ≤ place
    → way_of state speaker user listens wanted place (drop place items) ≡ way_of state speaker user listens wanted 0 items
    → None ≡ way_of state speaker user listens wanted 0 items
unfolding way_from
item_none state speaker user listens wanted items place past so_far =
    sym (ap (way_of state speaker user listens wanted place) (drop_of_length-le items past)) ∙ so_far

-- ---- talk

or_none : {X : Type 0} (o : Option X) → option_or o None ≡ o
or_none None = refl
or_none (Some x) = refl

pub talk_way : (state : StateValue) (own : User) (target : ℕ) (user : User) (listens : Bool) (wanted : Stop) (aim : Aimed) (found told : Option ChannelId) → target ≡ TALK
    → aim ≡ talk_aim own → found ≡ channel_where state aim user listens wanted → found ≡ told
    → option_map (λ channel. (0, channel)) told ≡ way_from state user listens wanted 0 (aims_of state own target)
unfolding way_from
talk_way state own target user listens wanted aim found told talks same is here =
    ap (option_map (λ (channel : ChannelId). (0, channel))) (sym here ∙ is ∙ ap (λ (a : Aimed). channel_where state a user listens wanted) same)
    ∙ sym (or_none (option_map (λ (channel : ChannelId). (0, channel)) (channel_where state (talk_aim own) user listens wanted)))
    ∙ sym (ap (way_from state user listens wanted 0) (aims_of_talk state own target talks))
