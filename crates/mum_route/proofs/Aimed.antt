-- The aims of a packet reach those whom the definition of a route names.
use Rattle.mum_route.proofs.Common.{◌≡◌, ◌∙◌, ℕ, zero, suc, ◌+◌, ◌<◌, ◌&&◌, ◌||◌, Bool, true, false, cond, eqb, List, [], ◌∷◌, length, get_or, take, Option, Some, None, refl, sym, ap, IsTrue, filter, list_any, option_map_or, and_from, eq-eqb, or_left, list_any_more, is_among, ChannelId, LISTEN, SPEAK, WHISPER, is_there, Pair, TreeState, is_reached, linked, same_number, ListenerPair, TargetItem, User, pairs_of, StateValue, Ground, Context, Talk, ChannelWhisper, Aimed, covered, heard_by, item_aim, reached_by, talk_aim, first_of, cover, spread, talk, can_hear, is_in_group, may, by_items, by_talk, is_covered_by, is_named_by, is_within, listens_to, listens_within}
use Rattle.mum_route.proofs.{Among.among-filter, Among.among-linked, Among.among-spread, Precedence.pick, Precedence.pick_either}

-- ---- talk

reached_self : (links : List Pair) (rounds : ℕ) (id : ChannelId) → is_reached links rounds id id ≡ true
unfolding is_reached
reached_self links zero id = eq-eqb id.0 id.0 refl
reached_self links (suc rounds) id = or_left (is_reached links rounds id id) _ (reached_self links rounds id)

-- links lead from a channel to itself
own_linked : (tree : TreeState) (id : ChannelId) → IsTrue (is_there tree.channels id) → is_among (linked tree id) id ≡ true
own_linked tree id there =
    among-linked tree id id ∙ and_from (is_there tree.channels id) (is_reached tree.links (length tree.channels) id id) there (reached_self tree.links (length tree.channels) id)

or_none : (b : Bool) → (b || false) ≡ b
or_none true = refl
or_none false = refl

-- a channel, and what links lead to from it, are what links lead to
spread_links : (tree : TreeState) (top id : ChannelId) → IsTrue (is_there tree.channels top)
    → is_among (spread tree true false top) id ≡ is_among (linked tree top) id
spread_links tree top id there = among-spread tree true false top id ∙ by_first (eqb top.0 id.0) refl
  where
    by_first : (b : Bool) → eqb top.0 id.0 ≡ b → ((b || is_among (linked tree top) id) || false) ≡ is_among (linked tree top) id
    by_first true same = sym (ap (is_among (linked tree top)) (sym (same_number top id same)) ∙ own_linked tree top there)
    by_first false other = or_none (is_among (linked tree top) id)

talk_covered : (state : StateValue) (speaker : User) (id : ChannelId) → IsTrue (is_there state.tree.channels speaker.channel)
    → is_among (covered state (talk_aim speaker)) id ≡ is_among (talk state speaker) id
talk_covered state speaker id there =
    among-filter (may state speaker.session SPEAK) (spread state.tree true false speaker.channel) id
    ∙ ap (λ (t : Bool). t && may state speaker.session SPEAK id) (spread_links state.tree speaker.channel id there)
    ∙ sym (among-filter (may state speaker.session SPEAK) (linked state.tree speaker.channel) id)

any_same : {X : Type 0} (p q : X → Bool) (xs : List X) → ((x : X) → p x ≡ q x) → list_any p xs ≡ list_any q xs
any_same p q [] same = refl
any_same p q (x ∷ xs) same = ap (λ (t : Bool). t || list_any p xs) (same x) ∙ ap (λ (t : Bool). q x || t) (any_same p q xs same)

listens_same : (state : StateValue) (one other : List ChannelId) (group : List ℕ) (user : User) → ((id : ChannelId) → is_among one id ≡ is_among other id)
    → listens_within state one group user ≡ listens_within state other group user
listens_same state one other group user same =
    any_same
    (λ (pair : ListenerPair). is_among one pair.channel && is_in_group state group pair.channel user && may state user.session LISTEN pair.channel)
    (λ (pair : ListenerPair). is_among other pair.channel && is_in_group state group pair.channel user && may state user.session LISTEN pair.channel)
    (pairs_of state.roster user.session)
    (λ pair. ap (λ (t : Bool). t && is_in_group state group pair.channel user && may state user.session LISTEN pair.channel) (same pair.channel))

pub talk_reaches : (state : StateValue) (speaker user : User) → IsTrue (is_there state.tree.channels speaker.channel)
    → reached_by state (talk_aim speaker) user ≡ by_talk state speaker user
talk_reaches state speaker user there =
    ap (λ (t : Bool). pick Talk (t && is_in_group state [] user.channel user) false (listens_within state (covered state (talk_aim speaker)) [] user))
    (talk_covered state speaker user.channel there)
    ∙ ap (λ (t : Bool). pick Talk (is_within state (talk state speaker) [] user) false t)
    (listens_same state (covered state (talk_aim speaker)) (talk state speaker) [] user (λ id. talk_covered state speaker id there))

-- ---- an item

ground_covers : {X : Type 0} (there : ChannelId → Bool) (ground : ChannelId → Ground) (spread_over : Ground → List X) (channel : Option ChannelId)
    → option_map_or spread_over (option_map_or (λ one. cond (there one) (Some (ground one)) None) channel None) []
    ≡ option_map_or (λ one. cond (there one) (spread_over (ground one)) []) channel []
ground_covers there ground spread_over None = refl
ground_covers there ground spread_over (Some one) = by_there (there one)
  where
    by_there : (b : Bool) → option_map_or spread_over (cond b (Some (ground one)) None) [] ≡ cond b (spread_over (ground one)) []
    by_there true = refl
    by_there false = refl

pub item_covered : (state : StateValue) (speaker : User) (item : TargetItem) → covered state (item_aim state speaker.session item) ≡ cover state speaker item
item_covered state speaker item =
    ground_covers (is_there state.tree.channels) (λ one. record { top = one; links = item.links; children = item.children })
    (λ ground. filter (may state speaker.session WHISPER) (spread state.tree ground.links ground.children ground.top)) item.channel

pub item_reaches : (state : StateValue) (speaker user : User) (item : TargetItem)
    → reached_by state (item_aim state speaker.session item) user
    ≡ pick ChannelWhisper (is_covered_by state speaker user item) (is_named_by state speaker user item) (listens_to state speaker user item)
item_reaches state speaker user item =
    ap (λ (covers : List ChannelId). pick ChannelWhisper (is_within state covers item.group user) (is_named_by state speaker user item) (listens_within state covers item.group user))
    (item_covered state speaker item)

-- one item more
pub items_more : (state : StateValue) (speaker user : User) (items : List TargetItem) (i : ℕ) (item : TargetItem) → i < length items → item ≡ get_or items i item
    → by_items state speaker (take (i + 1) items) user ≡ first_of (by_items state speaker (take i items) user) (reached_by state (item_aim state speaker.session item) user)
items_more state speaker user items i item within read =
    let more : (p : TargetItem → Bool) → list_any p (take (i + 1) items) ≡ (list_any p (take i items) || p item) =
    λ p. list_any_more p items i item within ∙ ap (λ (one : TargetItem). list_any p (take i items) || p one) (sym read) in
    ap (λ (t : Bool). pick ChannelWhisper t (list_any (is_named_by state speaker user) (take (i + 1) items)) (list_any (listens_to state speaker user) (take (i + 1) items))) (more (is_covered_by state speaker user))
    ∙ ap (λ (t : Bool). pick ChannelWhisper (list_any (is_covered_by state speaker user) (take i items) || is_covered_by state speaker user item) t (list_any (listens_to state speaker user) (take (i + 1) items))) (more (is_named_by state speaker user))
    ∙ ap (λ (t : Bool). pick ChannelWhisper (list_any (is_covered_by state speaker user) (take i items) || is_covered_by state speaker user item)
    (list_any (is_named_by state speaker user) (take i items) || is_named_by state speaker user item) t) (more (listens_to state speaker user))
    ∙ pick_either
    (list_any (is_covered_by state speaker user) (take i items)) (list_any (is_named_by state speaker user) (take i items)) (list_any (listens_to state speaker user) (take i items))
    (is_covered_by state speaker user item) (is_named_by state speaker user item) (listens_to state speaker user item)
    ∙ ap (first_of (by_items state speaker (take i items) user)) (sym (item_reaches state speaker user item))

-- ---- one more aim, for a session

pub talk_heard : (state : StateValue) (speaker user : User) (aim : Aimed) (old value : Option Context) → IsTrue (is_there state.tree.channels speaker.channel)
    → aim ≡ talk_aim speaker → old ≡ None → value ≡ first_of old (heard_by state aim user)
    → value ≡ cond (can_hear speaker.session user) (by_talk state speaker user) None
talk_heard state speaker user aim old value there same none is =
    is ∙ ap (λ (o : Option Context). first_of o (heard_by state aim user)) none
    ∙ ap (λ (a : Aimed). heard_by state a user) same
    ∙ ap (λ (o : Option Context). cond (can_hear speaker.session user) o None) (talk_reaches state speaker user there)

pub item_heard : (state : StateValue) (speaker user : User) (items : List TargetItem) (i : ℕ) (item : TargetItem) (aim : Aimed) (old value : Option Context)
    → i < length items → item ≡ get_or items i item → aim ≡ item_aim state speaker.session item
    → old ≡ cond (can_hear speaker.session user) (by_items state speaker (take i items) user) None → value ≡ first_of old (heard_by state aim user)
    → value ≡ cond (can_hear speaker.session user) (by_items state speaker (take (i + 1) items) user) None
item_heard state speaker user items i item aim old value within read same was is =
    is ∙ ap (first_of old) (ap (λ (a : Aimed). heard_by state a user) same)
    ∙ ap (λ (o : Option Context). first_of o (heard_by state (item_aim state speaker.session item) user)) was
    ∙ by_hearing (can_hear speaker.session user)
  where
    by_hearing : (can : Bool)
        → first_of (cond can (by_items state speaker (take i items) user) None) (cond can (reached_by state (item_aim state speaker.session item) user) None)
        ≡ cond can (by_items state speaker (take (i + 1) items) user) None
    by_hearing true = sym (items_more state speaker user items i item within read)
    by_hearing false = refl
