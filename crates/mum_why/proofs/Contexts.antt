-- How the aims of a packet reach a session, by where they stop.
use Rattle.mum_why.proofs.Common.{◌≡◌, ◌≢◌, ◌∙◌, ℕ, ◌+◌, ◌&&◌, ◌||◌, Bool, true, false, not, cond, eqb, List, [], ◌∷◌, map, Option, Some, None, refl, sym, ap, ⊎_elim, IsTrue, find, is_some, list_any, option_map, option_or, cases_eq, ne_eqb, is_among, ChannelId, LISTEN, SPEAK, WHISPER, is_there, ListenerPair, TargetItem, User, pairs_of, IsProper, StateValue, any_alike, any_map, some_found, Context, ChannelWhisper, DirectWhisper, Listener, Talk, TALK, cover, talk, is_in_group, may, needed_for, by_items, by_talk, context_of, is_covered_by, is_named, is_named_by, is_within, items_of, listens_to, listens_within, Stop, Arrives, Aimed, aims_of, channel_where, item_aim, level, one_names, spreads_over, stops, talk_aim, way_by_listening, way_from, way_to}
use Rattle.mum_why.proofs.{Aiming.item_covers, Aiming.talk_covers, Stops.stop_by}

-- ---- one aim

mapped_is : {X Y : Type 0} (f : X → Y) (o : Option X) → is_some (option_map f o) ≡ is_some o
mapped_is f None = refl
mapped_is f (Some x) = refl

chosen_is : {X : Type 0} (b : Bool) (x : X) → is_some (cond b (Some x) None) ≡ b
chosen_is true x = refl
chosen_is false x = refl

-- where all tests are passed
arrives_here : (a b c e : Bool) → eqb (level (stop_by a b c false e)) 4 ≡ (a && b && c)
arrives_here false b c e = refl
arrives_here true false c e = refl
arrives_here true true false e = refl
arrives_here true true true e = refl

arrives_listening : (a b c e : Bool) → eqb (level (stop_by a b c true e)) 4 ≡ (a && b && c && e)
arrives_listening false b c e = refl
arrives_listening true false c e = refl
arrives_listening true true false e = refl
arrives_listening true true true false = refl
arrives_listening true true true true = refl

-- an aim reaches a session in its channel
here_is : (state : StateValue) (aim : Aimed) (user : User) → is_some (channel_where state aim user false Arrives)
    ≡ (spreads_over state.tree aim user.channel && may state aim.speaker aim.permission user.channel && is_in_group state aim.group user.channel user)
here_is state aim user =
    chosen_is (stops state aim user false Arrives user.channel) user.channel
    ∙ arrives_here (spreads_over state.tree aim user.channel) (may state aim.speaker aim.permission user.channel) (is_in_group state aim.group user.channel user)
    (may state user.session LISTEN user.channel)

-- an aim reaches it in a channel to which it listens
listening_is : (state : StateValue) (aim : Aimed) (user : User) (covered : List ChannelId)
    → ((channel : ChannelId) → is_among covered channel ≡ (spreads_over state.tree aim channel && may state aim.speaker aim.permission channel))
    → is_some (channel_where state aim user true Arrives) ≡ listens_within state covered aim.group user
listening_is state aim user covered covers =
    mapped_is (λ (pair : ListenerPair). pair.channel) (find (λ pair. stops state aim user true Arrives pair.channel) (pairs_of state.roster user.session))
    ∙ some_found (λ (pair : ListenerPair). stops state aim user true Arrives pair.channel) (pairs_of state.roster user.session)
    ∙ any_alike (λ (pair : ListenerPair). stops state aim user true Arrives pair.channel)
    (λ (pair : ListenerPair). is_among covered pair.channel && is_in_group state aim.group pair.channel user && may state user.session LISTEN pair.channel)
    (λ pair.
    arrives_listening (spreads_over state.tree aim pair.channel) (may state aim.speaker aim.permission pair.channel) (is_in_group state aim.group pair.channel user)
    (may state user.session LISTEN pair.channel)
    ∙ ap (λ (t : Bool). t && is_in_group state aim.group pair.channel user && may state user.session LISTEN pair.channel) (sym (covers pair.channel)))
    (pairs_of state.roster user.session)

-- ---- several aims

or_is : {X Y : Type 0} (f : X → Y) (o : Option X) (rest : Option Y) → is_some (option_or (option_map f o) rest) ≡ (is_some o || is_some rest)
or_is f None rest = refl
or_is f (Some x) rest = refl

-- there is a way exactly where one of the aims has one
some_way : (state : StateValue) (user : User) (listens : Bool) (wanted : Stop) (from : ℕ) (aims : List Aimed)
    → is_some (way_from state user listens wanted from aims) ≡ list_any (λ aim. is_some (channel_where state aim user listens wanted)) aims
unfolding way_from
some_way state user listens wanted from [] = refl
some_way state user listens wanted from (aim ∷ aims) =
    or_is (λ (channel : ChannelId). (from, channel)) (channel_where state aim user listens wanted) (way_from state user listens wanted (from + 1) aims)
    ∙ ap (λ (t : Bool). is_some (channel_where state aim user listens wanted) || t) (some_way state user listens wanted (from + 1) aims)

or_false : (b : Bool) → (b || false) ≡ b
or_false true = refl
or_false false = refl

and_true : (b : Bool) → (b && true) ≡ b
and_true true = refl
and_true false = refl

and_false : (b : Bool) → (b && false) ≡ false
and_false true = refl
and_false false = refl

-- a test that holds of all or of none
any_with : {X : Type 0} (p : X → Bool) (b : Bool) (xs : List X) → list_any (λ x. p x && b) xs ≡ (list_any p xs && b)
any_with p true xs = any_alike (λ x. p x && true) p (λ x. and_true (p x)) xs ∙ sym (and_true (list_any p xs))
any_with {X} p false xs = none xs ∙ sym (and_false (list_any p xs))
  where
    none : (ys : List X) → list_any (λ x. p x && false) ys ≡ false
    none [] = refl
    none (y ∷ ys) = ap (λ (t : Bool). t || list_any (λ x. p x && false) ys) (and_false (p y)) ∙ none ys

-- ---- the context

-- the context for those who are in a channel that is covered
abbrev pub inside_of : ℕ → Context
inside_of target = cond (eqb target TALK) Talk ChannelWhisper

-- the first of three ways that applies
abbrev pub by_ways : Context → Bool → Bool → Bool → Option Context
by_ways inside here named listening = cond here (Some inside) (cond named (Some DirectWhisper) (cond listening (Some Listener) None))

-- by the aims of the packet
abbrev pub context_found : StateValue → User → ℕ → User → Option Context
context_found state own target user =
    by_ways (inside_of target) (is_some (way_to state (aims_of state own target) user Arrives))
    (one_names state own target user && may state own.session (needed_for target) user.channel)
    (is_some (way_by_listening state (aims_of state own target) user Arrives))

-- talk

talk_here : (state : StateValue) (own user : User) → IsProper state → IsTrue (is_there state.tree.channels own.channel)
    → is_some (way_to state (talk_aim own ∷ []) user Arrives) ≡ is_within state (talk state own) [] user
talk_here state own user proper inside =
    some_way state user false Arrives 0 (talk_aim own ∷ [])
    ∙ or_false (is_some (channel_where state (talk_aim own) user false Arrives))
    ∙ here_is state (talk_aim own) user
    ∙ ap (λ (t : Bool). t && is_in_group state [] user.channel user) (sym (talk_covers state own user.channel proper inside))

talk_listening : (state : StateValue) (own user : User) → IsProper state → IsTrue (is_there state.tree.channels own.channel)
    → is_some (way_by_listening state (talk_aim own ∷ []) user Arrives) ≡ listens_within state (talk state own) [] user
talk_listening state own user proper inside =
    some_way state user true Arrives 0 (talk_aim own ∷ [])
    ∙ or_false (is_some (channel_where state (talk_aim own) user true Arrives))
    ∙ listening_is state (talk_aim own) user (talk state own) (λ channel. talk_covers state own channel proper inside)

by_talk_found : (state : StateValue) (own user : User) → IsProper state → IsTrue (is_there state.tree.channels own.channel)
    → context_found state own 0 user ≡ by_talk state own user
by_talk_found state own user proper inside =
    ap (λ (t : Bool). by_ways Talk t false (is_some (way_by_listening state (talk_aim own ∷ []) user Arrives))) (talk_here state own user proper inside)
    ∙ ap (λ (t : Bool). by_ways Talk (is_within state (talk state own) [] user) false t) (talk_listening state own user proper inside)

-- items

items_here : (state : StateValue) (own user : User) (items : List TargetItem)
    → is_some (way_to state (map (item_aim own.session) items) user Arrives) ≡ list_any (is_covered_by state own user) items
items_here state own user items =
    some_way state user false Arrives 0 (map (item_aim own.session) items)
    ∙ any_map (λ (aim : Aimed). is_some (channel_where state aim user false Arrives)) (is_covered_by state own user) (item_aim own.session)
    (λ item.
    here_is state (item_aim own.session item) user
    ∙ ap (λ (t : Bool). t && is_in_group state item.group user.channel user) (sym (item_covers state own item user.channel)))
    items

items_listening : (state : StateValue) (own user : User) (items : List TargetItem)
    → is_some (way_by_listening state (map (item_aim own.session) items) user Arrives) ≡ list_any (listens_to state own user) items
items_listening state own user items =
    some_way state user true Arrives 0 (map (item_aim own.session) items)
    ∙ any_map (λ (aim : Aimed). is_some (channel_where state aim user true Arrives)) (listens_to state own user) (item_aim own.session)
    (λ item. listening_is state (item_aim own.session item) user (cover state own item) (λ channel. item_covers state own item channel))
    items

items_named : (state : StateValue) (own user : User) (items : List TargetItem)
    → (list_any (λ item. is_named item.sessions user) items && may state own.session WHISPER user.channel) ≡ list_any (is_named_by state own user) items
items_named state own user items = sym (any_with (λ (item : TargetItem). is_named item.sessions user) (may state own.session WHISPER user.channel) items)

by_items_found : (state : StateValue) (own user : User) (items : List TargetItem)
    → by_ways ChannelWhisper (is_some (way_to state (map (item_aim own.session) items) user Arrives))
    (list_any (λ item. is_named item.sessions user) items && may state own.session WHISPER user.channel)
    (is_some (way_by_listening state (map (item_aim own.session) items) user Arrives))
    ≡ by_items state own items user
by_items_found state own user items =
    ap (λ (t : Bool). by_ways ChannelWhisper t (list_any (λ item. is_named item.sessions user) items && may state own.session WHISPER user.channel)
    (is_some (way_by_listening state (map (item_aim own.session) items) user Arrives))) (items_here state own user items)
    ∙ ap (λ (t : Bool). by_ways ChannelWhisper (list_any (is_covered_by state own user) items) t (is_some (way_by_listening state (map (item_aim own.session) items) user Arrives)))
    (items_named state own user items)
    ∙ ap (λ (t : Bool). by_ways ChannelWhisper (list_any (is_covered_by state own user) items) (list_any (is_named_by state own user) items) t) (items_listening state own user items)

-- what is found is the context of the route
pub context_is : (state : StateValue) (own : User) (target : ℕ) (user : User) → IsProper state → IsTrue (is_there state.tree.channels own.channel)
    → context_found state own target user ≡ context_of state own target user
context_is state own target user proper inside =
    ⊎_elim
    (λ (talks : target ≡ TALK).
    ap (λ (n : ℕ). context_found state own n user) talks
    ∙ by_talk_found state own user proper inside
    ∙ sym (ap (λ (n : ℕ). context_of state own n user) talks))
    (λ (away : target ≢ TALK).
    let items : List TargetItem = items_of state own.session target in
    ap (λ (b : Bool). let aims : List Aimed = cond b (talk_aim own ∷ []) (map (item_aim own.session) items) in
    by_ways (cond b Talk ChannelWhisper) (is_some (way_to state aims user Arrives))
    ((not b && list_any (λ item. is_named item.sessions user) items) && may state own.session (cond b SPEAK WHISPER) user.channel) (is_some (way_by_listening state aims user Arrives))) (ne_eqb target TALK away)
    ∙ by_items_found state own user items
    ∙ sym (ap (λ (b : Bool). cond b (by_talk state own user) (by_items state own items user)) (ne_eqb target TALK away)))
    (cases_eq target TALK)

-- the first of three that applies
pub context_by : (state : StateValue) (own : User) (target : ℕ) (user : User) (here named listening : Bool) → IsProper state → IsTrue (is_there state.tree.channels own.channel)
    → is_some (way_to state (aims_of state own target) user Arrives) ≡ here
    → (one_names state own target user && may state own.session (needed_for target) user.channel) ≡ named
    → is_some (way_by_listening state (aims_of state own target) user Arrives) ≡ listening
    → by_ways (inside_of target) here named listening ≡ context_of state own target user
context_by state own target user here named listening proper inside here_is named_is listening_is_ =
    sym (ap (λ (t : Bool). by_ways (inside_of target) t (one_names state own target user && may state own.session (needed_for target) user.channel)
    (is_some (way_by_listening state (aims_of state own target) user Arrives))) here_is
    ∙ ap (λ (t : Bool). by_ways (inside_of target) here t (is_some (way_by_listening state (aims_of state own target) user Arrives))) named_is
    ∙ ap (λ (t : Bool). by_ways (inside_of target) here named t) listening_is_)
    ∙ context_is state own target user proper inside
