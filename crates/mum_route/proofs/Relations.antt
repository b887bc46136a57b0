-- What the tests of a route say of channels, items and listeners.
use Rattle.mum_route.proofs.Common.{◌≡◌, ◌∙◌, ℕ, zero, suc, inl, inr, ◌&&◌, Bool, true, false, cond, eqb, List, [], ◌∷◌, Option, Some, None, refl, sym, ap, subst, arith, IsTrue, ◌==◌, Contains, filter, list_any, option_map_or, and_from, and_parts, eq-eqb, eqb-true, false≢true, none-some, same_Some, is_among, ChannelId, SessionId, LISTEN, WHISPER, is_there, any_from, any_has, contains_later, none_contained, ListenerPair, TargetItem, User, pairs_of, is_of_session, StateValue, Context, Talk, ChannelWhisper, DirectWhisper, Listener, code, cover, spread, talk, is_in_group, may, IsCovered, IsItemContext, IsNamed, IsTalkContext, Listens, ListensToItems, ListensToTalk, by_items, by_talk, is_covered_by, is_named_by, is_within, listens_to, listens_within}
use Rattle.mum_route.proofs.{Among.Contains-among, Among.among-Contains, Precedence.pick}

-- ---- listeners

pub kept_from : {X : Type 0} (p : X → Bool) (xs : List X) (x : X) → Contains (filter p xs) x → Contains xs x × (p x ≡ true)
kept_from p [] x has = absurd (none_contained x has)
kept_from {X} p (y ∷ xs) x has = by_first (p y) refl has (kept_from p xs x)
  where
    by_first : (b : Bool) → p y ≡ b → Contains (cond b (y ∷ filter p xs) (filter p xs)) x → (Contains (filter p xs) x → Contains xs x × (p x ≡ true))
        → Contains (y ∷ xs) x × (p x ≡ true)
    by_first true here (zero, within, is) later = ((0, omega arith, is), ap p (sym is) ∙ here)
    by_first true here (suc k, within, is) later = let (has, on) = later (k, omega arith, is) in (contains_later y x xs has, on)
    by_first false off has later = let (rest, on) = later has in (contains_later y x xs rest, on)

kept_to : {X : Type 0} (p : X → Bool) (xs : List X) (x : X) → Contains xs x → p x ≡ true → Contains (filter p xs) x
kept_to p [] x has on = absurd (none_contained x has)
kept_to {X} p (y ∷ xs) x has on = by_first (p y) refl has (λ later. kept_to p xs x later on)
  where
    by_first : (b : Bool) → p y ≡ b → Contains (y ∷ xs) x → (Contains xs x → Contains (filter p xs) x) → Contains (cond b (y ∷ filter p xs) (filter p xs)) x
    by_first true here (zero, within, is) later = (0, omega arith, is)
    by_first true here (suc k, within, is) later = contains_later y x (filter p xs) (later (k, omega arith, is))
    by_first false off (zero, within, is) later = absurd (false≢true (sym off ∙ ap p is ∙ on))
    by_first false off (suc k, within, is) later = later (k, omega arith, is)

-- a session listens to one of these channels, is in the group there and may listen
abbrev pub ListensWithin : StateValue → List ChannelId → List ℕ → User → Type 0
ListensWithin state covered group user =
    (channel : ChannelId) × Contains covered channel × IsTrue (is_in_group state group channel user) × Listens state user channel

pub listens_from : (state : StateValue) (covered : List ChannelId) (group : List ℕ) (user : User) → listens_within state covered group user ≡ true
    → ListensWithin state covered group user
listens_from state covered group user on =
    let (pair, has, passes) = any_from
    (λ (pair : ListenerPair). is_among covered pair.channel && is_in_group state group pair.channel user && may state user.session LISTEN pair.channel)
    (pairs_of state.roster user.session) on in
    let (inside, own) = kept_from (is_of_session user.session) state.roster.listeners pair has in
    let (first, allowed) = and_parts (is_among covered pair.channel && is_in_group state group pair.channel user) (may state user.session LISTEN pair.channel) passes in
    let (among, grouped) = and_parts (is_among covered pair.channel) (is_in_group state group pair.channel user) first in
    let number : pair.session ≡ user.session = ap (λ n. let one : SessionId = record { 0 = n } in one) (eqb-true pair.session.0 user.session.0 own) in
    let same : pair ≡ record { session = user.session; channel = pair.channel } = ap (λ (s : SessionId). let one : ListenerPair = record { session = s; channel = pair.channel } in one) number in
    (pair.channel, among-Contains covered pair.channel among, grouped, (subst (Contains state.roster.listeners) same inside, allowed))

pub listens_into : (state : StateValue) (covered : List ChannelId) (group : List ℕ) (user : User) → ListensWithin state covered group user
    → listens_within state covered group user ≡ true
listens_into state covered group user (channel, among, grouped, listening) =
    any_has
    (λ (pair : ListenerPair). is_among covered pair.channel && is_in_group state group pair.channel user && may state user.session LISTEN pair.channel)
    (record { session = user.session; channel = channel }) (pairs_of state.roster user.session)
    (and_from (is_among covered channel && is_in_group state group channel user) (may state user.session LISTEN channel)
    (and_from (is_among covered channel) (is_in_group state group channel user) (Contains-among covered channel among) grouped) listening.1)
    (kept_to (is_of_session user.session) state.roster.listeners (record { session = user.session; channel = channel }) listening.0 (eq-eqb user.session.0 user.session.0 refl))

-- ---- channels

pub within_from : (state : StateValue) (covered : List ChannelId) (group : List ℕ) (user : User) → is_within state covered group user ≡ true
    → Contains covered user.channel × IsTrue (is_in_group state group user.channel user)
within_from state covered group user on =
    let (among, grouped) = and_parts (is_among covered user.channel) (is_in_group state group user.channel user) on in
    (among-Contains covered user.channel among, grouped)

pub within_into : (state : StateValue) (covered : List ChannelId) (group : List ℕ) (user : User) → Contains covered user.channel
    → IsTrue (is_in_group state group user.channel user) → is_within state covered group user ≡ true
within_into state covered group user among grouped =
    and_from (is_among covered user.channel) (is_in_group state group user.channel user) (Contains-among covered user.channel among) grouped

-- ---- talk

talk_listens_from : (state : StateValue) (own user : User) → listens_within state (talk state own) [] user ≡ true → ListensToTalk state own user
talk_listens_from state own user on = let (channel, among, grouped, listening) = listens_from state (talk state own) [] user on in (channel, among, listening)

talk_listens_into : (state : StateValue) (own user : User) → ListensToTalk state own user → listens_within state (talk state own) [] user ≡ true
talk_listens_into state own user (channel, among, listening) = listens_into state (talk state own) [] user (channel, among, refl, listening)

pub talk_context : (state : StateValue) (own user : User) (context : Context) → by_talk state own user ≡ Some context → IsTalkContext state own user (code context)
talk_context state own user context is =
    by_tests (is_within state (talk state own) [] user) refl (listens_within state (talk state own) [] user) refl is
  where
    by_tests : (a : Bool) → is_within state (talk state own) [] user ≡ a → (b : Bool) → listens_within state (talk state own) [] user ≡ b
        → cond a (Some Talk) (cond b (Some Listener) None) ≡ Some context → IsTalkContext state own user (code context)
    by_tests true on b other is = inl (ap code (sym (same_Some Talk context is)), (within_from state (talk state own) [] user on).0)
    by_tests false off true on is =
        inr (ap code (sym (same_Some Listener context is)), (λ among. false≢true (sym off ∙ within_into state (talk state own) [] user among refl)), talk_listens_from state own user on)
    by_tests false off false none is = absurd (none-some context is)

pub talk_reached : (state : StateValue) (own user : User) (number : ℕ) → IsTalkContext state own user number
    → (context : Context) × (by_talk state own user ≡ Some context) × (code context ≡ number)
talk_reached state own user number (inl (zero_is, among)) =
    (Talk, ap (λ (b : Bool). cond b (Some Talk) (cond (listens_within state (talk state own) [] user) (Some Listener) None)) (within_into state (talk state own) [] user among refl), sym zero_is)
talk_reached state own user number (inr (three_is, outside, listening)) =
    (Listener, by_test (is_within state (talk state own) [] user) refl, sym three_is)
  where
    by_test : (a : Bool) → is_within state (talk state own) [] user ≡ a
        → cond a (Some Talk) (cond (listens_within state (talk state own) [] user) (Some Listener) None) ≡ Some Listener
    by_test true on = absurd (outside (within_from state (talk state own) [] user on).0)
    by_test false off = ap (λ (b : Bool). cond b (Some Listener) None) (talk_listens_into state own user listening)

-- ---- items

covered_from : (state : StateValue) (own user : User) (items : List TargetItem) → list_any (is_covered_by state own user) items ≡ true → IsCovered state own items user
covered_from state own user items on =
    let (item, has, passes) = any_from (is_covered_by state own user) items on in
    let (among, grouped) = within_from state (cover state own item) item.group user passes in
    (item, has, among, grouped)

covered_into : (state : StateValue) (own user : User) (items : List TargetItem) → IsCovered state own items user → list_any (is_covered_by state own user) items ≡ true
covered_into state own user items (item, has, among, grouped) =
    any_has (is_covered_by state own user) item items (within_into state (cover state own item) item.group user among grouped) has

same_session : (a b : SessionId) → eqb a.0 b.0 ≡ true → a ≡ b
same_session a b e = ap (λ n. record { 0 = n }) (eqb-true a.0 b.0 e)

named_from : (state : StateValue) (own user : User) (items : List TargetItem) → list_any (is_named_by state own user) items ≡ true → IsNamed state own items user
named_from state own user items on =
    let (item, has, passes) = any_from (is_named_by state own user) items on in
    let (named, allowed) = and_parts (list_any (λ (one : SessionId). one.0 == user.session.0) item.sessions) (may state own.session WHISPER user.channel) passes in
    let (one, inside, number) = any_from (λ (one : SessionId). one.0 == user.session.0) item.sessions named in
    (item, has, subst (Contains item.sessions) (same_session one user.session number) inside, allowed)

named_into : (state : StateValue) (own user : User) (items : List TargetItem) → IsNamed state own items user → list_any (is_named_by state own user) items ≡ true
named_into state own user items (item, has, inside, allowed) =
    any_has (is_named_by state own user) item items
    (and_from (list_any (λ (one : SessionId). one.0 == user.session.0) item.sessions) (may state own.session WHISPER user.channel)
    (any_has (λ (one : SessionId). one.0 == user.session.0) user.session item.sessions (eq-eqb user.session.0 user.session.0 refl) inside) allowed)
    has

listening_from : (state : StateValue) (own user : User) (items : List TargetItem) → list_any (listens_to state own user) items ≡ true → ListensToItems state own items user
listening_from state own user items on =
    let (item, has, passes) = any_from (listens_to state own user) items on in
    let (channel, among, grouped, listening) = listens_from state (cover state own item) item.group user passes in
    (item, channel, has, among, grouped, listening)

listening_into : (state : StateValue) (own user : User) (items : List TargetItem) → ListensToItems state own items user → list_any (listens_to state own user) items ≡ true
listening_into state own user items (item, channel, has, among, grouped, listening) =
    any_has (listens_to state own user) item items (listens_into state (cover state own item) item.group user (channel, among, grouped, listening)) has

pub item_context : (state : StateValue) (own user : User) (items : List TargetItem) (context : Context) → by_items state own items user ≡ Some context
    → IsItemContext state own items user (code context)
item_context state own user items context is =
    by_tests (list_any (is_covered_by state own user) items) refl (list_any (is_named_by state own user) items) refl (list_any (listens_to state own user) items) refl is
  where
    by_tests : (a : Bool) → list_any (is_covered_by state own user) items ≡ a → (b : Bool) → list_any (is_named_by state own user) items ≡ b
        → (c : Bool) → list_any (listens_to state own user) items ≡ c → pick ChannelWhisper a b c ≡ Some context → IsItemContext state own items user (code context)
    by_tests true on b named c listens is = inl (ap code (sym (same_Some ChannelWhisper context is)), covered_from state own user items on)
    by_tests false off true on c listens is =
        inr (inl (ap code (sym (same_Some DirectWhisper context is)), (λ covered. false≢true (sym off ∙ covered_into state own user items covered)), named_from state own user items on))
    by_tests false off false none true on is =
        inr (inr (
          ap code (sym (same_Some Listener context is)),
          (λ covered. false≢true (sym off ∙ covered_into state own user items covered)),
          (λ named. false≢true (sym none ∙ named_into state own user items named)),
          listening_from state own user items on,
        ))
    by_tests false off false none false never is = absurd (none-some context is)

pub item_reached : (state : StateValue) (own user : User) (items : List TargetItem) (number : ℕ) → IsItemContext state own items user number
    → (context : Context) × (by_items state own items user ≡ Some context) × (code context ≡ number)
item_reached state own user items number (inl (one_is, covered)) =
    (ChannelWhisper, ap (λ (b : Bool). pick ChannelWhisper b (list_any (is_named_by state own user) items) (list_any (listens_to state own user) items)) (covered_into state own user items covered), sym one_is)
item_reached state own user items number (inr (inl (two_is, outside, named))) =
    (DirectWhisper, by_test (list_any (is_covered_by state own user) items) refl, sym two_is)
  where
    by_test : (a : Bool) → list_any (is_covered_by state own user) items ≡ a
        → pick ChannelWhisper a (list_any (is_named_by state own user) items) (list_any (listens_to state own user) items) ≡ Some DirectWhisper
    by_test true on = absurd (outside (covered_from state own user items on))
    by_test false off = ap (λ (b : Bool). pick ChannelWhisper false b (list_any (listens_to state own user) items)) (named_into state own user items named)
item_reached state own user items number (inr (inr (three_is, outside, unnamed, listening))) =
    (Listener, by_tests (list_any (is_covered_by state own user) items) refl (list_any (is_named_by state own user) items) refl, sym three_is)
  where
    by_tests : (a : Bool) → list_any (is_covered_by state own user) items ≡ a → (b : Bool) → list_any (is_named_by state own user) items ≡ b
        → pick ChannelWhisper a b (list_any (listens_to state own user) items) ≡ Some Listener
    by_tests true on b named = absurd (outside (covered_from state own user items on))
    by_tests false off true on = absurd (unnamed (named_from state own user items on))
    by_tests false off false none = ap (λ (c : Bool). pick ChannelWhisper false false c) (listening_into state own user items listening)

-- ---- what is covered may be spoken to

pub cover_allowed : (state : StateValue) (own : User) (item : TargetItem) (channel : ChannelId) → Contains (cover state own item) channel
    → may state own.session WHISPER channel ≡ true
cover_allowed state own item channel has = by_channel item.channel has
  where
    by_there : (one : ChannelId) (b : Bool) → Contains (cond b (filter (may state own.session WHISPER) (spread state.tree item.links item.children one)) []) channel
        → may state own.session WHISPER channel ≡ true
    by_there one true has = (kept_from (may state own.session WHISPER) (spread state.tree item.links item.children one) channel has).1
    by_there one false has = absurd (none_contained channel has)

    by_channel : (top : Option ChannelId)
        → Contains (option_map_or (λ one. cond (is_there state.tree.channels one) (filter (may state own.session WHISPER) (spread state.tree item.links item.children one)) []) top []) channel
        → may state own.session WHISPER channel ≡ true
    by_channel None has = absurd (none_contained channel has)
    by_channel (Some one) has = by_there one (is_there state.tree.channels one) has
