-- A route is of what it reads alone.
use Rattle.mum_route.proofs.Common.{◌≡◌, ℕ, suc, ◌++◌, ◌-◌, ◌==◌, ◌&&◌, ◌||◌, Bool, true, false, cond, List, [], ◌∷◌, length, map, refl, sym, ap, ◌∙◌, Option, Some, None, if◌then◌else◌, cons_option, filter, filter_map, find, list_any, option_map, option_map_or, is_among, ChannelId, SessionId, Perm, LISTEN, SPEAK, WHISPER, member, holds, granted, Row, is_below, is_there, path, below, is_reached, linked, TargetItem, User, pairs_of, session_of, has_number, actor_from, actor_at, RouteInputs, route_inputs, without_talk, without_text, StateValue, no_counts, plain_server, policy_of, edge, path_alike, there_alike, Context, Talk, ChannelWhisper, DirectWhisper, Listener, LOOPBACK, TALK, can_hear, is_silent, may, RouteIsOfItsInputs, Member, context_of, heard_from, is_named, items_of, member_by, reached_of, route}

-- ---- the state that has these parts, and nothing else

abbrev bare : RouteInputs → StateValue
bare inputs = record {
  server = plain_server;
  accounts = [];
  tree = inputs.tree;
  policies = inputs.policies;
  roster = inputs.roster;
  counts = no_counts;
}

-- ---- lists

one_found : {X Y : Type 0} (b : Bool) (f : X → Y) (x : X) (rest : Option Y) (others : Option X) → rest ≡ option_map f others
    → cond b (Some (f x)) rest ≡ option_map f (cond b (Some x) others)
one_found true f x rest others same = refl
one_found false f x rest others same = same

found_of : {X Y : Type 0} (p : Y → Bool) (f : X → Y) (xs : List X) → find p (map f xs) ≡ option_map f (find (λ x. p (f x)) xs)
found_of p f [] = refl
found_of p f (x ∷ xs) = one_found (p (f x)) f x _ _ (found_of p f xs)

one_kept : {X Y Z : Type 0} (b c : Bool) (f : X → Y) (g : Y → Z) (x : X) (rest : List Y) (others : List X) → b ≡ c
    → map g rest ≡ map (λ one. g (f one)) others
    → map g (cond b (f x ∷ rest) rest) ≡ map (λ one. g (f one)) (cond c (x ∷ others) others)
one_kept true true f g x rest others is same = ap (λ (zs : List _). g (f x) ∷ zs) same
one_kept true false f g x rest others is same = absurd (cc)
one_kept false true f g x rest others is same = absurd (cc)
one_kept false false f g x rest others is same = same

kept_of : {X Y Z : Type 0} (p : Y → Bool) (q : X → Bool) (f : X → Y) (g : Y → Z) → ((x : X) → p (f x) ≡ q x) → (xs : List X)
    → map g (filter p (map f xs)) ≡ map (λ x. g (f x)) (filter q xs)
kept_of p q f g same [] = refl
kept_of p q f g same (x ∷ xs) = one_kept (p (f x)) (q x) f g x _ _ (same x) (kept_of p q f g same xs)

length_of : {X Y : Type 0} (f : X → Y) (xs : List X) → length (map f xs) ≡ length xs
length_of f [] = refl
length_of f (x ∷ xs) = ap suc (length_of f xs)

edges_of : (rows : List Row) → map edge (map without_text rows) ≡ map edge rows
edges_of [] = refl
edges_of (row ∷ rows) = ap (λ (edges : List _). edge row ∷ edges) (edges_of rows)

-- ---- what a route reads of a tree

module _ (state : StateValue) where
  abbrev lean : StateValue
  lean = bare (route_inputs state)

  paths : path lean.tree.channels ≡ path state.tree.channels
  paths = λ i channel. path_alike lean.tree.channels state.tree.channels channel (edges_of state.tree.channels) i

  theres : is_there lean.tree.channels ≡ is_there state.tree.channels
  theres = λ i channel. there_alike lean.tree.channels state.tree.channels channel (edges_of state.tree.channels) i

  linkeds : linked lean.tree ≡ linked state.tree
  linkeds = λ i channel.
      kept_of (λ row. is_reached state.tree.links (length lean.tree.channels) channel row.channel.id)
      (λ row. is_reached state.tree.links (length state.tree.channels) channel row.channel.id)
      without_text (λ row. row.channel.id)
      (λ row. ap (λ n. is_reached state.tree.links n channel row.channel.id) (length_of without_text state.tree.channels))
      state.tree.channels i

  belows : below lean.tree ≡ below state.tree
  belows = λ i channel.
      kept_of (λ row. is_below lean.tree.channels channel row.channel.id) (λ row. is_below state.tree.channels channel row.channel.id)
      without_text (λ row. row.channel.id)
      (λ row. ap (λ (way : List ChannelId). list_any (λ one. one.0 == channel.0) way) (ap (λ (to : ChannelId → List ChannelId). to row.channel.id) paths))
      state.tree.channels i

  -- ---- and of a session

  found : (session : SessionId) → session_of lean.roster session ≡ option_map without_talk (session_of state.roster session)
  found session = found_of (has_number session) without_talk state.roster.sessions

  asked : (session : SessionId) → option_map (actor_from lean.tree) (session_of lean.roster session) ≡ option_map (actor_from state.tree) (session_of state.roster session)
  asked session = ap (option_map (actor_from lean.tree)) (found session) ∙ by_session (session_of state.roster session)
    where
      by_session : (user : Option User) → option_map (actor_from lean.tree) (option_map without_talk user) ≡ option_map (actor_from state.tree) user
      by_session None = refl
      by_session (Some user) = λ i. Some (actor_at (paths i user.channel) user user.tokens)

  mays : may lean ≡ may state
  mays = λ i session perm channel.
      option_map_or (λ held. holds held perm.0)
      (option_map (λ who. granted (policy_of state) (paths i channel) who) (cond (theres i channel) (asked session i) None)) false

  -- ---- how a packet reaches a session, by how these are read

  module _ (ways : ChannelId → List ChannelId) (there : ChannelId → Bool) (links belows_of : ChannelId → List ChannelId) (can : SessionId → Perm → ChannelId → Bool) where
    abbrev grouped : List ℕ → ChannelId → User → Bool
    grouped group channel user =
        (length group == 0) ||
        (let way : List ChannelId = ways channel in member (policy_of state) way (length way - 1) group (actor_at (ways user.channel) user user.tokens))

    abbrev within : List ChannelId → List ℕ → User → Bool
    within covers group user = is_among covers user.channel && grouped group user.channel user

    abbrev listening : List ChannelId → List ℕ → User → Bool
    listening covers group user = list_any
        (λ pair. is_among covers pair.channel && grouped group pair.channel user && can user.session LISTEN pair.channel)
        (pairs_of state.roster user.session)

    abbrev talks : User → List ChannelId
    talks own = filter (can own.session SPEAK) (links own.channel)

    abbrev covering : User → TargetItem → List ChannelId
    covering own item = option_map_or
        (λ channel. if there channel
        then filter (can own.session WHISPER) (channel ∷ (if item.links then links channel else []) ++ (if item.children then belows_of channel else []))
        else [])
        item.channel []

    abbrev talking : User → User → Option Context
    talking own user =
        if within (talks own) [] user then Some Talk
        else if listening (talks own) [] user then Some Listener
        else None

    abbrev told : User → List TargetItem → User → Option Context
    told own items user =
        if list_any (λ item. within (covering own item) item.group user) items then Some ChannelWhisper
        else if list_any (λ item. is_named item.sessions user && can own.session WHISPER user.channel) items then Some DirectWhisper
        else if list_any (λ item. listening (covering own item) item.group user) items then Some Listener
        else None

    abbrev context_by : User → ℕ → User → Option Context
    context_by own target user =
        if target == TALK then talking own user
        else told own (items_of state own.session target) user

  contexts : (own : User) (target : ℕ) (user : User) → context_of lean (without_talk own) target (without_talk user) ≡ context_of state own target user
  contexts own target user = λ i. context_by (paths i) (theres i) (linkeds i) (belows i) (mays i) own target user

  reached : (own : User) (target : ℕ) (users : List User)
      → reached_of lean (without_talk own) target (map without_talk users) ≡ reached_of state own target users
  reached own target [] = refl
  reached own target (user ∷ users) = by_hearing (can_hear own.session user) (reached own target users)
    where
      by_hearing : (b : Bool) → reached_of lean (without_talk own) target (map without_talk users) ≡ reached_of state own target users
          → filter_map (λ one. option_map (member_by one) (context_of lean (without_talk own) target one))
          (cond b (without_talk user ∷ filter (can_hear own.session) (map without_talk users)) (filter (can_hear own.session) (map without_talk users)))
          ≡ filter_map (λ one. option_map (member_by one) (context_of state own target one))
          (cond b (user ∷ filter (can_hear own.session) users) (filter (can_hear own.session) users))
      by_hearing true rest =
          ap (λ (o : Option Context). cons_option (option_map (member_by user) o) (reached_of lean (without_talk own) target (map without_talk users))) (contexts own target user)
          ∙ ap (cons_option (option_map (member_by user) (context_of state own target user))) rest
      by_hearing false rest = rest

  heard : (own : User) (target : ℕ) → heard_from lean (without_talk own) target ≡ heard_from state own target
  heard own target =
      ap (λ (members : List Member). cond (is_silent own) [] (cond (target == LOOPBACK) (member_by own Talk ∷ []) members))
      (reached own target state.roster.sessions)

  bared : (speaker : SessionId) (target : ℕ) → route lean speaker target ≡ route state speaker target
  bared speaker target =
      ap (λ (one : Option User). option_map_or (λ user. heard_from lean user target) one []) (found speaker)
      ∙ by_session (session_of state.roster speaker)
    where
      by_session : (one : Option User)
          → option_map_or (λ user. heard_from lean user target) (option_map without_talk one) [] ≡ option_map_or (λ user. heard_from state user target) one []
      by_session None = refl
      by_session (Some user) = heard user target

pub route_is_of_its_inputs_lem : RouteIsOfItsInputs
route_is_of_its_inputs_lem state later speaker target same =
    sym (bared state speaker target) ∙ ap (λ (inputs : RouteInputs). route (bare inputs) speaker target) same ∙ bared later speaker target
