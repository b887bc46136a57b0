-- The sessions of a proper state are in channels that are there, and listen to such.
use Rattle.mum_route.proofs.Common.{◌≡◌, ℕ, zero, suc, ◌+◌, ◌<◌, ◌≤◌, Bool, true, false, cond, eqb, List, [], ◌∷◌, length, map, get_or, Option, Some, None, refl, sym, ap, subst, ◌∙◌, arith, ◌==◌, ◌&&◌, IsSome, IsTrue, find, All, list_all, list_any, is_some, option_map, and_parts, eqb-true, false≢true, ChannelId, Actor, SessionId, is_there, row_of, IsWay, TreeState, Row, ListenerPair, User, pairs_of, SlotsRise, session_of, RosterState, has_number, is_of_session, IsProper, actor_from, granted_to, granted_where_there, perm_of, PolicyRow, StateValue, policy_of, all_filter}

pub all_at : {X : Type 0} (p : X → Bool) (xs : List X) (i : ℕ) (d : X) → list_all p xs ≡ true → i < length xs → p (get_or xs i d) ≡ true
all_at p [] i d all within = absurd (omega arith)
all_at p (x ∷ xs) zero d all within = (and_parts (p x) (list_all p xs) all).0
all_at p (x ∷ xs) (suc i) d all within = all_at p xs i d (and_parts (p x) (list_all p xs) all).1 (omega arith)

-- the channel of a session
pub member_there : (state : StateValue) (i : ℕ) (d : User) → IsProper state → i < length state.roster.sessions
    → IsTrue (is_there state.tree.channels (get_or state.roster.sessions i d).channel)
member_there state i d proper within = all_at (λ (user : User). is_there state.tree.channels user.channel) state.roster.sessions i d proper.inside within

-- a channel to which it listens
pub listened_there : (state : StateValue) (roster : RosterState) (session : SessionId) (pairs : List ListenerPair) (i : ℕ) (d : ListenerPair)
    → IsProper state → roster ≡ state.roster → pairs ≡ pairs_of roster session → i < length pairs
    → IsTrue (is_there state.tree.channels (get_or pairs i d).channel)
listened_there state roster session pairs i d proper same is within =
    all_at (λ (pair : ListenerPair). is_there state.tree.channels pair.channel) pairs i d
    (ap (list_all (λ (pair : ListenerPair). is_there state.tree.channels pair.channel)) (is ∙ ap (λ (r : RosterState). pairs_of r session) same)
    ∙ all_filter (λ (pair : ListenerPair). is_there state.tree.channels pair.channel) (is_of_session session) state.roster.listeners proper.listening)
    within

-- a session that is found
found_by : (p q : User → Bool) (x user : User) (rest : Option User) (b : Bool) → p x ≡ b → cond b (Some x) rest ≡ Some user → q x ≡ true
    → (rest ≡ Some user → q user ≡ true) → q user ≡ true
found_by p q x user rest true e found here later = let same : x ≡ user = cc in rw (sym same) here
found_by p q x user rest false e found here later = later found

found_passes : (p q : User → Bool) (users : List User) (user : User) → find p users ≡ Some user → list_all q users ≡ true → q user ≡ true
found_passes p q [] user found all = cc
found_passes p q (x ∷ users) user found all =
    let parts = and_parts (q x) (list_all q users) all in
    found_by p q x user (find p users) (p x) refl found parts.0 (λ later. found_passes p q users user later parts.1)

pub channel_there : (state : StateValue) (session : SessionId) (user : User) → IsProper state → session_of state.roster session ≡ Some user
    → IsTrue (is_there state.tree.channels user.channel)
channel_there state session user proper found =
    found_passes (has_number session) (λ user. is_there state.tree.channels user.channel) state.roster.sessions user found proper.inside

-- no more sessions than there are slots
room_for : (limit low : ℕ) (users : List User) → SlotsRise limit low users → low + length users ≤ limit
room_for limit low [] rise = omega arith
room_for limit low (user ∷ users) rise =
    let rest = room_for limit (user.slot.0 + 1) users rise.1 in let first = rise.0 in omega arith

pub few_sessions : (state : StateValue) → IsProper state → length state.roster.sessions ≤ 512
few_sessions state proper = let room = room_for state.roster.limit 0 state.roster.sessions proper.roster.slots in omega (arith, room, proper.roster.limit_fits)

-- nobody listens where there are no pairs
pub nobody_listens : {X : Type 0} (p : X → Bool) (told pairs : List X) → pairs ≡ told → (length pairs == 0) ≡ true → false ≡ list_any p told
nobody_listens p told [] same none = ap (list_any p) same
nobody_listens p told (x ∷ xs) same none = let zero_is : length (x ∷ xs) ≡ 0 = eqb-true (length (x ∷ xs)) 0 none in absurd (omega (arith, zero_is))

-- what a session may do that is there is what one may do who is seen like it
pub perm_seen : (state : StateValue) (user : User) (who : Actor) (channel : ChannelId) → session_of state.roster user.session ≡ Some user → who ≡ actor_from state.tree user
    → perm_of state user.session channel ≡ granted_where_there state who channel
perm_seen state user who channel own same =
    ap (λ (o : Option User). option_map (λ (one : Actor). granted_to state one channel) (cond (is_there state.tree.channels channel) (option_map (actor_from state.tree) o) None)) own
    ∙ by_there (is_there state.tree.channels channel)
    ∙ ap (λ (one : Actor). granted_where_there state one channel) (sym same)
  where
    by_there : (b : Bool)
        → option_map (λ (one : Actor). granted_to state one channel) (cond b (Some (actor_from state.tree user)) None)
        ≡ cond b (Some (granted_to state (actor_from state.tree user) channel)) None
    by_there true = refl
    by_there false = refl

abbrev rest_of : List ChannelId → List ChannelId
rest_of [] = []
rest_of (id ∷ ids) = ids

-- each channel of a proper state has a policy
policy_listed : (rows : List Row) (policies : List PolicyRow) (id : ChannelId) → map (λ (row : PolicyRow). row.channel) policies ≡ map (λ (row : Row). row.channel.id) rows
    → is_there rows id ≡ true → IsSome (option_map (λ (row : PolicyRow). row.policy) (find (λ (row : PolicyRow). row.channel.0 == id.0) policies))
policy_listed [] policies id same there = absurd (false≢true there)
policy_listed (row ∷ rows) [] id same there = let counts = ap length same in absurd (omega (arith, counts))
policy_listed (row ∷ rows) (policy ∷ policies) id same there =
    by_first (eqb policy.channel.0 id.0) refl
    (λ off. policy_listed rows policies id (ap rest_of same)
    (subst (λ (b : Bool). is_some (cond b (Some row) (row_of rows id)) ≡ true) (ap (λ (one : ChannelId). eqb one.0 id.0) (sym first) ∙ off) there))
  where
    first : policy.channel ≡ row.channel.id
    first = ap (λ (ids : List ChannelId). get_or ids 0 row.channel.id) same

    by_first : (b : Bool) → eqb policy.channel.0 id.0 ≡ b
        → (eqb policy.channel.0 id.0 ≡ false → IsSome (option_map (λ (one : PolicyRow). one.policy) (find (λ (one : PolicyRow). one.channel.0 == id.0) policies)))
        → IsSome (option_map (λ (one : PolicyRow). one.policy) (cond b (Some policy) (find (λ (one : PolicyRow). one.channel.0 == id.0) policies)))
    by_first true here later = refl
    by_first false off later = later off

pub policies_there : (state : StateValue) (tree : TreeState) (id : ChannelId) (way : List ChannelId) → IsProper state → tree ≡ state.tree → IsWay tree.channels id way
    → All (λ channel. IsSome (policy_of state channel)) way
policies_there state tree id way proper same is = λ k d within.
    policy_listed state.tree.channels state.policies (get_or way k d) proper.policies
    (subst (λ (t : TreeState). is_there t.channels (get_or way k d) ≡ true) same (is.there k d within))

-- the third of three, of which the others hold
pub third_of : (a b c : Bool) → a ≡ true → b ≡ true → c ≡ (a && b && c)
third_of a b c first second = sym (ap (λ (x : Bool). x && b && c) first ∙ ap (λ (x : Bool). x && c) second)
