-- An edit can be counted exactly where the counts after it are as they may be.
use Rattle.mum_state.proofs.Common.{◌≡◌, ℕ, suc, ◌+◌, ◌<◌, ◌≤◌, ◌==◌, ◌&&◌, ◌||◌, not, Bool, true, false, ltb, List, [], ◌∷◌, length, get_or, refl, sym, ap, subst, ◌∙◌, arith, if◌then◌else◌, None, All, list_any, and_from, and_parts, eq-eqb, false≢true, lt-ltb, ltb-true, All-cons, All-head, All-nil, All-tail, list_any_at, list_any_none, Row, User, has_number, is_in, EDIT_LIMIT, Edit, AddAccount, EditChannel, MakeChannel, SetAcl, SetLimits, SetServer, SetTokens, Text, counts_after, raised_slots, raised_where, renews, empties, has_member, is_emptied, has_room_for, is_countable, changes_paths, changes_routes, is_of_configuration, sets_tokens_of, AreCounts, IsNear, set_by, Counts, StateValue, is_newcomer, is_renewed}

-- ---- numbers

-- a count is near a revision that rises with it
one_up : (limit revision count : ℕ) (holds : Bool) → count ≤ revision + limit → raised_where holds count ≤ revision + 1 + limit
one_up limit revision count true near = omega arith
one_up limit revision count false near = omega arith

-- and near one that stays, where there is room
room_up : (limit revision count : ℕ) (holds : Bool) → count ≤ revision + limit → (not holds || ltb count (revision + limit)) ≡ true → raised_where holds count ≤ revision + limit
room_up limit revision count true near room = let below : count < revision + limit = ltb-true count (revision + limit) room in omega arith
room_up limit revision count false near room = near

room_back : (limit revision count : ℕ) (holds : Bool) → raised_where holds count ≤ revision + limit → (not holds || ltb count (revision + limit)) ≡ true
room_back limit revision count true near = lt-ltb count (revision + limit) (omega arith)
room_back limit revision count false near = refl

each_up : (limit revision : ℕ) (holds : ℕ → Bool) (slot : ℕ) (counts : List ℕ) → All (λ count. count ≤ revision + limit) counts → All (λ count. count ≤ revision + 1 + limit) (raised_slots holds slot counts)
each_up limit revision holds slot [] all = All-nil (λ count. count ≤ revision + 1 + limit)
each_up limit revision holds slot (count ∷ counts) all =
    All-cons (λ one. one ≤ revision + 1 + limit) (raised_where (holds slot) count) (raised_slots holds (slot + 1) counts)
    (one_up limit revision count (holds slot) (All-head (λ one. one ≤ revision + limit) count counts all))
    (each_up limit revision holds (slot + 1) counts (All-tail (λ one. one ≤ revision + limit) count counts all))

none_raised : (holds : ℕ → Bool) (slot : ℕ) (counts : List ℕ) → ((one : ℕ) → holds one ≡ false) → raised_slots holds slot counts ≡ counts
none_raised holds slot [] none = refl
none_raised holds slot (count ∷ counts) none =
    ap (λ (b : Bool). raised_where b count ∷ raised_slots holds (slot + 1) counts) (none slot)
    ∙ ap (λ (later : List ℕ). count ∷ later) (none_raised holds (slot + 1) counts none)

length_raised : (holds : ℕ → Bool) (slot : ℕ) (counts : List ℕ) → length (raised_slots holds slot counts) ≡ length counts
length_raised holds slot [] = refl
length_raised holds slot (count ∷ counts) = ap suc (length_raised holds (slot + 1) counts)

-- the counts after an edit of this kind
abbrev tallied : Counts → Bool → Bool → Bool → Bool → (ℕ → Bool) → Counts
tallied counts configured paths emptied routes renewed = record {
  revision = raised_where (not configured) counts.revision;
  policy = raised_where (paths || emptied) counts.policy;
  routing = raised_where routes counts.routing;
  slots = raised_slots renewed 0 counts.slots;
}

-- there is room for an edit of this kind
abbrev has_room : Counts → Bool → Bool → Bool → Bool
has_room counts configured paths routes =
    if configured
    then has_room_for paths counts.revision counts.policy && has_room_for routes counts.revision counts.routing
    else ltb counts.revision EDIT_LIMIT

or_false : (a b : Bool) → b ≡ false → (a || b) ≡ a
or_false true b off = refl
or_false false b off = off

tally : (counts : Counts) (configured paths emptied routes : Bool) (renewed : ℕ → Bool) → AreCounts counts
    → (configured ≡ true → emptied ≡ false) → (configured ≡ true → (slot : ℕ) → renewed slot ≡ false)
    → has_room counts configured paths routes ≡ true → AreCounts (tallied counts configured paths emptied routes renewed)
tally counts true paths emptied routes renewed are quiet still room =
    let rooms = and_parts (has_room_for paths counts.revision counts.policy) (has_room_for routes counts.revision counts.routing) room in
    record {
      revision = are.revision;
      policy = subst (λ (b : Bool). IsNear counts.revision (raised_where b counts.policy)) (sym (or_false paths emptied (quiet refl))) (room_up EDIT_LIMIT counts.revision counts.policy paths are.policy rooms.0);
      routing = room_up EDIT_LIMIT counts.revision counts.routing routes are.routing rooms.1;
      each = subst (λ (each : List ℕ). All (IsNear counts.revision) each) (sym (none_raised renewed 0 counts.slots (still refl))) are.each;
      one_each = length_raised renewed 0 counts.slots ∙ are.one_each;
    }
tally counts false paths emptied routes renewed are quiet still room =
    let below : counts.revision < EDIT_LIMIT = ltb-true counts.revision EDIT_LIMIT room in
    record {
      revision = next counts.revision EDIT_LIMIT below;
      policy = one_up EDIT_LIMIT counts.revision counts.policy (paths || emptied) are.policy;
      routing = one_up EDIT_LIMIT counts.revision counts.routing routes are.routing;
      each = each_up EDIT_LIMIT counts.revision renewed 0 counts.slots are.each;
      one_each = length_raised renewed 0 counts.slots ∙ are.one_each;
    }
  where
    next : (n limit : ℕ) → n < limit → n + 1 ≤ limit
    next n limit below = omega arith

raised_more : (a b : Bool) (count limit : ℕ) → raised_where (a || b) count ≤ limit → raised_where a count ≤ limit
raised_more true b count limit most = most
raised_more false true count limit most = omega arith
raised_more false false count limit most = most

tally_back : (counts : Counts) (configured paths emptied routes : Bool) (renewed : ℕ → Bool)
    → AreCounts (tallied counts configured paths emptied routes renewed) → has_room counts configured paths routes ≡ true
tally_back counts true paths emptied routes renewed are =
    and_from (has_room_for paths counts.revision counts.policy) (has_room_for routes counts.revision counts.routing)
    (room_back EDIT_LIMIT counts.revision counts.policy paths (raised_more paths emptied counts.policy (counts.revision + EDIT_LIMIT) are.policy))
    (room_back EDIT_LIMIT counts.revision counts.routing routes are.routing)
tally_back counts false paths emptied routes renewed are = next counts.revision EDIT_LIMIT are.revision
  where
    next : (n limit : ℕ) → n + 1 ≤ limit → ltb n limit ≡ true
    next n limit most = lt-ltb n limit (omega arith)

-- ---- an edit of a configuration empties no channel, and renews no session

same_sessions : (state : StateValue) (edit : Edit) → is_of_configuration edit ≡ true → (set_by state edit).roster.sessions ≡ state.roster.sessions
same_sessions state (SetServer welcome bandwidth password) is = refl
same_sessions state (SetLimits sessions channels) is = refl
same_sessions state (AddAccount account name digest) is = refl
same_sessions state (MakeChannel id parent name temporary info None) is = refl
same_sessions state (EditChannel id actor name parent description position max_users links_add links_remove) is = refl
same_sessions state (SetAcl channel actor policy) is = refl
same_sessions state (Text actor sessions channels trees message) is = refl
same_sessions state edit is = absurd (false≢true is)

no_tokens : (edit : Edit) (user : User) → is_of_configuration edit ≡ true → sets_tokens_of edit user ≡ false
no_tokens (SetTokens session tokens) user is = absurd (false≢true is)
no_tokens edit user is = refl

none_emptied : (users : List User) (rows : List Row) → list_any (is_emptied users users) rows ≡ false
none_emptied users rows = list_any_none (is_emptied users users) rows (λ k d within. never (get_or rows k d).channel.temporary (has_member users (get_or rows k d).channel.id))
  where
    never : (a b : Bool) → (a && b && not b) ≡ false
    never true true = refl
    never true false = refl
    never false b = refl

quiet_channels : (state : StateValue) (edit : Edit) → is_of_configuration edit ≡ true → empties state (set_by state edit) ≡ false
quiet_channels state edit is =
    ap (λ (users : List User). list_any (is_emptied state.roster.sessions users) (set_by state edit).tree.channels) (same_sessions state edit is)
    ∙ none_emptied state.roster.sessions (set_by state edit).tree.channels

no_newcomer : (users : List User) (k : ℕ) (d : User) → k < length users → is_newcomer users (get_or users k d) ≡ false
no_newcomer users k d within =
    let user : User = get_or users k d in
    ap not (list_any_at (λ was. has_number user.session was && is_in user.channel was) users k d within
    (and_from (has_number user.session user) (is_in user.channel user) (eq-eqb user.session.0 user.session.0 refl) (eq-eqb user.channel.0 user.channel.0 refl)))

none_renewed : (users : List User) (edit : Edit) (slot : ℕ) → is_of_configuration edit ≡ true → list_any (λ user. (user.slot.0 == slot) && is_renewed users edit user) users ≡ false
none_renewed users edit slot is =
    list_any_none (λ user. (user.slot.0 == slot) && is_renewed users edit user) users
    (λ k d within.
    let user : User = get_or users k d in
    never (user.slot.0 == slot) (is_newcomer users user) (sets_tokens_of edit user) (no_newcomer users k d within) (no_tokens edit user is))
  where
    never : (a b c : Bool) → b ≡ false → c ≡ false → (a && (b || c)) ≡ false
    never true b c off off-2 = ap (λ x. x || c) off ∙ off-2
    never false b c off off-2 = refl

quiet_slots : (state : StateValue) (edit : Edit) → is_of_configuration edit ≡ true → (slot : ℕ) → renews state edit slot ≡ false
quiet_slots state edit is slot =
    ap (list_any (λ (user : User). (user.slot.0 == slot) && is_renewed state.roster.sessions edit user)) (same_sessions state edit is)
    ∙ none_renewed state.roster.sessions edit slot is

-- ---- both ways

pub counts_fit : (state : StateValue) (edit : Edit) → AreCounts state.counts → is_countable state edit ≡ true → AreCounts (counts_after state edit)
counts_fit state edit are room =
    tally state.counts (is_of_configuration edit) (changes_paths edit) (empties state (set_by state edit)) (changes_routes edit) (renews state edit) are
    (quiet_channels state edit) (quiet_slots state edit) room

pub counts_back : (state : StateValue) (edit : Edit) → AreCounts (counts_after state edit) → is_countable state edit ≡ true
counts_back state edit are =
    tally_back state.counts (is_of_configuration edit) (changes_paths edit) (empties state (set_by state edit)) (changes_routes edit) (renews state edit) are
