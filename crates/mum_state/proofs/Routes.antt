-- What a route reads stays while the routing count does not rise.
use Rattle.mum_state.proofs.Common.{◌≡◌, ℕ, ◌≤◌, ◌==◌, ◌&&◌, ◌||◌, not, Bool, true, false, cond, List, [], ◌∷◌, map, length, refl, sym, ap, ap₂, subst, ◌∙◌, arith, ℤ, Option, Some, None, list_any, and_from, and_left, eq-eqb, false≢true, ne_eqb, true≢false, ChannelId, SessionId, Channel, Row, with_given, is_there, number, changed, plain_info, ListenerPair, User, changed_user, staying, is_among, has_number, is_in, is_of_session, Edit, AddAccount, EditChannel, SetServer, SetUser, Text, led_to, applied, raised_where, empties, has_member, is_emptied, without_emptied, changes_routes, is_empty, sets_policy, sets_tokens_of, RoutesStand, channel_parts, user_parts, route_inputs, without_talk, without_text, set_by, StateValue, heard_anew, is_set_anew, with_clearing, with_suppression}
use Rattle.mum_state.proofs.{Counting.counts_never_fall_lem, Each.Each, Each.any_map, Each.each_map, Each.each_self, Each.each_so, Each.filter_stays, Each.map_stays, Each.map_unseen, Each.none_passes, Each.some_found, Raised.not_raised, Tidy.AreTidy, Tidy.IsTidy, Tidy.nothing_goes, Tidy.tidy_by_numbers, Tidy.tidy_where_proper}

-- ---- an edit by which nobody moves and nothing goes

-- the session was here before, in this channel
abbrev was_here : List User → User → Bool
was_here before user = list_any (λ was. has_number user.session was && is_in user.channel was) before

each_was_here : (users : List User) → Each (λ user. was_here users user ≡ true) users
each_was_here users =
    each_self (λ user was. has_number user.session was && is_in user.channel was)
    (λ user. and_from (user.session.0 == user.session.0) (user.channel.0 == user.channel.0) (eq-eqb _ _ refl) (eq-eqb _ _ refl)) users

not_emptied : (b before after : Bool) → before ≡ after → (b && before && not after) ≡ false
not_emptied true true after same = ap not (sym same)
not_emptied true false after same = refl
not_emptied false before after same = refl

none_emptied : (before state : StateValue) → ((channel : ChannelId) → has_member before.roster.sessions channel ≡ has_member state.roster.sessions channel)
    → empties before state ≡ false
none_emptied before state members =
    none_passes (is_emptied before.roster.sessions state.roster.sessions) state.tree.channels (each_row state.tree.channels)
  where
    each_row : (rows : List Row) → Each (λ row. is_emptied before.roster.sessions state.roster.sessions row ≡ false) rows
    each_row [] = tt
    each_row (row ∷ rows) = (not_emptied row.channel.temporary _ _ (members row.channel.id), each_row rows)

-- it is not set again whether a session may speak
abbrev IsLeft : StateValue → Edit → User → Type 0
IsLeft state edit user = is_set_anew state.roster.sessions edit user ≡ false

none_heard : (state set : StateValue) (edit : Edit) → Each (IsLeft state edit) set.roster.sessions → with_suppression state edit set ≡ set
none_heard state set edit all =
    ap (λ (users : List User). record set { roster = record set.roster { sessions = users } })
    (map_stays (λ user. cond (is_set_anew state.roster.sessions edit user) (heard_anew set user) user) set.roster.sessions
    (each_so (IsLeft state edit) (λ user. cond (is_set_anew state.roster.sessions edit user) (heard_anew set user) user ≡ user)
    (λ user left. ap (λ (b : Bool). cond b (heard_anew set user) user) left) set.roster.sessions all))

-- what the edit sets is all that follows
only_set : (state set : StateValue) (edit : Edit) → Each (IsLeft state edit) set.roster.sessions
    → ((channel : ChannelId) → has_member state.roster.sessions channel ≡ has_member set.roster.sessions channel) → IsTidy set
    → without_emptied state (with_suppression state edit set) ≡ set
only_set state set edit left members tidy =
    ap (without_emptied state) (none_heard state set edit left) ∙ nothing_goes state set tidy (none_emptied state set members)

-- what a route reads is the same, and what belongs to channels that are there still does
abbrev StaysRouted : StateValue → StateValue → Type 0
StaysRouted state later = (route_inputs later ≡ route_inputs state) × IsTidy later

unread : (state : StateValue) (edit : Edit)
    → with_clearing edit (with_suppression state edit (set_by state edit)) ≡ with_suppression state edit (set_by state edit)
    → Each (IsLeft state edit) (set_by state edit).roster.sessions
    → ((channel : ChannelId) → has_member state.roster.sessions channel ≡ has_member (set_by state edit).roster.sessions channel)
    → IsTidy (set_by state edit) → route_inputs (set_by state edit) ≡ route_inputs state
    → StaysRouted state (applied state edit)
unread state edit unclear left members tidy same =
    let is : without_emptied state (with_clearing edit (with_suppression state edit (set_by state edit))) ≡ set_by state edit =
    ap (without_emptied state) unclear ∙ only_set state (set_by state edit) edit left members tidy in
    (ap route_inputs is ∙ same, subst IsTidy (sym is) tidy)

-- ---- edits of what no route reads

left_alone : (here tokens policy : Bool) → here ≡ true → tokens ≡ false → policy ≡ false → ((not here || tokens) || policy) ≡ false
left_alone true false false here tokens policy = refl
left_alone true false true here tokens policy = policy
left_alone true true policy here tokens same = absurd (true≢false tokens)
left_alone false tokens policy here untold same = absurd (false≢true here)

all_left : (state : StateValue) (edit : Edit) → sets_policy edit ≡ false → ((user : User) → sets_tokens_of edit user ≡ false) → (users : List User)
    → Each (λ user. was_here state.roster.sessions user ≡ true) users → Each (IsLeft state edit) users
all_left state edit policy tokens users all =
    each_so (λ user. was_here state.roster.sessions user ≡ true) (IsLeft state edit)
    (λ user here. left_alone (was_here state.roster.sessions user) (sets_tokens_of edit user) (sets_policy edit) here (tokens user) policy) users all

-- nobody moves where no session is changed
all_stay : (state : StateValue) (edit : Edit) → sets_policy edit ≡ false → ((user : User) → sets_tokens_of edit user ≡ false) → Each (IsLeft state edit) state.roster.sessions
all_stay state edit policy tokens = all_left state edit policy tokens state.roster.sessions (each_was_here state.roster.sessions)

not_empty : {X : Type 0} (x : X) (xs : List X) → is_empty (x ∷ xs) ≡ false
not_empty x xs = ne_eqb (length (x ∷ xs)) 0 (λ (none : length (x ∷ xs) ≡ 0). absurd (omega arith))

never_quiet : (b : Bool) → b ≡ false → not b ≡ false → ⊥
never_quiet true none quiet = true≢false none
never_quiet false none quiet = true≢false quiet

-- ---- a channel's name and what describes it

row_unread : (b : Bool) (row : Row) (change : Channel) → record change { name = []; info = plain_info } ≡ record row.channel { name = []; info = plain_info }
    → without_text (cond b (record row { channel = change }) row) ≡ without_text row
row_unread true row change same = ap (λ (channel : Channel). record row { channel = channel }) same
row_unread false row change same = refl

row_numbered : (b : Bool) (row : Row) (change : Channel) → change.id ≡ row.channel.id → number (cond b (record row { channel = change }) row) ≡ number row
row_numbered true row change same = ap (λ (id : ChannelId). id.0) same
row_numbered false row change same = refl

there_by_number : (rows : List Row) (f : Row → Row) → ((row : Row) → number (f row) ≡ number row) → (id : ChannelId) → is_there (map f rows) id ≡ is_there rows id
there_by_number rows f same id =
    some_found (λ row. number row == id.0) (map f rows)
    ∙ any_map (λ row. number row == id.0) (λ row. number row == id.0) f (λ row. ap (λ (n : ℕ). n == id.0) (same row)) rows
    ∙ sym (some_found (λ row. number row == id.0) rows)

module _ (state : StateValue) (id : ChannelId) (change : Channel → Channel) (same_id : (one : Channel) → (change one).id ≡ one.id) where
  abbrev one_row : Row → Row
  one_row row = cond (number row == id.0) (record row { channel = change row.channel }) row

  described_tidy : IsTidy state → AreTidy (changed id change state.tree.channels) state.tree.links state.policies state.roster.listeners
  described_tidy tidy =
      tidy_by_numbers state.tree.channels (changed id change state.tree.channels) state.tree.links state.policies state.roster.listeners
      (there_by_number state.tree.channels one_row (λ row. row_numbered (number row == id.0) row (change row.channel) (same_id row.channel))) tidy

  described_unread : ((one : Channel) → record (change one) { name = []; info = plain_info } ≡ record one { name = []; info = plain_info })
      → map without_text (changed id change state.tree.channels) ≡ map without_text state.tree.channels
  described_unread same =
      map_unseen without_text one_row (λ row. row_unread (number row == id.0) row (change row.channel) (same row.channel)) state.tree.channels

channel_described : (state : StateValue) (id : ChannelId) (actor : Option SessionId) (name description : Option (List ℕ)) (position : Option ℤ) (max_users : Option ℕ) → IsTidy state
    → StaysRouted state (applied state (EditChannel id actor name None description position max_users [] []))
channel_described state id actor name description position max_users tidy =
    let edit : Edit = EditChannel id actor name None description position max_users [] [] in
    let change : Channel → Channel = with_given (channel_parts name None description position max_users [] []) in
    unread state edit refl (all_stay state edit refl (λ user. refl)) (λ channel. refl)
    (described_tidy state id change (λ one. refl) tidy)
    (ap (λ (rows : List Row). record (route_inputs state) { tree = record state.tree { channels = rows } })
    (described_unread state id change (λ one. refl) (λ one. refl)))

quiet_channel : (state : StateValue) (id : ChannelId) (actor : Option SessionId) (name : Option (List ℕ)) (parent : Option ChannelId)
    (description : Option (List ℕ)) (position : Option ℤ) (max_users : Option ℕ) (links_add links_remove : List ChannelId)
    → changes_routes (EditChannel id actor name parent description position max_users links_add links_remove) ≡ false → IsTidy state
    → StaysRouted state (applied state (EditChannel id actor name parent description position max_users links_add links_remove))
quiet_channel state id actor name None description position max_users [] [] quiet tidy = channel_described state id actor name description position max_users tidy
quiet_channel state id actor name None description position max_users [] (one ∷ others) quiet tidy = absurd (never_quiet _ (not_empty one others) quiet)
quiet_channel state id actor name None description position max_users (one ∷ others) links_remove quiet tidy =
    absurd (never_quiet _ (and_left (is_empty (one ∷ others)) (is_empty links_remove) (not_empty one others)) quiet)
quiet_channel state id actor name (Some parent) description position max_users links_add links_remove quiet tidy = absurd (true≢false quiet)

-- ---- a session's texts, and whether it has priority and records

module _ (state : StateValue) (session : SessionId) (change : User → User)
    (same_session : (user : User) → (change user).session ≡ user.session) (same_channel : (user : User) → (change user).channel ≡ user.channel) where
  abbrev one_user : User → User
  one_user user = cond (has_number session user) (change user) user

  one_here : (b : Bool) (user : User) → was_here state.roster.sessions user ≡ true → was_here state.roster.sessions (cond b (change user) user) ≡ true
  one_here true user here =
      ap₂ (λ (number : SessionId) (channel : ChannelId). list_any (λ was. has_number number was && is_in channel was) state.roster.sessions) (same_session user) (same_channel user) ∙ here
  one_here false user here = here

  told_here : Each (λ user. was_here state.roster.sessions user ≡ true) (map one_user state.roster.sessions)
  told_here =
      each_map (λ user. was_here state.roster.sessions user ≡ true) (λ user. was_here state.roster.sessions user ≡ true) one_user
      (λ user. one_here (has_number session user) user) state.roster.sessions (each_was_here state.roster.sessions)

  one_in : (channel : ChannelId) (b : Bool) (user : User) → is_in channel (cond b (change user) user) ≡ is_in channel user
  one_in channel true user = ap (λ (own : ChannelId). own.0 == channel.0) (same_channel user)
  one_in channel false user = refl

  told_members : (channel : ChannelId) → has_member state.roster.sessions channel ≡ has_member (map one_user state.roster.sessions) channel
  told_members channel =
      sym (any_map (is_in channel) (is_in channel) one_user (λ user. one_in channel (has_number session user) user) state.roster.sessions)

  one_unread : (b : Bool) (user : User) → without_talk (change user) ≡ without_talk user → without_talk (cond b (change user) user) ≡ without_talk user
  one_unread true user same = same
  one_unread false user same = refl

  told_unread : ((user : User) → without_talk (change user) ≡ without_talk user) → map without_talk (map one_user state.roster.sessions) ≡ map without_talk state.roster.sessions
  told_unread same = map_unseen without_talk one_user (λ user. one_unread (has_number session user) user (same user)) state.roster.sessions

none_left : (b : Bool) → not (b && false) ≡ true
none_left true = refl
none_left false = refl

-- who leaves no channel listens as before
all_listen : (session : SessionId) (pairs : List ListenerPair) → staying session [] pairs ≡ pairs
all_listen session pairs =
    filter_stays (λ pair. not (is_of_session session pair && is_among [] pair.channel)) pairs (each_pair pairs)
  where
    each_pair : (rest : List ListenerPair) → Each (λ pair. not (is_of_session session pair && is_among [] pair.channel) ≡ true) rest
    each_pair [] = tt
    each_pair (pair ∷ rest) = (none_left (is_of_session session pair), each_pair rest)

session_told : (state : StateValue) (session actor : SessionId) (priority recording : Option Bool) (comment context : Option (List ℕ)) → IsTidy state
    → StaysRouted state (applied state (SetUser session actor None None None false priority None None recording comment context [] []))
session_told state session actor priority recording comment context tidy =
    let edit : Edit = SetUser session actor None None None false priority None None recording comment context [] [] in
    let change : User → User = changed_user (user_parts None None None priority None None recording comment context [] []) in
    let listen = all_listen session state.roster.listeners in
    let told = told_unread state session change (λ user. refl) (λ user. refl) (λ user. refl) in
    unread state edit refl
    (all_left state edit refl (λ user. refl) (set_by state edit).roster.sessions (told_here state session change (λ user. refl) (λ user. refl)))
    (told_members state session change (λ user. refl) (λ user. refl))
    (subst (λ (pairs : List ListenerPair). AreTidy state.tree.channels state.tree.links state.policies pairs) (sym listen) tidy)
    (λ i. record (route_inputs state) { roster = record state.roster { sessions = told i; listeners = listen i } })

quiet_user : (state : StateValue) (session actor : SessionId) (channel : Option ChannelId) (mute deaf : Option Bool) (clear_suppress : Bool)
    (priority self_mute self_deaf recording : Option Bool) (comment context : Option (List ℕ)) (listen unlisten : List ChannelId)
    → changes_routes (SetUser session actor channel mute deaf clear_suppress priority self_mute self_deaf recording comment context listen unlisten) ≡ false → IsTidy state
    → StaysRouted state (applied state (SetUser session actor channel mute deaf clear_suppress priority self_mute self_deaf recording comment context listen unlisten))
quiet_user state session actor None None None false priority None None recording comment context [] [] quiet tidy =
    session_told state session actor priority recording comment context tidy
quiet_user state session actor None None None false priority None None recording comment context [] (one ∷ others) quiet tidy =
    absurd (never_quiet _ (not_empty one others) quiet)
quiet_user state session actor None None None false priority None None recording comment context (one ∷ others) unlisten quiet tidy =
    absurd (never_quiet _ (and_left (is_empty (one ∷ others)) (is_empty unlisten) (not_empty one others)) quiet)
quiet_user state session actor channel mute deaf clear_suppress priority self_mute self_deaf recording comment context listen unlisten quiet tidy = absurd (true≢false quiet)

-- ---- all edits

quiet_edit : (state : StateValue) (edit : Edit) → changes_routes edit ≡ false → IsTidy state → StaysRouted state (applied state edit)
quiet_edit state (SetServer welcome bandwidth password) quiet tidy =
    unread state (SetServer welcome bandwidth password) refl (all_stay state (SetServer welcome bandwidth password) refl (λ user. refl)) (λ channel. refl) tidy refl
quiet_edit state (AddAccount account name digest) quiet tidy =
    unread state (AddAccount account name digest) refl (all_stay state (AddAccount account name digest) refl (λ user. refl)) (λ channel. refl) tidy refl
quiet_edit state (Text actor sessions channels trees message) quiet tidy =
    unread state (Text actor sessions channels trees message) refl (all_stay state (Text actor sessions channels trees message) refl (λ user. refl)) (λ channel. refl) tidy refl
quiet_edit state (EditChannel id actor name parent description position max_users links_add links_remove) quiet tidy =
    quiet_channel state id actor name parent description position max_users links_add links_remove quiet tidy
quiet_edit state (SetUser session actor channel mute deaf clear_suppress priority self_mute self_deaf recording comment context listen unlisten) quiet tidy =
    quiet_user state session actor channel mute deaf clear_suppress priority self_mute self_deaf recording comment context listen unlisten quiet tidy
quiet_edit state edit quiet tidy = absurd (true≢false quiet)

routes_stay : (state : StateValue) (edits : List Edit) → IsTidy state → state.counts.routing ≡ (led_to state edits).counts.routing
    → route_inputs state ≡ route_inputs (led_to state edits)
routes_stay state [] tidy stands = refl
routes_stay state (edit ∷ edits) tidy stands =
    let on = counts_never_fall_lem (applied state edit) edits in
    let most : raised_where (changes_routes edit) state.counts.routing ≤ (led_to (applied state edit) edits).counts.routing = on.routing in
    let quiet : changes_routes edit ≡ false = not_raised (changes_routes edit) state.counts.routing (omega (arith, most, stands)) in
    let (same, still) = quiet_edit state edit quiet tidy in
    sym same ∙ routes_stay (applied state edit) edits still (ap (λ (b : Bool). raised_where b state.counts.routing) quiet ∙ stands)

pub routes_stand_lem : RoutesStand
routes_stand_lem state edits proper fit stands = routes_stay state edits (tidy_where_proper state proper) stands
