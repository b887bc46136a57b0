-- A session that is not looked at stays, and a comment stays where none is given.
use Rattle.mum_notify.proofs.Common.{◌≡◌, ℕ, suc, zero, ◌+◌, ◌<◌, ◌≤◌, ◌==◌, ◌&&◌, ◌||◌, Bool, true, false, not, cond, List, [], ◌∷◌, length, filter, find, get_or, Option, Some, None, refl, sym, ap, ◌∙◌, arith, subst, is_some, ⊤, Contains, list_any, and_from, both_ways, eq-eqb, eqb-true, false≢true, list_any_at, is_among, ChannelId, SessionId, parent_of, is_below, is_temporary, is_there, TreeState, without_subtree, changed_user, staying, with_channels, pair_below, pairs_of, free_slot, next_number, next_slot, session_of, RosterState, has_number, is_in, is_of_session, joining, targeted, ListenerPair, Target, User, applied, has_member, fits, left_by, with_left_closed, is_empty, sets_policy, sets_tokens_of, given, user_parts, IsProper, moved_up, set_by, with_tree, StateValue, heard_anew, is_newcomer, is_set_anew, with_clearing, with_suppression, Edit, Join, Kick, Leave, MakeChannel, RemoveChannel, SetAcl, SetTarget, SetTokens, SetUser, by_clearing, applied_descends, Each, each_filter, each_insert, each_map, each_so, found_passes, some_found, alone, there_without_subtree, fit_proper, left_alone, all_too, filter_all, targeted_sessions, session_alone, session_known, channels_gone, closes, gives_comment, watch_own, watched, whom_to_watch}
use Rattle.mum_users.specs.{Listeners.with_pair, State.is_pair}
use Rattle.mum_notify.proofs.Standing.{applied_tree, apart_sym, filter_within}

-- ---- lists

each_at : {X : Type 0} (P : X → Type 0) (xs : List X) (k : ℕ) (d : X) → Each P xs → k < length xs → P (get_or xs k d)
each_at P [] k d all within = absurd (omega arith)
each_at P (x ∷ xs) zero d all within = all.0
each_at P (x ∷ xs) (suc k) d all within = each_at P xs k d all.1 (omega arith)

-- what holds of each holds of one that is among them
of_each : {X : Type 0} (P : X → Type 0) (xs : List X) (x : X) → Each P xs → Contains xs x → P x
of_each P xs x all (k, within, at) = subst P at (each_at P xs k x all within)

any_found : {X : Type 0} (p q : X → Bool) (xs : List X) (x : X) → find p xs ≡ Some x → q x ≡ true → list_any q xs ≡ true
any_found p q [] x found passes = cc
any_found {X} p q (y ∷ ys) x found passes = step (p y) found (any_found p q ys x)
  where
    step : (b : Bool) → cond b (Some y) (find p ys) ≡ Some x → (find p ys ≡ Some x → q x ≡ true → list_any q ys ≡ true) → (q y || list_any q ys) ≡ true
    step true here rest = let same : y ≡ x = cc in ap (λ (b : Bool). b || list_any q ys) (ap q same ∙ passes)
    step false later rest = or_on (q y) (list_any q ys) (rest later passes)
      where
        or_on : (a b : Bool) → b ≡ true → (a || b) ≡ true
        or_on true b on = refl
        or_on false b on = on

both_off : (a b : Bool) → a ≡ false → b ≡ false → (a || b) ≡ false
both_off true b one two = one
both_off false b one two = two

-- ---- sessions that an edit may make others

-- the edit is none that may make the session another, or put it out
abbrev IsApart : Edit → SessionId → Type 0
IsApart (SetUser one actor channel mute deaf clear_suppress priority self_mute self_deaf recording comment context listen unlisten) session = (one.0 == session.0) ≡ false
IsApart (SetTokens one tokens) session = (one.0 == session.0) ≡ false
IsApart (MakeChannel id parent name true info (Some maker)) session = (maker.0 == session.0) ≡ false
IsApart (Leave one) session = (one.0 == session.0) ≡ false
IsApart (Kick one actor reason ban) session = (one.0 == session.0) ≡ false
IsApart (RemoveChannel id actor) session = ⊥
IsApart (SetAcl channel actor policy) session = ⊥
IsApart edit session = ⊤

-- the session of this number is as it was
abbrev IsStill : SessionId → User → User → Type 0
IsStill session was user = has_number session user ≡ true → user ≡ was

other_changed : (session one : SessionId) (was : User) (f : User → User) (user : User) → (one.0 == session.0) ≡ false → (f user).session ≡ user.session → IsStill session was user → IsStill session was (cond (has_number one user) (f user) user)
other_changed session one was f user apart keeps still = step (has_number one user) refl
  where
    step : (b : Bool) → has_number one user ≡ b → IsStill session was (cond b (f user) user)
    step true is here =
        absurd (both_ways (one.0 == session.0) apart (ap (λ n. n == session.0) (sym (eqb-true user.session.0 one.0 is)) ∙ ap (λ (number : SessionId). number.0 == session.0) (sym keeps) ∙ here))
    step false is here = still here

set_still : (state : StateValue) (edit : Edit) (session : SessionId) (was : User) → IsApart edit session → session.0 ≤ state.roster.last → Each (IsStill session was) state.roster.sessions → Each (IsStill session was) (set_by state edit).roster.sessions
set_still state (Join one slot name account tokens) session was apart known all =
    each_insert (IsStill session was) state.roster.sessions (free_slot state.roster) (joining (next_number state.roster) (next_slot state.roster) name account tokens) all
    (λ here. let same : state.roster.last + 1 ≡ session.0 = eqb-true (state.roster.last + 1) session.0 here in absurd (omega arith))
set_still state (Leave one) session was apart known all = each_filter (IsStill session was) (λ user. not (has_number one user)) state.roster.sessions all
set_still state (Kick one actor reason ban) session was apart known all = each_filter (IsStill session was) (λ user. not (has_number one user)) state.roster.sessions all
set_still state (MakeChannel id parent name temporary info None) session was apart known all = all
set_still state (MakeChannel id parent name true info (Some maker)) session was apart known all =
    each_map (IsStill session was) (IsStill session was) (λ user. cond (has_number maker user) (record user { channel = id }) user)
    (λ user still. other_changed session maker was (λ (one : User). record one { channel = id }) user apart refl still) state.roster.sessions all
set_still state (MakeChannel id parent name false info (Some maker)) session was apart known all = all
set_still state (RemoveChannel id actor) session was apart known all = absurd apart
set_still state (SetAcl channel actor policy) session was apart known all = absurd apart
set_still state (SetUser one actor channel mute deaf clear_suppress priority self_mute self_deaf recording comment context listen unlisten) session was apart known all =
    let f : User → User = changed_user (user_parts channel mute deaf priority self_mute self_deaf recording comment context listen unlisten) in
    each_map (IsStill session was) (IsStill session was) (λ user. cond (has_number one user) (f user) user) (λ user still. other_changed session one was f user apart refl still) state.roster.sessions all
set_still state (SetTokens one tokens) session was apart known all =
    each_map (IsStill session was) (IsStill session was) (λ user. cond (has_number one user) (record user { tokens = tokens }) user)
    (λ user still. other_changed session one was (λ (own : User). record own { tokens = tokens }) user apart refl still) state.roster.sessions all
set_still state (SetTarget one id target) session was apart known all =
    subst (Each (IsStill session was)) (sym (targeted_sessions state.roster one id target)) all
set_still state edit session was apart known all = all

suppression_still : (state : StateValue) (edit : Edit) (set : StateValue) (session : SessionId) (was : User) → is_set_anew state.roster.sessions edit was ≡ false → Each (IsStill session was) set.roster.sessions → Each (IsStill session was) (with_suppression state edit set).roster.sessions
suppression_still state edit set session was never all =
    each_map (IsStill session was) (IsStill session was) (λ user. cond (is_set_anew state.roster.sessions edit user) (heard_anew set user) user)
    (λ user still. step user still (is_set_anew state.roster.sessions edit user) refl) set.roster.sessions all
  where
    step : (user : User) → IsStill session was user → (b : Bool) → is_set_anew state.roster.sessions edit user ≡ b → IsStill session was (cond b (heard_anew set user) user)
    step user still true is here = absurd (both_ways (is_set_anew state.roster.sessions edit was) never (ap (is_set_anew state.roster.sessions edit) (sym (still here)) ∙ is))
    step user still false is here = still here

clearing_still : (edit : Edit) (state : StateValue) (session : SessionId) (was : User) → IsApart edit session → Each (IsStill session was) state.roster.sessions → Each (IsStill session was) (with_clearing edit state).roster.sessions
clearing_still (SetUser one actor channel mute deaf true priority self_mute self_deaf recording comment context listen unlisten) state session was apart all =
    each_map (IsStill session was) (IsStill session was) (λ user. cond (has_number one user) (record user { suppress = false }) user)
    (λ user still. other_changed session one was (λ (own : User). record own { suppress = false }) user apart refl still) state.roster.sessions all
clearing_still (SetUser one actor channel mute deaf false priority self_mute self_deaf recording comment context listen unlisten) state session was apart all = all
clearing_still edit state session was apart all = all

tokens_not_set : (edit : Edit) (session : SessionId) (was : User) → IsApart edit session → was.session.0 ≡ session.0 → sets_tokens_of edit was ≡ false
tokens_not_set (SetTokens one tokens) session was apart same = ap (λ n. n == one.0) same ∙ apart_sym one.0 session.0 apart
tokens_not_set edit session was apart same = refl

policy_not_set : (edit : Edit) (session : SessionId) → IsApart edit session → sets_policy edit ≡ false
policy_not_set (SetAcl channel actor policy) session apart = absurd apart
policy_not_set edit session apart = refl

not_newcomer : (state : StateValue) (session : SessionId) (was : User) → session_of state.roster session ≡ Some was → is_newcomer state.roster.sessions was ≡ false
not_newcomer state session was is =
    ap not (any_found (has_number session) (λ one. has_number was.session one && is_in was.channel one) state.roster.sessions was is
    (and_from (was.session.0 == was.session.0) (was.channel.0 == was.channel.0) (eq-eqb was.session.0 was.session.0 refl) (eq-eqb was.channel.0 was.channel.0 refl)))

not_anew : (state : StateValue) (edit : Edit) (session : SessionId) (was : User) → IsApart edit session → session_of state.roster session ≡ Some was → is_set_anew state.roster.sessions edit was ≡ false
not_anew state edit session was apart is =
    let same : was.session.0 ≡ session.0 = eqb-true was.session.0 session.0 (found_passes (has_number session) state.roster.sessions was is) in
    both_off (is_newcomer state.roster.sessions was || sets_tokens_of edit was) (sets_policy edit)
    (both_off (is_newcomer state.roster.sessions was) (sets_tokens_of edit was) (not_newcomer state session was is) (tokens_not_set edit session was apart same)) (policy_not_set edit session apart)

row_stands : (state : StateValue) (edit : Edit) (was now : User) → IsProper state → IsApart edit now.session → Contains (applied state edit).roster.sessions now → session_of state.roster now.session ≡ Some was → now ≡ was
row_stands state edit was now proper apart here is =
    let set : StateValue = set_by state edit in
    let own = set_still state edit now.session was apart (session_known state now.session was proper is) (session_alone state now.session was proper is) in
    let suppressed = suppression_still state edit set now.session was (not_anew state edit now.session was apart is) own in
    let cleared = clearing_still edit (with_suppression state edit set) now.session was apart suppressed in
    of_each (IsStill now.session was) (applied state edit).roster.sessions now cleared here (eq-eqb now.session.0 now.session.0 refl)

-- ---- to what it listens

with_pair_other : (session : SessionId) (new : ListenerPair) (pairs : List ListenerPair) → (new.session.0 == session.0) ≡ false → filter (is_of_session session) (with_pair pair_below new pairs) ≡ filter (is_of_session session) pairs
with_pair_other session new [] apart = ap (λ (b : Bool). cond {A = List ListenerPair} b (new ∷ []) []) apart
with_pair_other session new (pair ∷ pairs) apart = lower (pair_below pair new) (with_pair_other session new pairs apart)
  where
    same : (b : Bool) → filter (is_of_session session) (cond b (pair ∷ pairs) (new ∷ pair ∷ pairs)) ≡ filter (is_of_session session) (pair ∷ pairs)
    same true = refl
    same false = ap (λ (b : Bool). cond b (new ∷ filter (is_of_session session) (pair ∷ pairs)) (filter (is_of_session session) (pair ∷ pairs))) apart

    lower : (b : Bool) → filter (is_of_session session) (with_pair pair_below new pairs) ≡ filter (is_of_session session) pairs
        → filter (is_of_session session) (cond b (pair ∷ with_pair pair_below new pairs) (cond (is_pair new.session new.channel pair) (pair ∷ pairs) (new ∷ pair ∷ pairs))) ≡ filter (is_of_session session) (pair ∷ pairs)
    lower true rest = ap (λ (ps : List ListenerPair). cond (is_of_session session pair) (pair ∷ ps) ps) rest
    lower false rest = same (is_pair new.session new.channel pair)

with_channels_other : (session one : SessionId) (left channels : List ChannelId) (pairs : List ListenerPair) → (one.0 == session.0) ≡ false → filter (is_of_session session) (with_channels one left channels pairs) ≡ filter (is_of_session session) pairs
with_channels_other session one left [] pairs apart = refl
with_channels_other session one left (channel ∷ channels) pairs apart = step (is_among left channel) (with_channels_other session one left channels pairs apart)
  where
    new : ListenerPair
    new = record { session = one; channel = channel }

    step : (b : Bool) → filter (is_of_session session) (with_channels one left channels pairs) ≡ filter (is_of_session session) pairs
        → filter (is_of_session session) (cond b (with_channels one left channels pairs) (with_pair pair_below (record { session = one; channel = channel }) (with_channels one left channels pairs))) ≡ filter (is_of_session session) pairs
    step true rest = rest
    step false rest = with_pair_other session (record { session = one; channel = channel }) (with_channels one left channels pairs) apart ∙ rest

other_of : (session one : SessionId) (pair : ListenerPair) → (one.0 == session.0) ≡ false → is_of_session session pair ≡ true → is_of_session one pair ≡ false
other_of session one pair apart here = ap (λ n. n == one.0) (eqb-true pair.session.0 session.0 here) ∙ apart_sym one.0 session.0 apart

left_other : (session one : SessionId) (pairs : List ListenerPair) → (one.0 == session.0) ≡ false → filter (is_of_session session) (filter (λ pair. not (is_of_session one pair)) pairs) ≡ filter (is_of_session session) pairs
left_other session one pairs apart = filter_within (is_of_session session) (λ pair. not (is_of_session one pair)) (λ pair here. ap not (other_of session one pair apart here)) pairs

staying_other : (session one : SessionId) (left : List ChannelId) (pairs : List ListenerPair) → (one.0 == session.0) ≡ false → filter (is_of_session session) (staying one left pairs) ≡ filter (is_of_session session) pairs
staying_other session one left pairs apart =
    filter_within (is_of_session session) (λ pair. not (is_of_session one pair && is_among left pair.channel))
    (λ pair here. ap (λ (b : Bool). not (b && is_among left pair.channel)) (other_of session one pair apart here)) pairs

targeted_listeners : (roster : RosterState) (one : SessionId) (id : ℕ) (target : Target) → (targeted roster one id target).listeners ≡ roster.listeners
targeted_listeners roster one id target = either (length target.items == 0) _ _ refl refl
  where
    either : (b : Bool) (left right : RosterState) → left.listeners ≡ roster.listeners → right.listeners ≡ roster.listeners → (cond b left right).listeners ≡ roster.listeners
    either true left right same also = same
    either false left right same also = also

set_listens : (state : StateValue) (edit : Edit) (session : SessionId) → IsApart edit session → pairs_of (set_by state edit).roster session ≡ pairs_of state.roster session
set_listens state (Leave one) session apart = left_other session one state.roster.listeners apart
set_listens state (Kick one actor reason ban) session apart = left_other session one state.roster.listeners apart
set_listens state (MakeChannel id parent name temporary info None) session apart = refl
set_listens state (MakeChannel id parent name true info (Some maker)) session apart = refl
set_listens state (MakeChannel id parent name false info (Some maker)) session apart = refl
set_listens state (RemoveChannel id actor) session apart = absurd apart
set_listens state (SetUser one actor channel mute deaf clear_suppress priority self_mute self_deaf recording comment context listen unlisten) session apart =
    with_channels_other session one unlisten listen (staying one unlisten state.roster.listeners) apart ∙ staying_other session one unlisten state.roster.listeners apart
set_listens state (SetTarget one id target) session apart = ap (λ (pairs : List ListenerPair). filter (is_of_session session) pairs) (targeted_listeners state.roster one id target)
set_listens state edit session apart = refl

clearing_listeners : (edit : Edit) (state : StateValue) → (with_clearing edit state).roster.listeners ≡ state.roster.listeners
clearing_listeners edit state = by_clearing (λ after. after.roster.listeners ≡ state.roster.listeners) edit state refl (λ session. refl)

-- where no channel is reported gone, none goes

empty_is : {X : Type 0} (xs : List X) → not (is_empty xs) ≡ false → xs ≡ []
empty_is [] none = refl
empty_is (x ∷ xs) none = absurd (grind arith)

gone_is : (before : StateValue) (edit : Edit) (after : StateValue) (session : SessionId) → IsApart edit session → channels_gone before edit after ≡ filter (λ id. not (is_there after.tree.channels id)) (given (left_by before edit))
gone_is before (RemoveChannel id actor) after session apart = absurd apart
gone_is before edit after session apart = refl

not_there : (set : StateValue) (top : ChannelId) → IsProper set → is_temporary set.tree.channels top ≡ true → is_there (without_subtree set.tree top).channels top ≡ false
not_there set top proper temporary = there_without_subtree set.tree top top ∙ step (is_there set.tree.channels top) refl
  where
    step : (b : Bool) → is_there set.tree.channels top ≡ b → (b && not (is_below set.tree.channels top top)) ≡ false
    step true there = ap not (alone set.tree top proper.tree temporary top there ∙ eq-eqb top.0 top.0 refl)
    step false there = refl

stays_open : (set : StateValue) (left : Option ChannelId) (tree : TreeState) → IsProper set → ((id : ChannelId) → left ≡ Some id → is_temporary set.tree.channels id ≡ true) → tree ≡ (with_left_closed left set).tree
    → filter (λ id. not (is_there tree.channels id)) (given left) ≡ [] → tree ≡ set.tree
stays_open set None tree proper temporary is none = is
stays_open set (Some top) tree proper temporary is none = step (has_member set.roster.sessions top) is
  where
    step : (b : Bool) → tree ≡ (cond b set (with_tree set (without_subtree set.tree top))).tree → tree ≡ set.tree
    step true same = same
    step false cut =
        let off : is_there tree.channels top ≡ false = ap (λ (one : TreeState). is_there one.channels top) cut ∙ not_there set top proper (temporary top refl) in
        let some : filter (λ (id : ChannelId). not (is_there tree.channels id)) (top ∷ []) ≡ top ∷ [] = ap (λ (b : Bool). cond {A = List ChannelId} (not b) (top ∷ []) []) off in
        let never : top ∷ [] ≡ [] = sym some ∙ none in
        cc

no_channel_goes : (state : StateValue) (edit : Edit) (session : SessionId) → IsProper state → fits state edit ≡ true → IsApart edit session → closes state edit (applied state edit) ≡ false → (applied state edit).tree ≡ (set_by state edit).tree
no_channel_goes state edit session proper fit apart shut =
    stays_open (set_by state edit) (left_by state edit) (applied state edit).tree (fit_proper state edit proper fit).0 (left_alone state edit proper).temporary (applied_tree state edit proper fit)
    (sym (gone_is state edit (applied state edit) session apart) ∙ empty_is (channels_gone state edit (applied state edit)) shut)

not_not : (b : Bool) → b ≡ true → not (not b) ≡ true
not_not true on = refl
not_not false on = on

listeners_stand : (state : StateValue) (edit : Edit) (session : SessionId) → IsProper state → fits state edit ≡ true → IsApart edit session → closes state edit (applied state edit) ≡ false → pairs_of (applied state edit).roster session ≡ pairs_of state.roster session
listeners_stand state edit session proper fit apart shut =
    let set : StateValue = set_by state edit in
    let there : List ListenerPair → TreeState → List ListenerPair = λ pairs tree. filter (λ pair. not (not (is_there tree.channels pair.channel))) pairs in
    let all : there set.roster.listeners set.tree ≡ set.roster.listeners =
    filter_all (λ pair. not (not (is_there set.tree.channels pair.channel))) set.roster.listeners
    (all_too (λ pair. is_there set.tree.channels pair.channel) (λ pair. not (not (is_there set.tree.channels pair.channel))) (λ pair. not_not (is_there set.tree.channels pair.channel)) set.roster.listeners (fit_proper state edit proper fit).0.listening) in
    let by_tree : there set.roster.listeners (applied state edit).tree ≡ set.roster.listeners = ap (there set.roster.listeners) (no_channel_goes state edit session proper fit apart shut) ∙ all in
    let by_pairs : (applied state edit).roster.listeners ≡ set.roster.listeners =
    ap (λ (pairs : List ListenerPair). there pairs (applied state edit).tree) (clearing_listeners edit (with_suppression state edit set)) ∙ by_tree in
    ap (λ (pairs : List ListenerPair). filter (is_of_session session) pairs) by_pairs ∙ set_listens state edit session apart

-- ---- who is not looked at

leaver_gone : (one : SessionId) (users : List User) → Each (λ user. has_number one user ≡ false) (filter (λ user. not (has_number one user)) users)
leaver_gone one [] = tt
leaver_gone one (user ∷ users) = step (has_number one user) refl (leaver_gone one users)
  where
    step : (b : Bool) → has_number one user ≡ b → Each (λ user. has_number one user ≡ false) (filter (λ user. not (has_number one user)) users)
        → Each (λ user. has_number one user ≡ false) (cond (not b) (user ∷ filter (λ user. not (has_number one user)) users) (filter (λ user. not (has_number one user)) users))
    step true is rest = rest
    step false is rest = (is, rest)

apart_from : (one : SessionId) (now : User) → has_number one now ≡ false → (one.0 == now.session.0) ≡ false
apart_from one now off = apart_sym now.session.0 one.0 off

-- one that is there, and is not the session of this number
not_the_one : (state : StateValue) (one : SessionId) (now : User) → IsProper state → Contains state.roster.sessions now → (Contains (given (session_of state.roster one)) now → ⊥) → has_number one now ≡ false
not_the_one state one now proper (k, within, at) unseen = step (has_number one now) refl
  where
    with_found : (found : Option User) → session_of state.roster one ≡ found → is_some found ≡ true → has_number one now ≡ true → (Contains (given found) now → ⊥) → ⊥
    with_found None is some on never = false≢true some
    with_found (Some user) is some on never =
        let same : now ≡ user = of_each (λ (other : User). has_number one other ≡ true → other ≡ user) state.roster.sessions now (session_alone state one user proper is) (k, within, at) on in
        never (0, omega arith, sym same)

    step : (b : Bool) → has_number one now ≡ b → b ≡ false
    step true is =
        let passes : has_number one (get_or state.roster.sessions k now) ≡ true = ap (has_number one) at ∙ is in
        let some : is_some (session_of state.roster one) ≡ true = some_found (has_number one) state.roster.sessions ∙ list_any_at (has_number one) state.roster.sessions k now within passes in
        absurd (with_found (session_of state.roster one) refl some is unseen)
    step false is = refl

is_apart : (state : StateValue) (edit : Edit) (now : User) → IsProper (applied state edit) → Contains (applied state edit).roster.sessions now → (Contains (watched (watch_own edit) (applied state edit).roster) now → ⊥) → IsApart edit now.session
is_apart state (RemoveChannel id actor) now proper here unseen = unseen here
is_apart state (SetAcl channel actor policy) now proper here unseen = unseen here
is_apart state (SetUser one actor channel mute deaf clear_suppress priority self_mute self_deaf recording comment context listen unlisten) now proper here unseen =
    apart_from one now (not_the_one (applied state (SetUser one actor channel mute deaf clear_suppress priority self_mute self_deaf recording comment context listen unlisten)) one now proper here unseen)
is_apart state (SetTokens one tokens) now proper here unseen = apart_from one now (not_the_one (applied state (SetTokens one tokens)) one now proper here unseen)
is_apart state (MakeChannel id parent name true info (Some maker)) now proper here unseen =
    apart_from maker now (not_the_one (applied state (MakeChannel id parent name true info (Some maker))) maker now proper here unseen)
is_apart state (Leave one) now proper here unseen =
    apart_from one now (of_each (λ user. has_number one user ≡ false) (applied state (Leave one)).roster.sessions now
    (applied_descends (λ user. has_number one user ≡ false) (λ user on off. off) state (Leave one) (leaver_gone one state.roster.sessions)) here)
is_apart state (Kick one actor reason ban) now proper here unseen =
    apart_from one now (of_each (λ user. has_number one user ≡ false) (applied state (Kick one actor reason ban)).roster.sessions now
    (applied_descends (λ user. has_number one user ≡ false) (λ user on off. off) state (Kick one actor reason ban) (leaver_gone one state.roster.sessions)) here)
is_apart state edit now proper here unseen = tt

pub other_sessions_stand_lem : (state : StateValue) (edit : Edit) (was now : User) → IsProper state → fits state edit ≡ true → Contains (applied state edit).roster.sessions now → session_of state.roster now.session ≡ Some was
    → (Contains (watched (whom_to_watch edit (closes state edit (applied state edit))) (applied state edit).roster) now → ⊥) → (now ≡ was) × (pairs_of (applied state edit).roster now.session ≡ pairs_of state.roster now.session)
other_sessions_stand_lem state edit was now proper fit here is unseen = step (closes state edit (applied state edit)) refl unseen
  where
    step : (b : Bool) → closes state edit (applied state edit) ≡ b → (Contains (watched (whom_to_watch edit b) (applied state edit).roster) now → ⊥) → (now ≡ was) × (pairs_of (applied state edit).roster now.session ≡ pairs_of state.roster now.session)
    step true shut never = absurd (never here)
    step false shut never =
        let apart = is_apart state edit now (fit_proper state edit proper fit).1 here never in
        (row_stands state edit was now proper apart here is, listeners_stand state edit now.session proper fit apart shut)

-- ---- comments

-- the session of this number has this comment
abbrev HasComment : SessionId → List ℕ → User → Type 0
HasComment session comment user = has_number session user ≡ true → user.comment ≡ comment

comment_kept : (session : SessionId) (comment : List ℕ) (b : Bool) (was now : User) → now.session ≡ was.session → now.comment ≡ was.comment → HasComment session comment was → HasComment session comment (cond b now was)
comment_kept session comment true was now number same has here = same ∙ has (ap (λ (one : SessionId). one.0 == session.0) (sym number) ∙ here)
comment_kept session comment false was now number same has here = has here

set_comments : (state : StateValue) (edit : Edit) (session : SessionId) (comment : List ℕ) → gives_comment edit ≡ false → session.0 ≤ state.roster.last → Each (HasComment session comment) state.roster.sessions → Each (HasComment session comment) (set_by state edit).roster.sessions
set_comments state (Join one slot name account tokens) session comment none known all =
    each_insert (HasComment session comment) state.roster.sessions (free_slot state.roster) (joining (next_number state.roster) (next_slot state.roster) name account tokens) all
    (λ here. let same : state.roster.last + 1 ≡ session.0 = eqb-true (state.roster.last + 1) session.0 here in absurd (omega arith))
set_comments state (Leave one) session comment none known all = each_filter (HasComment session comment) (λ user. not (has_number one user)) state.roster.sessions all
set_comments state (Kick one actor reason ban) session comment none known all = each_filter (HasComment session comment) (λ user. not (has_number one user)) state.roster.sessions all
set_comments state (MakeChannel id parent name temporary info None) session comment none known all = all
set_comments state (MakeChannel id parent name true info (Some maker)) session comment none known all =
    each_map (HasComment session comment) (HasComment session comment) (λ user. cond (has_number maker user) (record user { channel = id }) user)
    (λ user has. comment_kept session comment (has_number maker user) user (record user { channel = id }) refl refl has) state.roster.sessions all
set_comments state (MakeChannel id parent name false info (Some maker)) session comment none known all = all
set_comments state (RemoveChannel id actor) session comment none known all =
    each_map (HasComment session comment) (HasComment session comment) (moved_up state.tree id)
    (λ user has. comment_kept session comment (is_below state.tree.channels id user.channel) user (record user { channel = parent_of state.tree id }) refl refl has) state.roster.sessions all
set_comments state (SetUser one actor channel mute deaf clear_suppress priority self_mute self_deaf recording None context listen unlisten) session comment none known all =
    let f : User → User = changed_user (user_parts channel mute deaf priority self_mute self_deaf recording None context listen unlisten) in
    each_map (HasComment session comment) (HasComment session comment) (λ user. cond (has_number one user) (f user) user)
    (λ user has. comment_kept session comment (has_number one user) user (f user) refl refl has) state.roster.sessions all
set_comments state (SetUser one actor channel mute deaf clear_suppress priority self_mute self_deaf recording (Some own) context listen unlisten) session comment none known all = absurd (false≢true (sym none))
set_comments state (SetTokens one tokens) session comment none known all =
    each_map (HasComment session comment) (HasComment session comment) (λ user. cond (has_number one user) (record user { tokens = tokens }) user)
    (λ user has. comment_kept session comment (has_number one user) user (record user { tokens = tokens }) refl refl has) state.roster.sessions all
set_comments state (SetTarget one id target) session comment none known all =
    subst (Each (HasComment session comment)) (sym (targeted_sessions state.roster one id target)) all
set_comments state edit session comment none known all = all

pub comments_stand_lem : (state : StateValue) (edit : Edit) (was now : User) → IsProper state → gives_comment edit ≡ false → Contains (applied state edit).roster.sessions now → session_of state.roster now.session ≡ Some was → now.comment ≡ was.comment
comments_stand_lem state edit was now proper none here is =
    let first : Each (HasComment now.session was.comment) state.roster.sessions =
    each_so (IsStill now.session was) (HasComment now.session was.comment) (λ user still on. ap (λ (one : User). one.comment) (still on)) state.roster.sessions (session_alone state now.session was proper is) in
    let own = set_comments state edit now.session was.comment none (session_known state now.session was proper is) first in
    of_each (HasComment now.session was.comment) (applied state edit).roster.sessions now
    (applied_descends (HasComment now.session was.comment) (λ user on has. has) state edit own) here (eq-eqb now.session.0 now.session.0 refl)
