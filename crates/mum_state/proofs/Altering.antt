-- A session of which several parts become others.
use Rattle.mum_state.proofs.Common.{◌≡◌, ◌↔◌, ◌&&◌, ◌++◌, not, Bool, true, false, cond, List, [], ◌∷◌, refl, sym, ◌∙◌, is_none, unwrap_or, list_all, list_any, and_from, and_parts, list_all-append, ChannelId, SessionId, is_there, ListenerPair, User, UserEdit, changed_user, edit_fault, edited, staying, with_channels, is_among, pair_below, with_pair, are_tokens, has_number, is_context, is_of_session, is_pair, edits_where_proper_lem, holds_of_given, given, IsProper, is_short, is_sound_user, is_text, StateValue}
use Rattle.mum_state.proofs.{Givens.holds_of_list, Givens.is_none_of, Givens.none_is, Givens.unwrap_back, Givens.unwrap_good, Listed.all_changed, Listed.all_filter, Listed.changed_passes, Parted.with_roster}

-- ---- its row

sound_changed : (change : UserEdit) → holds_of_given is_text change.comment ≡ true → holds_of_given is_context change.context ≡ true
    → (user : User) → is_sound_user user ≡ true → is_sound_user (changed_user change user) ≡ true
sound_changed change comment context user sound =
    let (front, was_context) = and_parts (is_short user.name && are_tokens user.tokens && is_text user.comment) (is_context user.context) sound in
    let (first, was_comment) = and_parts (is_short user.name && are_tokens user.tokens) (is_text user.comment) front in
    and_from (is_short user.name && are_tokens user.tokens && is_text (unwrap_or change.comment user.comment)) (is_context (unwrap_or change.context user.context))
    (and_from (is_short user.name && are_tokens user.tokens) (is_text (unwrap_or change.comment user.comment)) first (unwrap_good is_text change.comment user.comment comment was_comment))
    (unwrap_good is_context change.context user.context context was_context)

texts_of : (change : UserEdit) (user : User) → is_sound_user (changed_user change user) ≡ true → (holds_of_given is_text change.comment ≡ true) × (holds_of_given is_context change.context ≡ true)
texts_of change user sound =
    let (front, context) = and_parts (is_short user.name && are_tokens user.tokens && is_text (unwrap_or change.comment user.comment)) (is_context (unwrap_or change.context user.context)) sound in
    let (first, comment) = and_parts (is_short user.name && are_tokens user.tokens) (is_text (unwrap_or change.comment user.comment)) front in
    (unwrap_back is_text change.comment user.comment comment, unwrap_back is_context change.context user.context context)

-- ---- to what it listens

all_with_pair : (p : ListenerPair → Bool) (new : ListenerPair) (pairs : List ListenerPair) → p new ≡ true → list_all p pairs ≡ true → list_all p (with_pair pair_below new pairs) ≡ true
all_with_pair p new [] here all = and_from (p new) true here refl
all_with_pair p new (pair ∷ pairs) here all =
    let parts = and_parts (p pair) (list_all p pairs) all in
    step (pair_below pair new) (is_pair new.session new.channel pair) parts.0 (all_with_pair p new pairs here parts.1)
  where
    step : (b s : Bool) → p pair ≡ true → list_all p (with_pair pair_below new pairs) ≡ true
        → list_all p (cond b (pair ∷ with_pair pair_below new pairs) (cond s (pair ∷ pairs) (new ∷ pair ∷ pairs))) ≡ true
    step true s first rest = and_from (p pair) (list_all p (with_pair pair_below new pairs)) first rest
    step false true first rest = all
    step false false first rest = and_from (p new) (list_all p (pair ∷ pairs)) here all

all_with_channels : (there : ChannelId → Bool) (session : SessionId) (left channels : List ChannelId) (pairs : List ListenerPair) → list_all there channels ≡ true → list_all (λ pair. there pair.channel) pairs ≡ true
    → list_all (λ pair. there pair.channel) (with_channels session left channels pairs) ≡ true
all_with_channels there session left [] pairs named all = all
all_with_channels there session left (channel ∷ channels) pairs named all =
    let parts = and_parts (there channel) (list_all there channels) named in
    step (is_among left channel) parts.0 (all_with_channels there session left channels pairs parts.1 all)
  where
    step : (b : Bool) → there channel ≡ true → list_all (λ pair. there pair.channel) (with_channels session left channels pairs) ≡ true
        → list_all (λ pair. there pair.channel) (cond b (with_channels session left channels pairs) (with_pair pair_below (record { session = session; channel = channel }) (with_channels session left channels pairs))) ≡ true
    step true first rest = rest
    step false first rest = all_with_pair (λ pair. there pair.channel) (record { session = session; channel = channel }) (with_channels session left channels pairs) first rest

-- ---- both ways

-- nothing forbids the change, and its texts are as they may be
abbrev pub may_alter : StateValue → SessionId → UserEdit → Bool
may_alter state session change =
    is_none (edit_fault state.roster session change) && holds_of_given is_text change.comment && holds_of_given is_context change.context

alter_to : (state : StateValue) (session : SessionId) (change : UserEdit) → IsProper state → list_any (has_number session) state.roster.sessions ≡ true
    → list_all (is_there state.tree.channels) (given change.channel ++ change.listen ++ change.unlisten) ≡ true → may_alter state session change ≡ true
    → IsProper (record state { roster = edited state.roster session change })
alter_to state session change proper here named may =
    let there : ChannelId → Bool = is_there state.tree.channels in
    let none : Bool = is_none (edit_fault state.roster session change) in
    let (both, context) = and_parts (none && holds_of_given is_text change.comment) (holds_of_given is_context change.context) may in
    let (allowed, comment) = and_parts none (holds_of_given is_text change.comment) both in
    let (front, unlistened) = and_parts (list_all there (given change.channel ++ change.listen)) (list_all there change.unlisten)
    (sym (list_all-append there (given change.channel ++ change.listen) change.unlisten) ∙ named) in
    let (entered, listened) = and_parts (list_all there (given change.channel)) (list_all there change.listen)
    (sym (list_all-append there (given change.channel) change.listen) ∙ front) in
    with_roster state (edited state.roster session change) proper
    ((edits_where_proper_lem state.roster session change proper.roster here).0 (none_is (edit_fault state.roster session change) allowed))
    (all_changed is_sound_user (has_number session) (changed_user change) (sound_changed change comment context) state.roster.sessions proper.users)
    (all_changed (λ user. there user.channel) (has_number session) (changed_user change) (λ user was. unwrap_good there change.channel user.channel (holds_of_list there change.channel entered) was) state.roster.sessions proper.inside)
    (all_with_channels there session change.unlisten change.listen (staying session change.unlisten state.roster.listeners) listened
    (all_filter (λ pair. there pair.channel) (λ pair. not (is_of_session session pair && is_among change.unlisten pair.channel)) state.roster.listeners proper.listening))

alter_from : (state : StateValue) (session : SessionId) (change : UserEdit) → IsProper state → list_any (has_number session) state.roster.sessions ≡ true
    → IsProper (record state { roster = edited state.roster session change }) → may_alter state session change ≡ true
alter_from state session change proper here after =
    let none : Bool = is_none (edit_fault state.roster session change) in
    let (user, sound) = changed_passes is_sound_user (has_number session) (changed_user change) state.roster.sessions here after.users in
    let (comment, context) = texts_of change user sound in
    and_from (none && holds_of_given is_text change.comment) (holds_of_given is_context change.context)
    (and_from none (holds_of_given is_text change.comment)
    (is_none_of (edit_fault state.roster session change) ((edits_where_proper_lem state.roster session change proper.roster here).1 after.roster))
    comment)
    context

-- nothing forbids a change of a session exactly where the state after it is proper
pub alters_both_ways : (state : StateValue) (session : SessionId) (change : UserEdit) → IsProper state → list_any (has_number session) state.roster.sessions ≡ true
    → list_all (is_there state.tree.channels) (given change.channel ++ change.listen ++ change.unlisten) ≡ true
    → (may_alter state session change ≡ true) ↔ IsProper (record state { roster = edited state.roster session change })
alters_both_ways state session change proper here named = (alter_to state session change proper here named, alter_from state session change proper here)
