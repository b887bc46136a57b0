-- What a message on users leaves as it is.
use Rattle.mum_rights_laws.proofs.Common.{◌≡◌, ◌≢◌, ℕ, ◌==◌, ◌&&◌, ◌||◌, not, Bool, true, false, arith, List, [], ◌∷◌, length, Option, Some, None, refl, ap, sym, ◌∙◌, subst, inl, inr, ⊎_elim, ◌⊎◌, All, find, list_any, is_some, option_map, and_parts, both_ways, eq-eqb, ne_eqb, not-false, or_parts, All-head, All-tail, is_among, ChannelId, SessionId, LISTEN, UserState, is_there, row_of, are_linked, Row, UserEdit, changed_user, edited, listens, session_of, has_number, is_pair, is_target, target_of, TargetRow, User, listens_as_told_lem, others_listen_as_before_lem, applied, is_empty, user_parts, IsProper, set_by, ChannelPolicy, PolicyRow, StateValue, policy_of, Edit, fit_proper, heard_after, silent_after, channels, is_oneself, new_channel, number_of_target, session_or, sets_own, target_asked, tokens_kept, UserMessage, Changes, ListensWherePermitted, OthersKeepTheirOwn, SessionsStayWhoTheyAre, may_with, IsEmptied, IsSetAsBefore, ChannelsStand, ChannelsStandIn, SettingsStand}
use Rattle.mum_users.specs.declared.target.Target.{Target}
use Rattle.mum_rules_user.specs.Outcome.{edit_to_change}
use Rattle.mum_rights_laws.proofs.{Seated.goes, Seated.left_aims, Seated.left_listens, Seated.seated, Seated.targeted_beside, Seated.targeted_limit, Seated.targeted_listeners, Seated.was_there, SessionLaws.if_so, SessionLaws.it_is, SessionLaws.none_given, SessionLaws.number_is, SessionLaws.of_rows, SessionLaws.of_user, Settled.aims as aims_are, Settled.emptied, Settled.lasting, Settled.linked, Settled.listening, Settled.ruled, Settled.same_channel, Settled.same_session, UserKinds.IsUserKind, UserKinds.aims, UserKinds.change_of, UserKinds.changes, UserKinds.kicks, UserKinds.leaves, UserKinds.renews, UserKinds.says, UserKinds.user_edit}

abbrev find_policy : ChannelId → List PolicyRow → Option ChannelPolicy
find_policy id rows = option_map (λ (row : PolicyRow). row.policy) (find (λ (row : PolicyRow). row.channel.0 == id.0) rows)

abbrev target_in : List TargetRow → SessionId → ℕ → Option Target
target_in rows session id = option_map (λ (row : TargetRow). row.target) (find (is_target session id) rows)

-- ---- who a session is

abbrev IsWho : User → User → Type 0
IsWho was now = (now.session ≡ was.session) × (now.slot ≡ was.slot) × (now.name ≡ was.name) × (now.account ≡ was.account)

who_by : (before : StateValue) (actor : SessionId) (own : User) (tokens : List (List ℕ)) {message : UserMessage} {edit : Edit}
    → IsUserKind before actor own tokens message edit → (was : User) → IsWho was (seated edit was)
who_by before actor own tokens (renews login version) was = if_so (IsWho was) (has_number actor was) (record was { tokens = tokens_kept login.tokens }) was (λ on. (refl, refl, refl, refl)) (refl, refl, refl, refl)
who_by before actor own tokens (changes asked may_so) was =
    if_so (IsWho was) (has_number (session_or actor asked.session) was) (changed_user (change_of before.roster actor asked) was) was (λ on. (refl, refl, refl, refl)) (refl, refl, refl, refl)
who_by before actor own tokens (kicks asked may_so) was = (refl, refl, refl, refl)
who_by before actor own tokens (says asked) was = (refl, refl, refl, refl)
who_by before actor own tokens (aims asked) was = (refl, refl, refl, refl)
who_by before actor own tokens leaves was = (refl, refl, refl, refl)

pub sessions_stay_who_they_are_lem : SessionsStayWhoTheyAre
sessions_stay_who_they_are_lem =
    of_rows (λ before own tokens message was now. IsWho was now) (λ before actor own tokens message edit by kind was found silent. who_by before actor own tokens kind was)

-- ---- what another has for itself

abbrev IsPlain : User → User → Type 0
IsPlain was now = now ≡ record was { channel = now.channel; mute = now.mute; deaf = now.deaf; suppress = now.suppress; priority = now.priority }

none_listed : (numbers : List ℕ) → is_empty numbers ≡ true → numbers ≡ []
none_listed [] is = refl
none_listed (n ∷ ns) is = absurd (both_ways (is_empty (n ∷ ns)) (ne_eqb (length (n ∷ ns)) 0 (λ e. absurd (omega arith))) is)

-- what a UserState sets of its own that sets nothing
pub record SetsNothing (asked : UserState) : Type 0 where
  pub self_mute : asked.self_mute ≡ None
  pub self_deaf : asked.self_deaf ≡ None
  pub comment : asked.comment ≡ None
  pub context : asked.plugin_context ≡ None
  pub recording : asked.recording ≡ None
  pub added : asked.listening_channel_add ≡ []
  pub removed : asked.listening_channel_remove ≡ []

sets_nothing : (asked : UserState) → sets_own asked ≡ false → SetsNothing asked
sets_nothing asked off =
    let (six, removed) = or_parts _ (not (is_empty asked.listening_channel_remove)) off in
    let (five, added) = or_parts _ (not (is_empty asked.listening_channel_add)) six in
    let (four, recording) = or_parts _ (is_some asked.recording) five in
    let (three, context) = or_parts _ (is_some asked.plugin_context) four in
    let (two, comment) = or_parts _ (is_some asked.comment) three in
    let (mute, deaf) = or_parts (is_some asked.self_mute) (is_some asked.self_deaf) two in record {
      self_mute = none_given asked.self_mute mute;
      self_deaf = none_given asked.self_deaf deaf;
      comment = none_given asked.comment comment;
      context = none_given asked.plugin_context context;
      recording = none_given asked.recording recording;
      added = none_listed asked.listening_channel_add (not-false (is_empty asked.listening_channel_add) added);
      removed = none_listed asked.listening_channel_remove (not-false (is_empty asked.listening_channel_remove) removed);
    }

plain_changed : (asked : UserState) (there : Option ChannelId) (was : User) (silent : Bool) → SetsNothing asked
    → IsPlain was (record (changed_user (user_parts there asked.mute asked.deaf asked.priority_speaker asked.self_mute asked.self_deaf asked.recording asked.comment asked.plugin_context
    (channels asked.listening_channel_add) (channels asked.listening_channel_remove)) was) { suppress = silent })
plain_changed asked there was silent nothing =
    let row : (Option Bool → Option Bool → Option Bool → Option (List ℕ) → Option (List ℕ) → User) = λ mute deaf recording comment context.
    record (changed_user (user_parts there asked.mute asked.deaf asked.priority_speaker mute deaf recording comment context
    (channels asked.listening_channel_add) (channels asked.listening_channel_remove)) was) { suppress = silent } in
    ap (λ o. row o asked.self_deaf asked.recording asked.comment asked.plugin_context) nothing.self_mute
    ∙ ap (λ o. row None o asked.recording asked.comment asked.plugin_context) nothing.self_deaf
    ∙ ap (λ o. row None None o asked.comment asked.plugin_context) nothing.recording
    ∙ ap (λ o. row None None None o asked.plugin_context) nothing.comment
    ∙ ap (λ o. row None None None None o) nothing.context

plain_by : (before : StateValue) (actor : SessionId) (own : User) (tokens : List (List ℕ)) {message : UserMessage} {edit : Edit} → own.session ≡ actor
    → IsUserKind before actor own tokens message edit → (was : User) → session_of before.roster was.session ≡ Some was → was.session ≢ own.session → (silent : Bool)
    → IsPlain was (record (seated edit was) { suppress = silent })
plain_by before actor own tokens by (renews login version) was found other silent =
    if_so (λ (user : User). IsPlain was (record user { suppress = silent })) (has_number actor was) (record was { tokens = tokens_kept login.tokens }) was
    (λ on. absurd (other (same_session was.session actor on ∙ sym by))) refl
plain_by before actor own tokens by (changes asked may_so) was found other silent =
    if_so (λ (user : User). IsPlain was (record user { suppress = silent })) (has_number (session_or actor asked.session) was) (changed_user (change_of before.roster actor asked) was) was
    (λ on. plain_changed asked (new_channel before.roster (session_or actor asked.session) asked) was silent (sets_nothing asked (may_so.owns
    (not_oneself (is_oneself actor (session_or actor asked.session)) refl (it_is before actor own tokens asked may_so by was found on))))) refl
  where
    not_oneself : (b : Bool) → is_oneself actor (session_or actor asked.session) ≡ b → was.session ≡ session_or actor asked.session
        → is_oneself actor (session_or actor asked.session) ≡ false
    not_oneself true same it = absurd (other (it ∙ sym (same_session actor (session_or actor asked.session) same) ∙ sym by))
    not_oneself false same it = same
plain_by before actor own tokens by (kicks asked may_so) was found other silent = refl
plain_by before actor own tokens by (says asked) was found other silent = refl
plain_by before actor own tokens by (aims asked) was found other silent = refl
plain_by before actor own tokens by leaves was found other silent = refl

-- to what another listens, and its targets, where it does not go
beside_by : (before : StateValue) (actor : SessionId) (own : User) (tokens : List (List ℕ)) {message : UserMessage} {edit : Edit} → own.session ≡ actor
    → IsUserKind before actor own tokens message edit → (session : SessionId) → session ≢ own.session → goes edit session ≡ false
    → ((one : ChannelId) → listens (set_by before edit).roster session one ≡ listens before.roster session one)
    × ((id : ℕ) → target_of (set_by before edit).roster session id ≡ target_of before.roster session id)
beside_by before actor own tokens by (renews login version) session other stays = (λ one. refl, λ id. refl)
beside_by before actor own tokens by (changes asked may_so) session other stays =
    (λ one. step (is_oneself (session_or actor asked.session) session) refl one, λ id. refl)
  where
    change : UserEdit
    change = change_of before.roster actor asked

    nothing_else : (l m : Bool) → ((l || false) && true) ≡ l
    nothing_else true m = refl
    nothing_else false m = refl

    step : (b : Bool) → is_oneself (session_or actor asked.session) session ≡ b → (one : ChannelId)
        → listens (edited before.roster (session_or actor asked.session) change) session one ≡ listens before.roster session one
    step false apart one =
        others_listen_as_before_lem before.roster (session_or actor asked.session) change session one
        (λ same. both_ways (is_oneself (session_or actor asked.session) session) apart (eq-eqb (session_or actor asked.session).0 session.0 same))
    step true same one =
        let it : session_or actor asked.session ≡ session = same_session (session_or actor asked.session) session same in
        let nothing = sets_nothing asked (may_so.owns (apart_of (is_oneself actor (session_or actor asked.session)) refl it)) in
        ap (λ s. listens (edited before.roster (session_or actor asked.session) change) s one) (sym it)
        ∙ listens_as_told_lem before.roster (session_or actor asked.session) change one
        ∙ ap (λ (ns : List ℕ). (listens before.roster (session_or actor asked.session) one || is_among (channels ns) one) && not (is_among change.unlisten one)) nothing.added
        ∙ ap (λ (ns : List ℕ). (listens before.roster (session_or actor asked.session) one || false) && not (is_among (channels ns) one)) nothing.removed
        ∙ nothing_else (listens before.roster (session_or actor asked.session) one) true
        ∙ ap (λ s. listens before.roster s one) it
      where
        apart_of : (b : Bool) → is_oneself actor (session_or actor asked.session) ≡ b → session_or actor asked.session ≡ session
            → is_oneself actor (session_or actor asked.session) ≡ false
        apart_of true on it = absurd (other (sym it ∙ sym (same_session actor (session_or actor asked.session) on) ∙ sym by))
        apart_of false on it = on
beside_by before actor own tokens by (kicks asked may_so) session other stays =
    (λ one. left_listens before.roster (session_or actor asked.session) session one stays, λ id. left_aims before.roster (session_or actor asked.session) session id stays)
beside_by before actor own tokens by (says asked) session other stays = (λ one. refl, λ id. refl)
beside_by before actor own tokens by (aims asked) session other stays = (
  λ one. ap (λ pairs. list_any (is_pair session one) pairs) (targeted_listeners before.roster actor (number_of_target asked) (target_asked asked)),
  λ id. targeted_beside before.roster actor session id (number_of_target asked) (target_asked asked) (apart (actor.0 == session.0) refl),
)
  where
    apart : (b : Bool) → (actor.0 == session.0) ≡ b → (actor.0 == session.0) ≡ false
    apart true on = absurd (other (sym (same_session actor session on) ∙ sym by))
    apart false off = off
beside_by before actor own tokens by leaves session other stays =
    (λ one. left_listens before.roster actor session one stays, λ id. left_aims before.roster actor session id stays)

pub others_keep_their_own_lem : OthersKeepTheirOwn
others_keep_their_own_lem before actor message edit proper accepted =
    let (own, tokens, all) = user_edit before actor message edit accepted in
    let by = number_is before actor own all.by.there in
    let fit = all.fit proper in
    let kind = all.kind in (
      own,
      tokens,
      all.by,
      λ session was now is found other.
          let (one, there, row) = was_there before actor own tokens kind session now found in
          let it : one ≡ was = some_is one was (sym there ∙ is) in
          let at : was.session ≡ session = number_is before session was is in
          let known : session_of before.roster was.session ≡ Some was = ap (session_of before.roster) at ∙ is in
          let (heard_so, aimed_so) = beside_by before actor own tokens by kind was.session other (ap (goes edit) at ∙ row.stays) in (
            subst (IsPlain was) (ap (λ (user : User). record (seated edit user) { suppress = silent_after before edit (set_by before edit) (seated edit user) }) (sym it) ∙ row.row)
                (plain_by before actor own tokens by kind was known other (silent_after before edit (set_by before edit) (seated edit was))),
            λ one_channel. listening before edit was.session one_channel
                ∙ ap (λ (b : Bool). b && is_there (applied before edit).tree.channels one_channel) (heard_so one_channel),
            λ id. ap (λ rows. target_in rows was.session id) (aims_are before edit) ∙ aimed_so id,
          ),
    )
  where
    some_is : (one other : User) → Some one ≡ Some other → one ≡ other
    some_is one other same = cc

-- ---- who listens

among : (before : StateValue) (own : User) (tokens : List (List ℕ)) (one : ChannelId) (ids : List ChannelId)
    → All (λ c. may_with before own tokens LISTEN c ≡ true) ids → is_among ids one ≡ true → may_with before own tokens LISTEN one ≡ true
among before own tokens one [] all here = cc
among before own tokens one (id ∷ ids) all here =
    split (id.0 == one.0) refl here (among before own tokens one ids (All-tail (λ c. may_with before own tokens LISTEN c ≡ true) id ids all))
  where
    split : (b : Bool) → (id.0 == one.0) ≡ b → (b || is_among ids one) ≡ true → (is_among ids one ≡ true → may_with before own tokens LISTEN one ≡ true)
        → may_with before own tokens LISTEN one ≡ true
    split true same some later =
        ap (may_with before own tokens LISTEN) (sym (same_channel id one same)) ∙ All-head (λ c. may_with before own tokens LISTEN c ≡ true) id ids all
    split false apart some later = later some

listens_by : (before : StateValue) (actor : SessionId) (own : User) (tokens : List (List ℕ)) {message : UserMessage} {edit : Edit} → own.session ≡ actor
    → IsUserKind before actor own tokens message edit → (session : SessionId) → goes edit session ≡ false → (one : ChannelId)
    → listens (set_by before edit).roster session one ≡ true
    → (listens before.roster session one ≡ true) ⊎ ((session ≡ own.session) × (may_with before own tokens LISTEN one ≡ true))
listens_by before actor own tokens by (renews login version) session stays one on = inl on
listens_by before actor own tokens by (changes asked may_so) session stays one on = step (is_oneself actor session) refl
  where
    kind : IsUserKind before actor own tokens (Changes asked) (edit_to_change before.roster actor (session_or actor asked.session) asked)
    kind = changes asked may_so

    change : UserEdit
    change = change_of before.roster actor asked

    told : (l m u : Bool) → ((l || m) && not u) ≡ true → (l ≡ true) ⊎ (m ≡ true)
    told true m u some = inl refl
    told false true u some = inr refl
    told false false u some = cc

    own_changes : (b : Bool) → is_oneself (session_or actor asked.session) session ≡ b → actor ≡ session
        → (listens before.roster session one ≡ true) ⊎ ((session ≡ own.session) × (may_with before own tokens LISTEN one ≡ true))
    own_changes true same it =
        let at : session_or actor asked.session ≡ session = same_session (session_or actor asked.session) session same in
        ⊎_elim
        (λ (was : listens before.roster session one ≡ true). inl was)
        (λ (new : is_among (channels asked.listening_channel_add) one ≡ true). inr (sym it ∙ sym by, among before own tokens one (channels asked.listening_channel_add) may_so.listens new))
        (told (listens before.roster session one) (is_among (channels asked.listening_channel_add) one) (is_among (channels asked.listening_channel_remove) one)
        (sym (ap (λ s. listens (edited before.roster s change) session one) at ∙ listens_as_told_lem before.roster session change one) ∙ on))
    own_changes false apart it =
        inl (sym (others_listen_as_before_lem before.roster (session_or actor asked.session) change session one
        (λ same. both_ways (is_oneself (session_or actor asked.session) session) apart (eq-eqb (session_or actor asked.session).0 session.0 same))) ∙ on)

    step : (b : Bool) → is_oneself actor session ≡ b → (listens before.roster session one ≡ true) ⊎ ((session ≡ own.session) × (may_with before own tokens LISTEN one ≡ true))
    step true same = own_changes (is_oneself (session_or actor asked.session) session) refl (same_session actor session same)
    step false apart =
        inl (sym ((beside_by before actor own tokens by kind session
        (λ same. both_ways (is_oneself actor session) apart (eq-eqb actor.0 session.0 (ap (λ (s : SessionId). s.0) (sym by ∙ sym same)))) stays).0 one) ∙ on)
listens_by before actor own tokens by (kicks asked may_so) session stays one on = inl (sym (left_listens before.roster (session_or actor asked.session) session one stays) ∙ on)
listens_by before actor own tokens by (says asked) session stays one on = inl on
listens_by before actor own tokens by (aims asked) session stays one on =
    inl (sym (ap (λ pairs. list_any (is_pair session one) pairs) (targeted_listeners before.roster actor (number_of_target asked) (target_asked asked))) ∙ on)
listens_by before actor own tokens by leaves session stays one on = inl (sym (left_listens before.roster actor session one stays) ∙ on)

pub listens_where_permitted_lem : ListensWherePermitted
listens_where_permitted_lem before actor message edit proper accepted =
    let (own, tokens, all) = user_edit before actor message edit accepted in
    let by = number_is before actor own all.by.there in
    let fit = all.fit proper in
    let kind = all.kind in (
      own,
      tokens,
      all.by,
      λ session was now is found one on.
          let (then_one, there, row) = was_there before actor own tokens kind session now found in
          let at : was.session ≡ session = number_is before session was is in
          listens_by before actor own tokens by kind was.session (ap (goes edit) at ∙ row.stays) one
          (and_parts (listens (set_by before edit).roster was.session one) (is_there (applied before edit).tree.channels one) (sym (listening before edit was.session one) ∙ on)).0,
    )

-- ---- channels and settings

-- what the edit sets has the channels, the policies and the settings that there were
record Stands (before set : StateValue) : Type 0 where
  tree : set.tree ≡ before.tree
  policies : set.policies ≡ before.policies
  server : set.server ≡ before.server
  accounts : set.accounts ≡ before.accounts
  limit : set.roster.limit ≡ before.roster.limit

stands_by : (before : StateValue) (actor : SessionId) (own : User) (tokens : List (List ℕ)) {message : UserMessage} {edit : Edit}
    → IsUserKind before actor own tokens message edit → Stands before (set_by before edit)
stands_by before actor own tokens (renews login version) = record { tree = refl; policies = refl; server = refl; accounts = refl; limit = refl }
stands_by before actor own tokens (changes asked may_so) = record { tree = refl; policies = refl; server = refl; accounts = refl; limit = refl }
stands_by before actor own tokens (kicks asked may_so) = record { tree = refl; policies = refl; server = refl; accounts = refl; limit = refl }
stands_by before actor own tokens (says asked) = record { tree = refl; policies = refl; server = refl; accounts = refl; limit = refl }
stands_by before actor own tokens (aims asked) =
    record { tree = refl; policies = refl; server = refl; accounts = refl; limit = targeted_limit before.roster actor (number_of_target asked) (target_asked asked) }
stands_by before actor own tokens leaves = record { tree = refl; policies = refl; server = refl; accounts = refl; limit = refl }

channels_stand_in : (before : StateValue) (edit : Edit) → IsProper (set_by before edit) → Stands before (set_by before edit) → ChannelsStandIn before (applied before edit)
channels_stand_in before edit proper stands =
    let set = set_by before edit in
    let after = applied before edit in record {
      stay = λ id was is. stay id was is (row_of after.tree.channels id) refl;
      none_come = λ id none. never id none (row_of after.tree.channels id) refl;
      linked = λ one other.
          linked before edit one other
          ∙ ap (λ tree. are_linked tree one other && is_there after.tree.channels one && is_there after.tree.channels other) stands.tree;
    }
  where
    stay : (id : ChannelId) (was : Row) → row_of before.tree.channels id ≡ Some was → (now : Option Row) → row_of (applied before edit).tree.channels id ≡ now
        → ((row_of (applied before edit).tree.channels id ≡ Some was) × (policy_of (applied before edit) id ≡ policy_of before id))
        ⊎ ((row_of (applied before edit).tree.channels id ≡ None) × IsEmptied before (applied before edit) was)
    stay id was is None gone = inr (gone, emptied before edit id was (ap (λ tree. row_of tree.channels id) stands.tree ∙ is) gone)
    stay id was is (Some now) found =
        let set = lasting before edit proper id now found in
        let same : Some now ≡ Some was = sym set ∙ ap (λ tree. row_of tree.channels id) stands.tree ∙ is in
        inl (found ∙ same, ruled before edit id (ap is_some found) ∙ ap (find_policy id) stands.policies)

    never : (id : ChannelId) → row_of before.tree.channels id ≡ None → (now : Option Row) → row_of (applied before edit).tree.channels id ≡ now
        → row_of (applied before edit).tree.channels id ≡ None
    never id none None is = is
    never id none (Some now) found =
        let no : Some now ≡ None = sym (lasting before edit proper id now found) ∙ ap (λ tree. row_of tree.channels id) stands.tree ∙ none in cc

pub channels_stand_lem : ChannelsStand
channels_stand_lem =
    of_user (λ before after own tokens message. ChannelsStandIn before after) (λ before actor own tokens message edit proper by fit kind.
    channels_stand_in before edit (fit_proper before edit proper fit).0 (stands_by before actor own tokens kind))

pub settings_stand_lem : SettingsStand
settings_stand_lem =
    of_user (λ before after own tokens message. IsSetAsBefore before after) (λ before actor own tokens message edit proper by fit kind.
    let stands = stands_by before actor own tokens kind in
    let settled = heard_after before edit (set_by before edit) in record {
      server = ap (λ (s : StateValue). s.server) settled ∙ stands.server;
      accounts = ap (λ (s : StateValue). s.accounts) settled ∙ stands.accounts;
      sessions = ap (λ (s : StateValue). s.roster.limit) settled ∙ stands.limit;
      channels = ap (λ (s : StateValue). s.tree.limit) settled ∙ ap (λ tree. tree.limit) stands.tree;
    })
