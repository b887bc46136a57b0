-- What is reported of a session reports all that changed in it.
use Rattle.mum_command_laws.proofs.Common.{◌≡◌, ℕ, zero, suc, ◌==◌, ◌||◌, Bool, true, false, true≢false, not, cond, List, [], ◌∷◌, map, Option, Some, None, refl, ap, sym, ◌∙◌, subst, arith, inl, inr, ⊎_elim, ◌⊎◌, All, Contains, filter, list_any, is_some, option_map_or, bytes_eq, and_from, cases_Bool, eq-eqb, not-false, or_left, or_parts, or_right, All-cons, All-contains, All-nil, All-weaker, bytes_eq-Decides, SessionId, UserState, listens, pairs_of, session_of, RosterState, has_number, is_of_session, is_pair, ListenerPair, User, applied, is_empty, given, IsProper, StateValue, Edit, MakeChannel, RemoveChannel, SetAcl, SetTokens, SetUser, Each, found_passes, fit_proper, session_alone, if_it_tells, closes, notices, all_to_each, user_frame, gives_comment, tells_of_user, user_change_told, user_changes_told, user_difference, watched, whom_to_watch, comments_stand_lem, other_sessions_stand_lem, LearnsListening, LearnsUser, ReachesAll, UserChangesAreReported}
use Rattle.mum_command_laws.proofs.{Brought.in_changes_of_users, Contained.each_reaches, Contained.first_in, Contained.in_flat_map, Contained.in_map, Contained.passes_or_listed, Contained.reaches_in, Knowing.each_of_told, Knowing.flag_known, Knowing.known_after, Knowing.listed_after, Knowing.number_known, Knowing.said_known}

-- ---- a message that reports nothing

record IsUntold (message : UserState) : Type 0 where
  channel : is_some message.channel_id ≡ false
  mute : is_some message.mute ≡ false
  deaf : is_some message.deaf ≡ false
  suppress : is_some message.suppress ≡ false
  self_mute : is_some message.self_mute ≡ false
  self_deaf : is_some message.self_deaf ≡ false
  comment : is_some message.comment ≡ false
  priority : is_some message.priority_speaker ≡ false
  recording : is_some message.recording ≡ false
  begun : is_empty message.listening_channel_add ≡ true
  ended : is_empty message.listening_channel_remove ≡ true

untold : (message : UserState) → tells_of_user message ≡ false → IsUntold message
untold message off =
    let (ten, ended) = or_parts _ (not (is_empty message.listening_channel_remove)) off in
    let (nine, begun) = or_parts _ (not (is_empty message.listening_channel_add)) ten in
    let (eight, recording) = or_parts _ (is_some message.recording) nine in
    let (seven, priority) = or_parts _ (is_some message.priority_speaker) eight in
    let (six, comment) = or_parts _ (is_some message.comment) seven in
    let (five, self_deaf) = or_parts _ (is_some message.self_deaf) six in
    let (four, self_mute) = or_parts _ (is_some message.self_mute) five in
    let (three, suppress) = or_parts _ (is_some message.suppress) four in
    let (two, deaf) = or_parts _ (is_some message.deaf) three in
    let (channel, mute) = or_parts (is_some message.channel_id) (is_some message.mute) two in record {
      channel = channel;
      mute = mute;
      deaf = deaf;
      suppress = suppress;
      self_mute = self_mute;
      self_deaf = self_deaf;
      comment = comment;
      priority = priority;
      recording = recording;
      begun = not-false (is_empty message.listening_channel_add) begun;
      ended = not-false (is_empty message.listening_channel_remove) ended;
    }

-- ---- what the message of a change reports

comment_said : (gives : Bool) (was now : List ℕ) → (gives ≡ false → now ≡ was) → (not gives || bytes_eq was now) ≡ true → was ≡ now
comment_said true was now stays same = (bytes_eq-Decides was now).0 same
comment_said false was now stays same = sym (stays refl)

module _ (before : RosterState) (edit : Edit) (after : RosterState) (was now : User) where
  learned : (gives_comment edit ≡ false → now.comment ≡ was.comment)
      → LearnsUser (if_it_tells tells_of_user (user_change_told before edit after was now)) was now
  learned stays =
      let told = user_change_told before edit after was now in
      let tells = tells_of_user told in record {
        session = each_of_told (λ (message : UserState). message.session ≡ Some now.session.0) told tells refl;
        channel = known_after (λ (message : UserState). message.channel_id) was.channel.0 now.channel.0 told tells (number_known was.channel.0 now.channel.0) (λ off. (untold told off).channel);
        mute = known_after (λ (message : UserState). message.mute) was.mute now.mute told tells (flag_known was.mute now.mute) (λ off. (untold told off).mute);
        deaf = known_after (λ (message : UserState). message.deaf) was.deaf now.deaf told tells (flag_known was.deaf now.deaf) (λ off. (untold told off).deaf);
        suppress = known_after (λ (message : UserState). message.suppress) was.suppress now.suppress told tells (flag_known was.suppress now.suppress) (λ off. (untold told off).suppress);
        self_mute = known_after (λ (message : UserState). message.self_mute) was.self_mute now.self_mute told tells (flag_known was.self_mute now.self_mute) (λ off. (untold told off).self_mute);
        self_deaf = known_after (λ (message : UserState). message.self_deaf) was.self_deaf now.self_deaf told tells (flag_known was.self_deaf now.self_deaf) (λ off. (untold told off).self_deaf);
        priority = known_after (λ (message : UserState). message.priority_speaker) was.priority now.priority told tells (flag_known was.priority now.priority) (λ off. (untold told off).priority);
        recording = known_after (λ (message : UserState). message.recording) was.recording now.recording told tells (flag_known was.recording now.recording) (λ off. (untold told off).recording);
        comment = known_after (λ (message : UserState). message.comment) was.comment now.comment told tells
            (said_known (not (gives_comment edit) || bytes_eq was.comment now.comment) was.comment now.comment (comment_said (gives_comment edit) was.comment now.comment stays))
            (λ off. (untold told off).comment);
      }

  learned_listening : LearnsListening (if_it_tells tells_of_user (user_change_told before edit after was now)) now.session before after
  learned_listening =
      let told = user_change_told before edit after was now in
      let tells = tells_of_user told in record {
        begun = subst (λ (l : List ℕ). All (λ pair. (listens before now.session pair.channel ≡ true) ⊎ Contains l pair.channel.0) (pairs_of after now.session))
            (listed_after (λ (message : UserState). message.listening_channel_add) told tells (λ off. (untold told off).begun))
            (passes_or_listed (λ (pair : ListenerPair). listens before now.session pair.channel) (λ pair. pair.channel.0) (pairs_of after now.session));
        ended = subst (λ (l : List ℕ). All (λ pair. (listens after now.session pair.channel ≡ true) ⊎ Contains l pair.channel.0) (pairs_of before now.session))
            (listed_after (λ (message : UserState). message.listening_channel_remove) told tells (λ off. (untold told off).ended))
            (passes_or_listed (λ (pair : ListenerPair). listens after now.session pair.channel) (λ pair. pair.channel.0) (pairs_of before now.session));
      }

-- ---- a session of which nothing is another

-- a session listens to the channels of its pairs
own_pairs : (session : SessionId) (pairs : List ListenerPair) → All (λ pair. list_any (is_pair session pair.channel) pairs ≡ true) (filter (is_of_session session) pairs)
own_pairs session [] = All-nil (λ (pair : ListenerPair). list_any (is_pair session pair.channel) [] ≡ true)
own_pairs session (pair ∷ pairs) = step (is_of_session session pair) refl (own_pairs session pairs)
  where
    more : (kept : List ListenerPair) → All (λ one. list_any (is_pair session one.channel) pairs ≡ true) kept → All (λ one. list_any (is_pair session one.channel) (pair ∷ pairs) ≡ true) kept
    more kept rest =
        All-weaker (λ one. list_any (is_pair session one.channel) pairs ≡ true) (λ one. list_any (is_pair session one.channel) (pair ∷ pairs) ≡ true)
        (λ one there. or_right (is_pair session one.channel pair) (list_any (is_pair session one.channel) pairs) there) kept rest

    step : (b : Bool) → is_of_session session pair ≡ b → All (λ one. list_any (is_pair session one.channel) pairs ≡ true) (filter (is_of_session session) pairs)
        → All (λ one. list_any (is_pair session one.channel) (pair ∷ pairs) ≡ true) (cond b (pair ∷ filter (is_of_session session) pairs) (filter (is_of_session session) pairs))
    step true is rest =
        All-cons (λ one. list_any (is_pair session one.channel) (pair ∷ pairs) ≡ true) pair (filter (is_of_session session) pairs)
        (or_left (is_pair session pair.channel pair) (list_any (is_pair session pair.channel) pairs)
        (and_from (pair.session.0 == session.0) (pair.channel.0 == pair.channel.0) is (eq-eqb pair.channel.0 pair.channel.0 refl)))
        (more (filter (is_of_session session) pairs) rest)
    step false is rest = more (filter (is_of_session session) pairs) rest

nothing_learned : (was now : User) → now ≡ was → LearnsUser [] was now
nothing_learned was now same =
    subst (λ (user : User). LearnsUser [] was user) (sym same) (record {
      session = All-nil (λ (message : UserState). message.session ≡ Some was.session.0);
      channel = refl;
      mute = refl;
      deaf = refl;
      suppress = refl;
      self_mute = refl;
      self_deaf = refl;
      priority = refl;
      recording = refl;
      comment = refl;
    })

nothing_begun : (session : SessionId) (before after : RosterState) → pairs_of after session ≡ pairs_of before session → LearnsListening [] session before after
nothing_begun session before after same =
    record {
      begun = subst (All (λ pair. (listens before session pair.channel ≡ true) ⊎ Contains [] pair.channel.0)) (sym same)
          (All-weaker (λ pair. listens before session pair.channel ≡ true) (λ pair. (listens before session pair.channel ≡ true) ⊎ Contains [] pair.channel.0)
          (λ pair there. inl there) (pairs_of before session) (own_pairs session before.listeners));
      ended = subst (All (λ pair. (listens after session pair.channel ≡ true) ⊎ Contains [] pair.channel.0)) same
          (All-weaker (λ pair. listens after session pair.channel ≡ true) (λ pair. (listens after session pair.channel ≡ true) ⊎ Contains [] pair.channel.0)
          (λ pair there. inl there) (pairs_of after session) (own_pairs session after.listeners));
    }

-- ---- whether a session is looked at

of_each : {X : Type 0} (P : X → Type 0) (xs : List X) → Each P xs → All P xs
of_each P [] all = All-nil P
of_each P (x ∷ xs) all = All-cons P x xs all.0 (of_each P xs all.1)

none_in : {X : Type 0} (x : X) → Contains [] x → ⊥
none_in x (k, within, at) = absurd (omega arith)

only_in : {X : Type 0} (one x : X) → Contains (one ∷ []) x → one ≡ x
only_in one x (zero, within, at) = at
only_in one x (suc k, within, at) = absurd (omega arith)

-- the session of this number is this one, or another, or none
is_of_number : (state : StateValue) (session : SessionId) (now : User) → IsProper state → Contains state.roster.sessions now
    → Contains (given (session_of state.roster session)) now ⊎ (Contains (given (session_of state.roster session)) now → ⊥)
is_of_number state session now proper here = found (session_of state.roster session) refl
  where
    found : (one : Option User) → session_of state.roster session ≡ one → Contains (given one) now ⊎ (Contains (given one) now → ⊥)
    found None is = inr (none_in now)
    found (Some user) is =
        ⊎_elim
        (λ (on : has_number session now ≡ true).
        let same : now ≡ user = All-contains (λ other. has_number session other ≡ true → other ≡ user) state.roster.sessions now
        (of_each (λ other. has_number session other ≡ true → other ≡ user) state.roster.sessions (session_alone state session user proper is)) here on in
        inl (subst (λ (u : User). Contains (user ∷ []) u) (sym same) (first_in user [])))
        (λ (off : has_number session now ≡ false). inr (λ there.
        true≢false (sym (found_passes (has_number session) state.roster.sessions user is) ∙ (ap (has_number session) (only_in user now there) ∙ off))))
        (cases_Bool (has_number session now))

is_looked_at : (state : StateValue) (edit : Edit) (takes : Bool) (now : User) → IsProper state → Contains state.roster.sessions now
    → Contains (watched (whom_to_watch edit takes) state.roster) now ⊎ (Contains (watched (whom_to_watch edit takes) state.roster) now → ⊥)
is_looked_at state edit true now proper here = inl here
is_looked_at state (RemoveChannel id actor) false now proper here = inl here
is_looked_at state (SetAcl channel actor policy) false now proper here = inl here
is_looked_at state (SetUser session actor channel mute deaf clear priority self_mute self_deaf recording comment context listen unlisten) false now proper here =
    is_of_number state session now proper here
is_looked_at state (SetTokens session tokens) false now proper here = is_of_number state session now proper here
is_looked_at state (MakeChannel id parent name true info (Some maker)) false now proper here = is_of_number state maker now proper here
is_looked_at state (MakeChannel id parent name true info None) false now proper here = inr (none_in now)
is_looked_at state (MakeChannel id parent name false info maker) false now proper here = inr (none_in now)
is_looked_at state edit false now proper here = inr (none_in now)

-- ---- what is sent

-- what is reported of a session that is looked at goes to everybody
sent_to_all : (before : StateValue) (edit : Edit) (after : StateValue) (now : User)
    → Contains (watched (whom_to_watch edit (closes before edit after)) after.roster) now
    → All (λ message. ReachesAll (notices before edit after) (user_frame message) after.roster.sessions) (user_difference before edit after now)
sent_to_all before edit after now seen =
    let told = user_changes_told before edit after (closes before edit after) in
    let frames = map user_frame told in
    let users = after.roster.sessions in
    All-weaker (Contains told) (λ message. ReachesAll (notices before edit after) (user_frame message) users)
    (λ message there. reaches_in (all_to_each users frames) (notices before edit after) (user_frame message) users (in_changes_of_users before edit after)
    (All-contains (λ frame. ReachesAll (all_to_each users frames) frame users) frames (user_frame message) (each_reaches users frames)
    (All-contains (λ one. Contains frames (user_frame one)) told message (in_map user_frame told) there)))
    (user_difference before edit after now)
    (All-contains (λ one. All (Contains told) (user_difference before edit after one)) (watched (whom_to_watch edit (closes before edit after)) after.roster) now
    (in_flat_map (user_difference before edit after) (watched (whom_to_watch edit (closes before edit after)) after.roster)) seen)

difference_is : (before : StateValue) (edit : Edit) (after : StateValue) (was now : User) → session_of before.roster now.session ≡ Some was
    → if_it_tells tells_of_user (user_change_told before.roster edit after.roster was now) ≡ user_difference before edit after now
difference_is before edit after was now is =
    sym (ap (λ (o : Option User). option_map_or (λ one. if_it_tells tells_of_user (user_change_told before.roster edit after.roster one now)) o []) is)

pub user_changes_are_reported_lem : UserChangesAreReported
user_changes_are_reported_lem state edit was now proper fit here is =
    let after = applied state edit in
    ⊎_elim
    (λ (seen : Contains (watched (whom_to_watch edit (closes state edit (applied state edit))) (applied state edit).roster) now).
    let same = difference_is state edit after was now is in (
      user_difference state edit after now,
      subst (λ (l : List UserState). LearnsUser l was now) same
          (learned state.roster edit after.roster was now (λ none. comments_stand_lem state edit was now proper none here is)),
      subst (λ (l : List UserState). LearnsListening l now.session state.roster after.roster) same (learned_listening state.roster edit after.roster was now),
      sent_to_all state edit after now seen,
    ))
    (λ (unseen : Contains (watched (whom_to_watch edit (closes state edit (applied state edit))) (applied state edit).roster) now → ⊥).
    let (stays, listening) = other_sessions_stand_lem state edit was now proper fit here is unseen in (
      [],
      nothing_learned was now stays,
      nothing_begun now.session state.roster after.roster listening,
      All-nil (λ message. ReachesAll (notices state edit after) (user_frame message) after.roster.sessions),
    ))
    (is_looked_at after edit (closes state edit after) now (fit_proper state edit proper fit).1 here)
