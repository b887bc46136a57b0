-- The sessions that an edit changes are those of which messages are sent.
use Rattle.mum_client_laws.proofs.Common.{◌≡◌, ◌≤◌, ℕ, ◌==◌, ◌||◌, Bool, true, false, not, cond, List, [], ◌∷◌, map, Option, Some, None, length, refl, ap, sym, ◌∙◌, arith, subst, Contains, count_by, filter, flat_map, list_any, is_some, option_map, option_map_or, bytes_eq, both_ways, eq-eqb, ne_eqb, All-contains, All-contains_itself, bytes_eq-Decides, SessionId, UserState, listens, pairs_of, session_of, RosterState, has_number, ListenerPair, User, applied, fits, is_empty, IsProper, StateValue, Edit, Each, each_filter, each_from_all, each_self, each_so, none_passes, fit_proper, if_it_tells, said_unless, closes, all_to_each, user_frame, edited_by, flag_told, gives_comment, tells_of_user, user_change_told, user_changes_told, user_difference, watched, whom_to_watch, comments_stand_lem, other_sessions_stand_lem, OfSession, AboutSession, AreExactly, Subject, changed_sessions, differ, due_to_all, gives_private, is_changed_session, is_other_session, listens_otherwise}
use Rattle.mum_client_laws.proofs.{Exactly.exactly_to_all, Exactly.kept_within, Exactly.pieces_kept, Framed.session_framed, Lists.only_given, Meant.all_passing, Reported.listens_by_pairs, Watching.looked_at}

-- ---- what a message gives

pub given_unless : {X : Type 0} (same : Bool) (value : X) → is_some (said_unless same value) ≡ not same
given_unless true value = refl
given_unless false value = refl

flag_given : (was now : Bool) → is_some (flag_told was now) ≡ differ was now
flag_given true true = refl
flag_given true false = refl
flag_given false true = refl
flag_given false false = refl

pub same_text : (text : List ℕ) → bytes_eq text text ≡ true
same_text text = (bytes_eq-Decides text text).1 refl

comment_given : (gives : Bool) (was now : List ℕ) → (gives ≡ false → now ≡ was) → is_some (said_unless (not gives || bytes_eq was now) now) ≡ not (bytes_eq was now)
comment_given true was now stays = given_unless (bytes_eq was now) now
comment_given false was now stays = sym (ap (λ (text : List ℕ). not (bytes_eq was text)) (stays refl) ∙ ap not (same_text was))

pub some_in : {X : Type 0} (x : X) (xs : List X) → is_empty (x ∷ xs) ≡ false
some_in x xs = ne_eqb (length (x ∷ xs)) 0 (λ (none : length (x ∷ xs) ≡ 0). absurd (omega arith))

-- a list of those that pass is not empty where one does
pub some_kept : {X Y : Type 0} (f : X → Y) (p : X → Bool) (xs : List X) → not (is_empty (map f (filter p xs))) ≡ list_any p xs
some_kept f p [] = refl
some_kept {X} f p (x ∷ xs) = step (p x) (some_kept f p xs)
  where
    step : (b : Bool) → not (is_empty (map f (filter p xs))) ≡ list_any p xs → not (is_empty (map f (cond b (x ∷ filter p xs) (filter p xs)))) ≡ (b || list_any p xs)
    step true rest = ap not (some_in (f x) (map f (filter p xs)))
    step false rest = rest

pub or_grouped : (a b c : Bool) → ((a || b) || c) ≡ (a || (b || c))
or_grouped true b c = refl
or_grouped false b c = refl

-- the message reports something exactly where the session has changed, or listens otherwise
tells : (before : RosterState) (edit : Edit) (after : RosterState) (was now : User) → (gives_comment edit ≡ false → now.comment ≡ was.comment)
    → tells_of_user (user_change_told before edit after was now) ≡ (is_other_session was now || listens_otherwise before after now.session)
tells before edit after was now stays =
    (λ i.
    given_unless (was.channel.0 == now.channel.0) now.channel.0 i || flag_given was.mute now.mute i || flag_given was.deaf now.deaf i || flag_given was.suppress now.suppress i
    || flag_given was.self_mute now.self_mute i || flag_given was.self_deaf now.self_deaf i || comment_given (gives_comment edit) was.comment now.comment stays i
    || flag_given was.priority now.priority i || flag_given was.recording now.recording i
    || some_kept (λ (pair : ListenerPair). pair.channel.0) (λ pair. not (listens before now.session pair.channel)) (pairs_of after now.session) i
    || some_kept (λ (pair : ListenerPair). pair.channel.0) (λ pair. not (listens after now.session pair.channel)) (pairs_of before now.session) i)
    ∙ or_grouped (is_other_session was now) (list_any (λ pair. not (listens before now.session pair.channel)) (pairs_of after now.session))
    (list_any (λ pair. not (listens after now.session pair.channel)) (pairs_of before now.session))

-- ---- whoever is not looked at is the same

no_difference : (flag : Bool) → differ flag flag ≡ false
no_difference true = refl
no_difference false = refl

is_itself : (user : User) → is_other_session user user ≡ false
is_itself user = λ i.
    not (eq-eqb user.channel.0 user.channel.0 refl i) || no_difference user.mute i || no_difference user.deaf i || no_difference user.suppress i || no_difference user.self_mute i
    || no_difference user.self_deaf i || not (same_text user.comment i) || no_difference user.priority i || no_difference user.recording i

-- a session listens to the channels of its pairs
own_listened : (roster : RosterState) (session : SessionId) → list_any (λ pair. not (listens roster session pair.channel)) (pairs_of roster session) ≡ false
own_listened roster session =
    none_passes (λ (pair : ListenerPair). not (listens roster session pair.channel)) (pairs_of roster session)
    (each_so (λ (pair : ListenerPair). list_any (λ (one : ListenerPair). one.channel.0 == pair.channel.0) (pairs_of roster session) ≡ true)
    (λ (pair : ListenerPair). not (listens roster session pair.channel) ≡ false)
    (λ pair there. ap not (sym (listens_by_pairs roster session pair.channel) ∙ there)) (pairs_of roster session)
    (each_self (λ (pair one : ListenerPair). one.channel.0 == pair.channel.0) (λ pair. eq-eqb pair.channel.0 pair.channel.0 refl) (pairs_of roster session)))

listens_alike : (before after : RosterState) (session : SessionId) → pairs_of after session ≡ pairs_of before session → listens_otherwise before after session ≡ false
listens_alike before after session same =
    (λ i. list_any (λ pair. not (listens before session pair.channel)) (same i) || list_any (λ pair. not (listens after session pair.channel)) (sym same i))
    ∙ (λ i. own_listened before session i || own_listened after session i)

-- ---- those that are looked at, as a test

watched_by : (roster : RosterState) → ((session : SessionId) → count_by (has_number session) roster.sessions ≤ 1) → (edit : Edit) (taken : Bool)
    → (seen : User → Bool) × (watched (whom_to_watch edit taken) roster ≡ filter seen roster.sessions)
watched_by roster numbers =
    looked_at roster (λ users. (seen : User → Bool) × (users ≡ filter seen roster.sessions)) ((λ user. false), nobody roster.sessions)
    (λ one. ((has_number one), sym (only_given (has_number one) roster.sessions (numbers one)))) ((λ user. true), everybody roster.sessions)
  where
    nobody : (users : List User) → [] ≡ filter (λ user. false) users
    nobody [] = refl
    nobody (user ∷ users) = nobody users

    everybody : (users : List User) → users ≡ filter (λ user. true) users
    everybody [] = refl
    everybody (user ∷ users) = ap (λ (rest : List User). user ∷ rest) (everybody users)

-- ---- what is sent of changed sessions is what is due

module _ (state : StateValue) (edit : Edit) (proper : IsProper state) (fit : fits state edit ≡ true) where
  abbrev after : StateValue
  after = applied state edit

  abbrev taken : Bool
  taken = closes state edit after

  abbrev about : UserState → Subject
  about message = AboutSession message.session message.actor (gives_private message)

  abbrev about_user : User → Subject
  about_user user = AboutSession (Some user.session.0) (option_map (λ session. session.0) (edited_by edit)) false

  said_where_told : (told : Bool) (message : UserState) → map about (cond {A = List UserState} told (message ∷ []) []) ≡ cond told (about message ∷ []) []
  said_where_told true message = refl
  said_where_told false message = refl

  said : (now : User) → Contains after.roster.sessions now → map about (user_difference state edit after now) ≡ cond (is_changed_session state after now) (about_user now ∷ []) []
  said now there = step (session_of state.roster now.session) refl
    where
      step : (found : Option User) → session_of state.roster now.session ≡ found
          → map about (option_map_or (λ was. if_it_tells tells_of_user (user_change_told state.roster edit after.roster was now)) found [])
          ≡ cond (option_map_or (λ was. is_other_session was now || listens_otherwise state.roster after.roster now.session) found false) (about_user now ∷ []) []
      step None is = refl
      step (Some was) is =
          said_where_told (tells_of_user (user_change_told state.roster edit after.roster was now)) (user_change_told state.roster edit after.roster was now)
          ∙ ap (λ (b : Bool). cond {A = List Subject} b (about_user now ∷ []) [])
          (tells state.roster edit after.roster was now (λ none. comments_stand_lem state edit was now proper none there is))

  unseen : (seen : User → Bool) → watched (whom_to_watch edit taken) after.roster ≡ filter seen after.roster.sessions
      → (now : User) → Contains after.roster.sessions now → seen now ≡ false → is_changed_session state after now ≡ false
  unseen seen are now there out = step (session_of state.roster now.session) refl
    where
      never : Contains (watched (whom_to_watch edit taken) after.roster) now → ⊥
      never among =
          both_ways (seen now) out
          (All-contains (λ user. seen user ≡ true) (filter seen after.roster.sessions) now (all_passing seen after.roster.sessions) (subst (λ (users : List User). Contains users now) are among))

      step : (found : Option User) → session_of state.roster now.session ≡ found
          → option_map_or (λ was. is_other_session was now || listens_otherwise state.roster after.roster now.session) found false ≡ false
      step None is = refl
      step (Some was) is =
          let (same, pairs) = other_sessions_stand_lem state edit was now proper fit there is never in
          (λ i. is_other_session was (same i) || listens_alike state.roster after.roster now.session pairs i) ∙ (λ i. is_itself was i || false)

  all_said : map about (user_changes_told state edit after taken) ≡ map about_user (filter (is_changed_session state after) after.roster.sessions)
  all_said =
      let (seen, are) = watched_by after.roster (fit_proper state edit proper fit).1.roster.numbers edit taken in
      let there : Each (Contains after.roster.sessions) after.roster.sessions = each_from_all (Contains after.roster.sessions) after.roster.sessions (All-contains_itself after.roster.sessions) in
      ap (λ (users : List User). map about (flat_map (user_difference state edit after) users)) are
      ∙ pieces_kept about (user_difference state edit after) about_user (is_changed_session state after) (filter seen after.roster.sessions)
      (each_filter (λ now. map about (user_difference state edit after now) ≡ cond (is_changed_session state after now) (about_user now ∷ []) []) seen after.roster.sessions
      (each_so (Contains after.roster.sessions) (λ now. map about (user_difference state edit after now) ≡ cond (is_changed_session state after now) (about_user now ∷ []) []) said after.roster.sessions there))
      ∙ ap (map about_user) (kept_within (is_changed_session state after) seen after.roster.sessions
      (each_so (Contains after.roster.sessions) (λ now. seen now ≡ false → is_changed_session state after now ≡ false) (unseen seen are) after.roster.sessions there))

  pub sessions_due : AreExactly (all_to_each after.roster.sessions (map user_frame (user_changes_told state edit after taken))) (changed_sessions (edited_by edit) state after)
  sessions_due =
      subst (λ (subjects : List Subject). AreExactly (all_to_each after.roster.sessions (map user_frame (user_changes_told state edit after taken))) (due_to_all after subjects)) all_said
      (exactly_to_all after user_frame OfSession session_framed (user_changes_told state edit after taken))
