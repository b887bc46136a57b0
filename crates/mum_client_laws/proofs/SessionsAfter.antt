-- Whoever knew the sessions before an edit and got its messages on sessions knows them after it.
use Rattle.mum_client_laws.proofs.Common.{◌≡◌, ◌≤◌, ℕ, ◌+◌, ◌==◌, ◌&&◌, ◌||◌, Bool, true, false, not, cond, List, [], ◌∷◌, ◌++◌, fold, Option, Some, None, refl, ap, sym, ◌∙◌, subst, arith, ⊎_elim, filter, flat_map, list_any, is_some, option_map, option_map_or, and_parts, eq-eqb, eqb-true, false≢true, ne_eqb, not-true, append-nil, fold-append, ChannelId, SessionId, UserRemove, UserState, listens, pairs_of, next_number, session_of, RosterState, has_number, ListenerPair, User, applied, fits, given, IsProper, StateValue, Edit, Join, Kick, Leave, found_passes, fit_parts, fit_proper, session_known, user_kicked, user_left, closes, gives_comment, user_changes_told, user_difference, user_told, watched, whom_to_watch, comments_stand_lem, other_sessions_stand_lem, is_listed, listening_after, plain_session, session_heard, KnownSession, public_session}
use Rattle.mum_client_laws.proofs.{Folded.listens_at, Folded.session_at, Folded.told_of_own, Lists.found_listed, Lists.unlisted, Membership.brings_in, Membership.gone_is_out, Membership.members, Membership.names_stay, Membership.puts_out, Membership.stays_in, Membership.there_after, Reported.absent_listens, Reported.added_alone, Reported.difference_other, Reported.difference_other_listens, Reported.listened_is, Reported.listens_by_pairs, Reported.newcomer_heard, Reported.own_listens, Reported.own_told, Reported.told_other, Reported.told_other_listens, Watching.found_other, Watching.found_own, Watching.never_found, Watching.never_seen, Watching.same_session, Watching.seen_or_not}

-- ---- the messages on sessions

-- the session that joins, of which all is said
abbrev pub arriving : RosterState → Edit → List User
arriving roster (Join session slot name account tokens) = given (session_of roster session)
arriving roster edit = []

abbrev pub departures : Edit → List UserRemove
departures (Leave session) = user_left session ∷ []
departures (Kick session actor reason ban) = user_kicked session actor reason ban ∷ []
departures edit = []

abbrev pub session_messages : StateValue → Edit → StateValue → List UserState
session_messages before edit after =
    flat_map (λ user. user_told after.roster user ∷ []) (arriving after.roster edit) ++ user_changes_told before edit after (closes before edit after)

-- what a departure leaves of one session, and of whether it listens to a channel
abbrev pub left_at : ℕ → Option KnownSession → UserRemove → Option KnownSession
left_at session known message = option_map_or (λ about. cond (session == about) None known) message.session known

abbrev pub unlistens_at : ℕ → Bool → UserRemove → Bool
unlistens_at session known message = option_map_or (λ about. not (session == about) && known) message.session known

departed_session : (edit : Edit) (session : SessionId) (known : Option KnownSession) → fold (left_at session.0) known (departures edit) ≡ cond (puts_out edit session) None known
departed_session (Leave one) session known = refl
departed_session (Kick one actor reason ban) session known = refl
departed_session edit session known = refl

departed_listens : (edit : Edit) (session : SessionId) (known : Bool) → fold (unlistens_at session.0) known (departures edit) ≡ (not (puts_out edit session) && known)
departed_listens (Leave one) session known = refl
departed_listens (Kick one actor reason ban) session known = refl
departed_listens edit session known = refl

-- ---- two lists of messages, of which only those about the session count

module _ {V : Type 0} (at : V → UserState → V) (session : SessionId) (say more : User → List UserState)
    (first : (user : User) (value : V) → has_number session user ≡ false → fold at value (say user) ≡ value)
    (second : (user : User) (value : V) → has_number session user ≡ false → fold at value (more user) ≡ value) where
  both_told : (us vs : List User) (value : V) → fold at value (flat_map say us ++ flat_map more vs)
      ≡ fold at (fold at value (flat_map say (filter (has_number session) us))) (flat_map more (filter (has_number session) vs))
  both_told us vs value =
      fold-append at value (flat_map say us) (flat_map more vs)
      ∙ ap (λ (known : V). fold at known (flat_map more vs)) (told_of_own at session say first us value)
      ∙ told_of_own at session more second vs (fold at value (flat_map say (filter (has_number session) us)))

  -- where the first are about others
  second_told : (us vs own : List User) (value : V) → filter (has_number session) us ≡ [] → filter (has_number session) vs ≡ own
      → fold at value (flat_map say us ++ flat_map more vs) ≡ fold at value (flat_map more own)
  second_told us vs own value none is =
      both_told us vs value
      ∙ ap (λ (xs : List User). fold at (fold at value (flat_map say xs)) (flat_map more (filter (has_number session) vs))) none
      ∙ ap (λ (xs : List User). fold at value (flat_map more xs)) is

-- ---- who arrives

none_and : (a : Bool) → (a && false) ≡ false
none_and true = refl
none_and false = refl

or_off : (a : Bool) → (a || false) ≡ a
or_off true = refl
or_off false = refl

-- an edit by which a session is there that was not brings it in
brought : (state : StateValue) (edit : Edit) (session : SessionId) (now : User) → session_of state.roster session ≡ None → session_of (applied state edit).roster session ≡ Some now
    → (brings_in state edit session ≡ true) × (puts_out edit session ≡ false)
brought state edit session now none is =
    let parts = and_parts (brings_in state edit session || false) (not (puts_out edit session))
    (sym (ap (λ (found : Option User). there_after state edit session (is_some found)) none) ∙ sym (members state edit session) ∙ ap is_some is) in
    (sym (or_off (brings_in state edit session)) ∙ parts.0, not-true (puts_out edit session) parts.1)

-- of a session that is brought in all is said, and nothing is another
arrives : (state : StateValue) (edit : Edit) (session : SessionId) (roster : RosterState) (now : User) → fits state edit ≡ true → brings_in state edit session ≡ true
    → session_of roster session ≡ Some now → filter (has_number session) (arriving roster edit) ≡ now ∷ []
arrives state (Join one slot name account tokens) session roster now fit brings is =
    let numbers = and_parts (one.0 == (next_number state.roster).0) _ (fit_parts state (Join one slot name account tokens) fit).numbers in
    let same : one.0 ≡ session.0 = eqb-true one.0 (next_number state.roster).0 numbers.0 ∙ eqb-true (next_number state.roster).0 session.0 brings in
    ap (λ (other : SessionId). filter (has_number session) (given (session_of roster other))) (same_session one session (eq-eqb one.0 session.0 same)) ∙ found_own session roster now is
arrives state edit session roster now fit brings is = absurd (false≢true brings)

none_changed : (state : StateValue) (edit : Edit) (after : StateValue) (session : SessionId) → brings_in state edit session ≡ true
    → user_changes_told state edit after (closes state edit after) ≡ []
none_changed state (Join one slot name account tokens) after session brings = refl
none_changed state edit after session brings = absurd (false≢true brings)

-- whoever is not there does not arrive
nobody_arrives : (session : SessionId) (roster : RosterState) → session_of roster session ≡ None → (edit : Edit) → filter (has_number session) (arriving roster edit) ≡ []
nobody_arrives session roster none (Join one slot name account tokens) = never_found session roster none one
nobody_arrives session roster none edit = refl

-- nor does whoever was there
none_arrives : (state : StateValue) (edit : Edit) (session : SessionId) (roster : RosterState) → fits state edit ≡ true → session.0 ≤ state.roster.last
    → filter (has_number session) (arriving roster edit) ≡ []
none_arrives state (Join one slot name account tokens) session roster fit known =
    let numbers = and_parts (one.0 == (next_number state.roster).0) _ (fit_parts state (Join one slot name account tokens) fit).numbers in
    let next : one.0 ≡ state.roster.last + 1 = eqb-true one.0 (next_number state.roster).0 numbers.0 in
    found_other one session roster (ne_eqb one.0 session.0 (λ (same : one.0 ≡ session.0). absurd (omega (arith, next, same, known))))
none_arrives state edit session roster fit known = refl

-- ---- what is known of one session

module _ (state : StateValue) (edit : Edit) (session : SessionId) (proper : IsProper state) (fit : fits state edit ≡ true) where
  abbrev after : StateValue
  after = applied state edit

  abbrev say : User → List UserState
  say user = user_told after.roster user ∷ []

  abbrev more : User → List UserState
  more = user_difference state edit after

  abbrev looked_at : List User
  looked_at = watched (whom_to_watch edit (closes state edit after)) after.roster

  now_proper : IsProper after
  now_proper = (fit_proper state edit proper fit).1

  number_of : (roster : RosterState) (user : User) → session_of roster session ≡ Some user → user.session ≡ session
  number_of roster user is = same_session user.session session (found_passes (has_number session) roster.sessions user is)

  -- whoever was there and is not looked at is as it was
  unseen : (was now : User) → session_of state.roster session ≡ Some was → session_of after.roster session ≡ Some now → filter (has_number session) looked_at ≡ []
      → (now ≡ was) × (pairs_of after.roster session ≡ pairs_of state.roster session)
  unseen was now before is none =
      let number = number_of after.roster now is in
      let stands = other_sessions_stand_lem state edit was now proper fit (found_listed (has_number session) after.roster.sessions now is)
      (ap (session_of state.roster) number ∙ before)
      (λ here. unlisted (has_number session) looked_at now (found_passes (has_number session) after.roster.sessions now is) none here) in
      (stands.0, subst (λ (one : SessionId). pairs_of after.roster one ≡ pairs_of state.roster one) number stands.1)

  comments : (was now : User) → session_of state.roster session ≡ Some was → session_of after.roster session ≡ Some now
      → gives_comment edit ≡ false → now.comment ≡ was.comment
  comments was now before is none =
      comments_stand_lem state edit was now proper none (found_listed (has_number session) after.roster.sessions now is) (ap (session_of state.roster) (number_of after.roster now is) ∙ before)

  abbrev known_before : Option User → Option KnownSession
  known_before was = option_map public_session was

  pub session_told : (was now : Option User) → session_of state.roster session ≡ was → session_of after.roster session ≡ now
      → fold (left_at session.0) (fold (session_at session.0) (known_before was) (session_messages state edit after)) (departures edit) ≡ option_map public_session now
  session_told None None before is =
      ap (λ (known : Option KnownSession). fold (left_at session.0) known (departures edit))
      (second_told (session_at session.0) session say more (told_other session after.roster) (difference_other session state edit after)
      (arriving after.roster edit) looked_at [] None (nobody_arrives session after.roster is edit)
      (never_seen session after.roster is edit (closes state edit after)))
      ∙ departed_session edit session None ∙ either (puts_out edit session)
    where
      either : (b : Bool) → cond {A = Option KnownSession} b None None ≡ None
      either true = refl
      either false = refl
  session_told (Some was) None before is =
      departed_session edit session _
      ∙ ap (λ (b : Bool). cond {A = Option KnownSession} b None (fold (session_at session.0) (Some (public_session was)) (session_messages state edit after)))
      (gone_is_out state edit session (ap is_some before) (ap is_some is))
  session_told None (Some now) before is =
      let (brings, stays) = brought state edit session now before is in
      let here : (session.0 == now.session.0) ≡ true = eq-eqb session.0 now.session.0 (ap (λ (one : SessionId). one.0) (sym (number_of after.roster now is))) in
      departed_session edit session _
      ∙ ap (λ (b : Bool). cond {A = Option KnownSession} b None (fold (session_at session.0) None (session_messages state edit after))) stays
      ∙ ap (λ (messages : List UserState). fold (session_at session.0) None (flat_map say (arriving after.roster edit) ++ messages)) (none_changed state edit after session brings)
      ∙ ap (fold (session_at session.0) None) (append-nil (flat_map say (arriving after.roster edit)))
      ∙ told_of_own (session_at session.0) session say (told_other session after.roster) (arriving after.roster edit) None
      ∙ ap (λ (users : List User). fold (session_at session.0) None (flat_map say users)) (arrives state edit session after.roster now fit brings is)
      ∙ ap (λ (b : Bool). cond b (Some (session_heard (user_told after.roster now) plain_session)) None) here
      ∙ ap (λ (one : KnownSession). Some one) (newcomer_heard after.roster now)
  session_told (Some was) (Some now) before is =
      departed_session edit session _
      ∙ ap (λ (b : Bool). cond {A = Option KnownSession} b None (fold (session_at session.0) (Some (public_session was)) (session_messages state edit after)))
      (stays_in state edit session (ap is_some before) (ap is_some is))
      ∙ ⊎_elim (λ seen. by_look (now ∷ []) seen ∙ own) (λ none. by_look [] none ∙ ap (λ (user : User). Some (public_session user)) (sym (unseen was now before is none).0))
      (seen_or_not session after.roster now (now_proper.roster.numbers session) is edit (closes state edit after))
    where
      by_look : (own : List User) → filter (has_number session) looked_at ≡ own
          → fold (session_at session.0) (Some (public_session was)) (session_messages state edit after) ≡ fold (session_at session.0) (Some (public_session was)) (flat_map more own)
      by_look own found =
          second_told (session_at session.0) session say more (told_other session after.roster) (difference_other session state edit after)
          (arriving after.roster edit) looked_at own (Some (public_session was))
          (none_arrives state edit session after.roster fit (session_known state session was proper before)) found

      own : fold (session_at session.0) (Some (public_session was)) (flat_map more (now ∷ [])) ≡ Some (public_session now)
      own =
          let number = number_of after.roster now is in
          let names = names_stay state edit session was now proper before is in
          own_told session state edit after was now number (ap (session_of state.roster) number ∙ before) names.0 names.1 (comments was now before is)

  -- and of whether it listens to a channel
  pub listens_told : (channel : ChannelId) (was now : Option User) → session_of state.roster session ≡ was → session_of after.roster session ≡ now
      → fold (unlistens_at session.0) (fold (listens_at session.0 channel.0) (listens state.roster session channel) (session_messages state edit after)) (departures edit)
      ≡ listens after.roster session channel
  listens_told channel None None before is =
      let silent = absent_listens state.roster session channel proper.roster before in
      departed_listens edit session _
      ∙ ap (λ (b : Bool). not (puts_out edit session) && b)
      (second_told (listens_at session.0 channel.0) session say more (told_other_listens session after.roster channel.0) (difference_other_listens session state edit after channel.0)
      (arriving after.roster edit) looked_at [] (listens state.roster session channel) (nobody_arrives session after.roster is edit)
      (never_seen session after.roster is edit (closes state edit after)) ∙ silent)
      ∙ none_and (not (puts_out edit session)) ∙ sym (absent_listens after.roster session channel now_proper.roster is)
  listens_told channel (Some was) None before is =
      departed_listens edit session _
      ∙ ap (λ (b : Bool). not b && fold (listens_at session.0 channel.0) (listens state.roster session channel) (session_messages state edit after))
      (gone_is_out state edit session (ap is_some before) (ap is_some is))
      ∙ sym (absent_listens after.roster session channel now_proper.roster is)
  listens_told channel None (Some now) before is =
      let (brings, stays) = brought state edit session now before is in
      let number = number_of after.roster now is in
      let here : (session.0 == now.session.0) ≡ true = eq-eqb session.0 now.session.0 (ap (λ (one : SessionId). one.0) (sym number)) in
      let silent = absent_listens state.roster session channel proper.roster before in
      departed_listens edit session _
      ∙ ap (λ (b : Bool). not b && fold (listens_at session.0 channel.0) (listens state.roster session channel) (session_messages state edit after)) stays
      ∙ ap (λ (messages : List UserState). fold (listens_at session.0 channel.0) (listens state.roster session channel) (flat_map say (arriving after.roster edit) ++ messages))
      (none_changed state edit after session brings)
      ∙ ap (fold (listens_at session.0 channel.0) (listens state.roster session channel)) (append-nil (flat_map say (arriving after.roster edit)))
      ∙ told_of_own (listens_at session.0 channel.0) session say (told_other_listens session after.roster channel.0) (arriving after.roster edit) (listens state.roster session channel)
      ∙ ap (λ (users : List User). fold (listens_at session.0 channel.0) (listens state.roster session channel) (flat_map say users)) (arrives state edit session after.roster now fit brings is)
      ∙ ap (λ (b : Bool). cond b (listening_after (user_told after.roster now) (listens state.roster session channel) channel.0) (listens state.roster session channel)) here
      ∙ ap (λ (b : Bool). listening_after (user_told after.roster now) b channel.0) silent
      ∙ added_alone (is_listed (user_told after.roster now).listening_channel_add channel.0)
      ∙ listened_is after.roster now.session channel ∙ ap (λ (one : SessionId). listens after.roster one channel) number
  listens_told channel (Some was) (Some now) before is =
      departed_listens edit session _
      ∙ ap (λ (b : Bool). not b && fold (listens_at session.0 channel.0) (listens state.roster session channel) (session_messages state edit after))
      (stays_in state edit session (ap is_some before) (ap is_some is))
      ∙ ⊎_elim (λ seen. by_look (now ∷ []) seen ∙ own) (λ none. by_look [] none ∙ as_before (unseen was now before is none).1)
      (seen_or_not session after.roster now (now_proper.roster.numbers session) is edit (closes state edit after))
    where
      by_look : (own : List User) → filter (has_number session) looked_at ≡ own
          → fold (listens_at session.0 channel.0) (listens state.roster session channel) (session_messages state edit after)
          ≡ fold (listens_at session.0 channel.0) (listens state.roster session channel) (flat_map more own)
      by_look own found =
          second_told (listens_at session.0 channel.0) session say more (told_other_listens session after.roster channel.0) (difference_other_listens session state edit after channel.0)
          (arriving after.roster edit) looked_at own (listens state.roster session channel)
          (none_arrives state edit session after.roster fit (session_known state session was proper before)) found

      own : fold (listens_at session.0 channel.0) (listens state.roster session channel) (flat_map more (now ∷ [])) ≡ listens after.roster session channel
      own =
          let number = number_of after.roster now is in
          own_listens session state edit after was now number (ap (session_of state.roster) number ∙ before) channel

      as_before : pairs_of after.roster session ≡ pairs_of state.roster session → listens state.roster session channel ≡ listens after.roster session channel
      as_before same =
          sym (listens_by_pairs state.roster session channel)
          ∙ ap (λ (pairs : List ListenerPair). list_any (λ pair. pair.channel.0 == channel.0) pairs) (sym same) ∙ listens_by_pairs after.roster session channel
