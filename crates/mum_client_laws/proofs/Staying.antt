-- Whoever stays knows by the notices of an edit what is after it.
use Rattle.mum_client_laws.proofs.Common.{◌≡◌, ℕ, ◌==◌, true, false, not, List, [], ◌∷◌, ◌++◌, map, fold, Option, Some, None, refl, ap, sym, ◌∙◌, arith, append_assoc, ◌+◌, filter, flat_map, fun_ext, and_parts, eqb-true, ne_eqb, append-nil, map-append, fold-append, ChannelId, SessionId, ChannelState, UserRemove, UserState, next_number, session_of, has_number, User, applied, fits, given, IsProper, StateValue, Edit, Join, Kick, Leave, SetAcl, Text, found_passes, fit_parts, fit_proper, session_known, channel_changes_told, new_channels_told, channel_gone, channels_gone, departure, last_parcel, user_kicked, user_left, arrival, closes, notices, others, all_to_each, channel_frame, channel_gone_frame, parcel, permissions_frame, text_frame, to_each, user_frame, user_gone_frame, sync_block, sync_frames, sync_parcels, is_for, permission_parcel, permission_parcels, permissions_told, text_parcels, text_told, user_changes_told, user_told, Notice, apart_sym, filter_within, Brings, frame_of, frames_to, Message, OfChannel, OfChannelGone, OfPermissions, OfSession, OfSessionGone, OfText, all_heard, heard, listening_left, sessions_left, Channels, Known, Pairs, Sessions, numbered_channel, numbered_session, public}
use Rattle.mum_client_laws.proofs.{Closing.IsKnownTree, Closing.channels_of, Closing.gone_channels, Closing.gone_links, Closing.heard_gone, Closing.links_of, Folded.heard_channels, Folded.heard_permissions, Folded.heard_sessions, Folded.heard_texts, Folded.told_channels, Folded.told_links, Folded.told_listening, Folded.told_listens, Folded.told_session, Folded.told_sessions, Framed.all_framed, Framed.both_framed, Framed.channel_framed, Framed.channel_gone_framed, Framed.frames_append, Framed.frames_of_all, Framed.frames_posted, Framed.permissions_framed, Framed.session_framed, Framed.session_gone_framed, Framed.text_framed, Lists.only_given, SessionsAfter.arriving, SessionsAfter.departures, SessionsAfter.left_at, SessionsAfter.listens_told, SessionsAfter.session_messages, SessionsAfter.session_told, SessionsAfter.unlistens_at}

-- ---- departures, as they are heard

abbrev pub told_gone : List UserRemove → Sessions → Sessions
told_gone messages sessions = fold (λ known message. sessions_left message known) sessions messages

abbrev pub told_silent : List UserRemove → Pairs → Pairs
told_silent messages listening = fold (λ known message. listening_left message known) listening messages

heard_departures : (messages : List UserRemove) (known : Known)
    → all_heard known (map OfSessionGone messages) ≡ record known { sessions = told_gone messages known.sessions; listening = told_silent messages known.listening }
heard_departures [] known = refl
heard_departures (message ∷ messages) known = heard_departures messages (heard known (OfSessionGone message))

told_gone_at : (session : ℕ) (messages : List UserRemove) (sessions : Sessions) → told_gone messages sessions session ≡ fold (left_at session) (sessions session) messages
told_gone_at session [] sessions = refl
told_gone_at session (message ∷ messages) sessions = told_gone_at session messages (sessions_left message sessions)

told_silent_at : (session channel : ℕ) (messages : List UserRemove) (listening : Pairs)
    → told_silent messages listening session channel ≡ fold (unlistens_at session) (listening session channel) messages
told_silent_at session channel [] listening = refl
told_silent_at session channel (message ∷ messages) listening = told_silent_at session channel messages (listening_left message listening)

-- ---- what of each part of the notices is for the session

abbrev texts : StateValue → Edit → SessionId → List Message
texts after (Text actor sessions channels trees message) session =
    map (λ user. OfText (text_told actor sessions channels trees message)) (filter (has_number session) (filter (is_for after actor sessions channels trees) after.roster.sessions))
texts after edit session = []

abbrev permissions : StateValue → Edit → SessionId → List Message
permissions after (SetAcl channel actor policy) session = map (λ user. OfPermissions (permissions_told after user)) (filter (has_number session) after.roster.sessions)
permissions after edit session = []

module _ (session : SessionId) where
  -- frames for another session
  frames_apart : (user : User) → has_number session user ≡ false → (frames : List (List ℕ)) → frames_to session (map (λ frame. parcel frame user) frames) ≡ []
  frames_apart user apart [] = refl
  frames_apart user apart (frame ∷ frames) = rw apart (frames_apart user apart frames)

  no_block : (state : StateValue) (one : SessionId) → (one.0 == session.0) ≡ false → frames_to session (sync_block state one) ≡ []
  no_block state one apart = step (session_of state.roster one) refl
    where
      step : (found : Option User) → session_of state.roster one ≡ found → frames_to session (flat_map (sync_parcels state) (given found)) ≡ []
      step None is = refl
      step (Some user) is =
          let number : user.session.0 ≡ one.0 = eqb-true user.session.0 one.0 (found_passes (has_number one) state.roster.sessions user is) in
          ap (frames_to session) (append-nil (sync_parcels state user))
          ∙ frames_apart user (ap (λ n. n == session.0) number ∙ apart) (sync_frames state user)

  module _ (after : StateValue) (now : User) (alone : filter (has_number session) after.roster.sessions ≡ now ∷ []) where
    -- what goes to everybody
    to_all : {M : Type 0} (as_message : M → Message) (frame : M → List ℕ) → ((message : M) → frame_of (as_message message) ≡ frame message) → (messages : List M)
        → map frame_of (map as_message messages) ≡ frames_to session (all_to_each after.roster.sessions (map frame messages))
    to_all as_message frame framed messages =
        all_framed as_message frame framed messages ∙ sym (frames_of_all session after.roster.sessions now alone (map frame messages))

    -- what goes to all others
    to_others : (one : SessionId) → (session.0 == one.0) ≡ false → (frame : List ℕ) → frames_to session (to_each (others after one) frame) ≡ frame ∷ []
    to_others one apart frame =
        frames_posted session (parcel frame) (λ user. refl) (others after one)
        ∙ ap (λ (users : List User). map (λ user. frame) users)
        (filter_within (has_number session) (λ user. not (has_number one user))
        (λ user is. ap not (ap (λ n. n == one.0) (eqb-true user.session.0 session.0 is) ∙ apart)) after.roster.sessions ∙ alone)

    arrival_framed : (edit : Edit) → ((one : User) → arriving after.roster edit ≡ one ∷ [] → has_number session one ≡ false)
        → map frame_of (map OfSession (flat_map (λ user. user_told after.roster user ∷ []) (arriving after.roster edit))) ≡ frames_to session (arrival after edit)
    arrival_framed (Join one slot name account tokens) apart = step (session_of after.roster one) refl
      where
        step : (found : Option User) → session_of after.roster one ≡ found
            → map frame_of (map OfSession (flat_map (λ user. user_told after.roster user ∷ []) (given found)))
            ≡ frames_to session (flat_map (sync_parcels after) (given found) ++ flat_map (λ user. to_each (others after one) (user_frame (user_told after.roster user))) (given found))
        step None is = refl
        step (Some user) is =
            let off : has_number session user ≡ false = apart user (ap given is) in
            let number : user.session.0 ≡ one.0 = eqb-true user.session.0 one.0 (found_passes (has_number one) after.roster.sessions user is) in
            let frame = user_frame (user_told after.roster user) in
            ap (λ (first : List ℕ). first ∷ []) (session_framed (user_told after.roster user))
            ∙ sym (to_others one (apart_sym one.0 session.0 (ap (λ n. n == session.0) (sym number) ∙ off)) frame)
            ∙ sym (frames_append session (sync_parcels after user ++ []) (to_each (others after one) frame ++ [])
            ∙ ap (λ (frames : List (List ℕ)). frames ++ frames_to session (to_each (others after one) frame ++ []))
            (ap (frames_to session) (append-nil (sync_parcels after user)) ∙ frames_apart user off (sync_frames after user))
            ∙ ap (frames_to session) (append-nil (to_each (others after one) frame)))
    arrival_framed edit apart = refl

    departure_framed : (before : StateValue) (edit : Edit) (was : User) → filter (has_number session) before.roster.sessions ≡ was ∷ []
        → map frame_of (map OfSessionGone (departures edit)) ≡ frames_to session (departure before edit after)
    departure_framed before (Leave one) was alone_before =
        ap (λ (first : List ℕ). first ∷ []) (session_gone_framed (user_left one))
        ∙ sym (frames_posted session (parcel (user_gone_frame (user_left one))) (λ user. refl) after.roster.sessions
        ∙ ap (λ (users : List User). map (λ user. user_gone_frame (user_left one)) users) alone)
    departure_framed before (Kick one actor reason ban) was alone_before =
        let frame = user_gone_frame (user_kicked one actor reason ban) in
        ap (λ (first : List ℕ). first ∷ []) (session_gone_framed (user_kicked one actor reason ban))
        ∙ sym (frames_posted session (last_parcel one frame) (λ user. refl) before.roster.sessions ∙ ap (λ (users : List User). map (λ user. frame) users) alone_before)
    departure_framed before edit was alone_before = refl

  text_framed_for : (after : StateValue) (edit : Edit) → map frame_of (texts after edit session) ≡ frames_to session (text_parcels after edit)
  text_framed_for after (Text actor sessions channels trees message) =
      let told = text_told actor sessions channels trees message in
      let receivers = filter (is_for after actor sessions channels trees) after.roster.sessions in
      all_framed (λ (user : User). OfText told) (λ user. text_frame told) (λ user. text_framed told) (filter (has_number session) receivers)
      ∙ sym (frames_posted session (parcel (text_frame told)) (λ user. refl) receivers)
  text_framed_for after edit = refl

  permissions_framed_for : (after : StateValue) (edit : Edit) → map frame_of (permissions after edit session) ≡ frames_to session (permission_parcels after edit)
  permissions_framed_for after (SetAcl channel actor policy) =
      all_framed (λ (user : User). OfPermissions (permissions_told after user)) (λ user. permissions_frame (permissions_told after user)) (λ user. permissions_framed (permissions_told after user))
      (filter (has_number session) after.roster.sessions)
      ∙ sym (frames_posted session (permission_parcel after) (λ user. refl) after.roster.sessions)
  permissions_framed_for after edit = refl

-- ---- all of it

heard_text : (after : StateValue) (edit : Edit) (session : SessionId) (known : Known) → all_heard known (texts after edit session) ≡ known
heard_text after (Text actor sessions channels trees message) session known =
    heard_texts (λ (user : User). text_told actor sessions channels trees message) (filter (has_number session) (filter (is_for after actor sessions channels trees) after.roster.sessions)) known
heard_text after edit session known = refl

heard_permission : (after : StateValue) (edit : Edit) (session : SessionId) (known : Known) → all_heard known (permissions after edit session) ≡ known
heard_permission after (SetAcl channel actor policy) session known = heard_permissions (permissions_told after) (filter (has_number session) after.roster.sessions) known
heard_permission after edit session known = refl

module _ (state : StateValue) (edit : Edit) (session : SessionId) (was now : User) (proper : IsProper state) (fit : fits state edit ≡ true)
    (before : session_of state.roster session ≡ Some was) (is : session_of (applied state edit).roster session ≡ Some now) where
  abbrev after : StateValue
  after = applied state edit

  abbrev told : List ChannelState
  told = new_channels_told after edit ++ channel_changes_told state edit after

  abbrev gone : List ChannelId
  gone = channels_gone state edit after

  abbrev messages : List Message
  messages =
      map OfChannel told ++ map OfSession (session_messages state edit after) ++ map (λ id. OfChannelGone (channel_gone id)) gone ++ map OfSessionGone (departures edit)
      ++ texts after edit session ++ permissions after edit session

  alone : filter (has_number session) after.roster.sessions ≡ now ∷ []
  alone = only_given (has_number session) after.roster.sessions ((fit_proper state edit proper fit).1.roster.numbers session) ∙ ap given is

  alone_before : filter (has_number session) state.roster.sessions ≡ was ∷ []
  alone_before = only_given (has_number session) state.roster.sessions (proper.roster.numbers session) ∙ ap given before

  -- whoever was there is not the one that arrives
  arrives_apart : (edit : Edit) → fits state edit ≡ true → (after : StateValue) (one : User) → arriving after.roster edit ≡ one ∷ [] → has_number session one ≡ false
  arrives_apart (Join number slot name account tokens) fit after one arrived =
      by_found (session_of after.roster number) refl arrived
    where
      apart : (number.0 == session.0) ≡ false
      apart =
          let numbers = and_parts (number.0 == (next_number state.roster).0) _ (fit_parts state (Join number slot name account tokens) fit).numbers in
          let next : number.0 ≡ state.roster.last + 1 = eqb-true number.0 (next_number state.roster).0 numbers.0 in
          let known = session_known state session was proper before in
          ne_eqb number.0 session.0 (λ (same : number.0 ≡ session.0). absurd (omega (arith, next, same, known)))

      by_found : (found : Option User) → session_of after.roster number ≡ found → given found ≡ one ∷ [] → has_number session one ≡ false
      by_found None there none = cc
      by_found (Some user) there same =
          let own : user ≡ one = cc in
          ap (λ (other : User). has_number session other) (sym own)
          ∙ ap (λ n. n == session.0) (eqb-true user.session.0 number.0 (found_passes (has_number number) after.roster.sessions user there)) ∙ apart
  arrives_apart edit fit after one arrived = cc

  framed : map frame_of messages ≡ frames_to session (notices state edit after)
  framed =
      let here : List User = after.roster.sessions in
      let a : List Notice = all_to_each here (map channel_frame (new_channels_told after edit)) in
      let b : List Notice = all_to_each here (map channel_frame (channel_changes_told state edit after)) in
      let c : List Notice = arrival after edit in
      let d : List Notice = all_to_each here (map user_frame (user_changes_told state edit after (closes state edit after))) in
      let e : List Notice = all_to_each here (map (λ id. channel_gone_frame (channel_gone id)) gone) in
      let f : List Notice = departure state edit after in
      let g : List Notice = text_parcels after edit in
      let arrivals : List UserState = flat_map (λ user. user_told after.roster user ∷ []) (arriving after.roster edit) in
      let changes : List UserState = user_changes_told state edit after (closes state edit after) in
      let m1 : List Message = map OfChannel (new_channels_told after edit) in
      let m2 : List Message = map OfChannel (channel_changes_told state edit after) in
      let m3 : List Message = map OfSession arrivals in
      let m4 : List Message = map OfSession changes in
      let m5 : List Message = map (λ id. OfChannelGone (channel_gone id)) gone in
      let m6 : List Message = map OfSessionGone (departures edit) in
      let m7 : List Message = texts after edit session in
      let m8 : List Message = permissions after edit session in
      ap (λ (list : List Message). map frame_of (list ++ m5 ++ m6 ++ m7 ++ m8))
      (ap (λ (list : List Message). list ++ map OfSession (arrivals ++ changes)) (map-append OfChannel (new_channels_told after edit) (channel_changes_told state edit after))
      ∙ ap (λ (list : List Message). (m1 ++ m2) ++ list) (map-append OfSession arrivals changes) ∙ regrouped m1 m2 m3 m4)
      ∙ both_framed session (m1 ++ m2 ++ m3 ++ m4 ++ m5 ++ m6 ++ m7) m8 (a ++ b ++ c ++ d ++ e ++ f ++ g) (permission_parcels after edit)
      (both_framed session (m1 ++ m2 ++ m3 ++ m4 ++ m5 ++ m6) m7 (a ++ b ++ c ++ d ++ e ++ f) g
      (both_framed session (m1 ++ m2 ++ m3 ++ m4 ++ m5) m6 (a ++ b ++ c ++ d ++ e) f
      (both_framed session (m1 ++ m2 ++ m3 ++ m4) m5 (a ++ b ++ c ++ d) e
      (both_framed session (m1 ++ m2 ++ m3) m4 (a ++ b ++ c) d
      (both_framed session (m1 ++ m2) m3 (a ++ b) c
      (both_framed session m1 m2 a b
      (to_all session after now alone OfChannel channel_frame channel_framed (new_channels_told after edit))
      (to_all session after now alone OfChannel channel_frame channel_framed (channel_changes_told state edit after)))
      (arrival_framed session after now alone edit (arrives_apart edit fit after)))
      (to_all session after now alone OfSession user_frame session_framed changes))
      (to_all session after now alone (λ id. OfChannelGone (channel_gone id)) (λ id. channel_gone_frame (channel_gone id)) (λ id. channel_gone_framed (channel_gone id)) gone))
      (departure_framed session after now alone state edit was alone_before))
      (text_framed_for session after edit))
      (permissions_framed_for session after edit)
    where
      regrouped : (m1 m2 m3 m4 : List Message) → (m1 ++ m2) ++ (m3 ++ m4) ≡ m1 ++ m2 ++ m3 ++ m4
      regrouped m1 m2 m3 m4 = sym (append_assoc (m1 ++ m2) m3 m4)

  abbrev channels_end : Channels
  channels_end = gone_channels gone (told_channels told (channels_of state.tree))

  abbrev links_end : Pairs
  links_end = gone_links gone (told_channels told (channels_of state.tree)) (told_links told (links_of state.tree))

  abbrev sessions_end : Sessions
  sessions_end = told_gone (departures edit) (told_sessions (session_messages state edit after) (public state).sessions)

  abbrev listening_end : Pairs
  listening_end = told_silent (departures edit) (told_listening (session_messages state edit after) (public state).listening)

  sessions_known : (number : ℕ) → sessions_end number ≡ (public after).sessions number
  sessions_known number =
      told_gone_at number (departures edit) (told_sessions (session_messages state edit after) (public state).sessions)
      ∙ ap (λ known. fold (left_at number) known (departures edit)) (told_session number (session_messages state edit after) (public state).sessions)
      ∙ session_told state edit (numbered_session number) proper fit (session_of state.roster (numbered_session number)) (session_of after.roster (numbered_session number)) refl refl

  listening_known : (number channel : ℕ) → listening_end number channel ≡ (public after).listening number channel
  listening_known number channel =
      told_silent_at number channel (departures edit) (told_listening (session_messages state edit after) (public state).listening)
      ∙ ap (λ known. fold (unlistens_at number) known (departures edit)) (told_listens number channel (session_messages state edit after) (public state).listening)
      ∙ listens_told state edit (numbered_session number) proper fit (numbered_channel channel) (session_of state.roster (numbered_session number)) (session_of after.roster (numbered_session number)) refl refl

  all_known : IsKnownTree after.tree channels_end links_end → all_heard (public state) messages ≡ public after
  all_known tree =
      let m1 : List Message = map OfChannel told in
      let m2 : List Message = map OfSession (session_messages state edit after) in
      let m3 : List Message = map (λ id. OfChannelGone (channel_gone id)) gone in
      let m4 : List Message = map OfSessionGone (departures edit) in
      let m5 : List Message = texts after edit session in
      fold-append heard (public state) (m1 ++ m2 ++ m3 ++ m4 ++ m5) (permissions after edit session)
      ∙ heard_permission after edit session (all_heard (public state) (m1 ++ m2 ++ m3 ++ m4 ++ m5))
      ∙ fold-append heard (public state) (m1 ++ m2 ++ m3 ++ m4) m5
      ∙ heard_text after edit session (all_heard (public state) (m1 ++ m2 ++ m3 ++ m4))
      ∙ fold-append heard (public state) (m1 ++ m2 ++ m3) m4
      ∙ ap (λ known. all_heard known m4)
      (fold-append heard (public state) (m1 ++ m2) m3
      ∙ ap (λ known. all_heard known m3)
      (fold-append heard (public state) m1 m2
      ∙ ap (λ known. all_heard known m2) (heard_channels told (public state))
      ∙ heard_sessions (session_messages state edit after) (record (public state) { channels = told_channels told (channels_of state.tree); links = told_links told (links_of state.tree) }))
      ∙ heard_gone gone (record {
        channels = told_channels told (channels_of state.tree);
        links = told_links told (links_of state.tree);
        sessions = told_sessions (session_messages state edit after) (public state).sessions;
        listening = told_listening (session_messages state edit after) (public state).listening;
      }))
      ∙ heard_departures (departures edit) (record {
        channels = channels_end;
        links = links_end;
        sessions = told_sessions (session_messages state edit after) (public state).sessions;
        listening = told_listening (session_messages state edit after) (public state).listening;
      })
      ∙ (λ i. record {
        channels = tree.channels_are i;
        links = tree.links_are i;
        sessions = fun_ext sessions_known i;
        listening = fun_ext (λ number. fun_ext (listening_known number)) i;
      })

  pub brings : IsKnownTree after.tree channels_end links_end → Brings session (notices state edit after) (public state) (public after)
  brings tree = (messages, framed, all_known tree)
