-- Whoever is sent the sync block knows what is.
use Rattle.mum_client_laws.proofs.Common.{◌≡◌, ℕ, ◌==◌, Bool, true, false, cond, List, [], ◌∷◌, ◌++◌, map, fold, Option, Some, None, refl, ap, sym, ◌∙◌, filter, flat_map, option_map, fun_ext, eq-eqb, append-nil, map-append, flat_map_single, fold-append, ChannelId, SessionId, ChannelState, UserState, listens, session_of, has_number, User, given, IsProper, StateValue, found_passes, map_twice, channel_frame, codecs_frame, parcel, sync_frame, user_frame, version_frame, all_links_told, server_codecs, server_version, sync_block, sync_frames, sync_parcels, tree_told, welcome_told, user_told, Brings, frame_of, frames_to, Message, OfChannel, OfCodecs, OfSession, OfSync, OfVersion, all_heard, heard, is_listed, listening_after, plain_session, session_heard, KnownSession, nothing, numbered_channel, numbered_session, public, public_session}
use Rattle.mum_client_laws.proofs.{Closing.IsKnownTree, Folded.heard_channels, Folded.heard_sessions, Folded.listens_at, Folded.session_at, Folded.told_channels, Folded.told_links, Folded.told_listening, Folded.told_listens, Folded.told_of_own, Folded.told_session, Folded.told_sessions, Framed.all_framed, Framed.channel_framed, Framed.codecs_framed, Framed.session_framed, Framed.sync_framed, Framed.version_framed, Lists.only_given, Reported.absent_listens, Reported.added_alone, Reported.listened_is, Reported.newcomer_heard, Reported.told_other, Reported.told_other_listens, SyncTree.sync_tree, Watching.same_session}

module _ (state : StateValue) (proper : IsProper state) where
  abbrev pub say : User → List UserState
  say user = user_told state.roster user ∷ []

  abbrev pub all_sessions : List UserState
  all_sessions = flat_map say state.roster.sessions

  pub own_rows : (session : SessionId) → filter (has_number session) state.roster.sessions ≡ given (session_of state.roster session)
  own_rows session = only_given (has_number session) state.roster.sessions (proper.roster.numbers session)

  pub number_of : (session : SessionId) (user : User) → session_of state.roster session ≡ Some user → user.session ≡ session
  number_of session user is = same_session user.session session (found_passes (has_number session) state.roster.sessions user is)

  here : (session : SessionId) (user : User) → session_of state.roster session ≡ Some user → (session.0 == user.session.0) ≡ true
  here session user is = eq-eqb session.0 user.session.0 (ap (λ (one : SessionId). one.0) (sym (number_of session user is)))

  session_known : (session : SessionId) → fold (session_at session.0) None all_sessions ≡ option_map public_session (session_of state.roster session)
  session_known session =
      told_of_own (session_at session.0) session say (told_other session state.roster) state.roster.sessions None
      ∙ ap (λ (users : List User). fold (session_at session.0) None (flat_map say users)) (own_rows session)
      ∙ step (session_of state.roster session) refl
    where
      step : (found : Option User) → session_of state.roster session ≡ found → fold (session_at session.0) None (flat_map say (given found)) ≡ option_map public_session found
      step None is = refl
      step (Some user) is =
          ap (λ (b : Bool). cond b (Some (session_heard (user_told state.roster user) plain_session)) None) (here session user is)
          ∙ ap (λ (one : KnownSession). Some one) (newcomer_heard state.roster user)

  listens_known : (session : SessionId) (channel : ChannelId) → fold (listens_at session.0 channel.0) false all_sessions ≡ listens state.roster session channel
  listens_known session channel =
      told_of_own (listens_at session.0 channel.0) session say (told_other_listens session state.roster channel.0) state.roster.sessions false
      ∙ ap (λ (users : List User). fold (listens_at session.0 channel.0) false (flat_map say users)) (own_rows session)
      ∙ step (session_of state.roster session) refl
    where
      step : (found : Option User) → session_of state.roster session ≡ found → fold (listens_at session.0 channel.0) false (flat_map say (given found)) ≡ listens state.roster session channel
      step None is = sym (absent_listens state.roster session channel proper.roster is)
      step (Some user) is =
          ap (λ (b : Bool). cond b (listening_after (user_told state.roster user) false channel.0) false) (here session user is)
          ∙ added_alone (is_listed (user_told state.roster user).listening_channel_add channel.0)
          ∙ listened_is state.roster user.session channel ∙ ap (λ (one : SessionId). listens state.roster one channel) (number_of session user is)

  -- ---- the messages of the block

  abbrev pub channel_messages : List ChannelState
  channel_messages = tree_told state.tree ++ all_links_told state.tree

  abbrev pub messages : User → List Message
  messages user =
      OfVersion server_version ∷ OfCodecs server_codecs ∷ (map OfChannel channel_messages ++ map OfSession all_sessions ++ OfSync (welcome_told state user) ∷ [])

  sessions_framed : map frame_of (map OfSession all_sessions) ≡ map (λ other. user_frame (user_told state.roster other)) state.roster.sessions
  sessions_framed =
      ap (λ (list : List UserState). map frame_of (map OfSession list)) (flat_map_single (user_told state.roster) state.roster.sessions)
      ∙ all_framed OfSession user_frame session_framed (map (user_told state.roster) state.roster.sessions)
      ∙ map_twice user_frame (user_told state.roster) state.roster.sessions

  channels_framed : map frame_of (map OfChannel channel_messages) ≡ map channel_frame (tree_told state.tree) ++ map channel_frame (all_links_told state.tree)
  channels_framed =
      all_framed OfChannel channel_frame channel_framed channel_messages ∙ map-append channel_frame (tree_told state.tree) (all_links_told state.tree)

  rest_framed : (user : User) → map frame_of (map OfChannel channel_messages ++ map OfSession all_sessions ++ OfSync (welcome_told state user) ∷ [])
      ≡ (map channel_frame (tree_told state.tree) ++ map channel_frame (all_links_told state.tree)) ++ map (λ other. user_frame (user_told state.roster other)) state.roster.sessions
      ++ sync_frame (welcome_told state user) ∷ []
  rest_framed user =
      map-append frame_of (map OfChannel channel_messages ++ map OfSession all_sessions) (OfSync (welcome_told state user) ∷ [])
      ∙ ap (λ (frames : List (List ℕ)). frames ++ frame_of (OfSync (welcome_told state user)) ∷ [])
      (map-append frame_of (map OfChannel channel_messages) (map OfSession all_sessions)
      ∙ ap (λ (frames : List (List ℕ)). frames ++ map frame_of (map OfSession all_sessions)) channels_framed
      ∙ ap (λ (frames : List (List ℕ)). (map channel_frame (tree_told state.tree) ++ map channel_frame (all_links_told state.tree)) ++ frames) sessions_framed)
      ∙ ap (λ (last : List ℕ). ((map channel_frame (tree_told state.tree) ++ map channel_frame (all_links_told state.tree)) ++ map (λ other. user_frame (user_told state.roster other)) state.roster.sessions) ++ last ∷ [])
      (sync_framed (welcome_told state user))

  pub block_framed : (user : User) → map frame_of (messages user) ≡ sync_frames state user
  block_framed user =
      ap (λ (first : List ℕ). first ∷ frame_of (OfCodecs server_codecs) ∷ map frame_of (map OfChannel channel_messages ++ map OfSession all_sessions ++ OfSync (welcome_told state user) ∷ []))
      (version_framed server_version)
      ∙ ap (λ (second : List ℕ). version_frame server_version ∷ second ∷ map frame_of (map OfChannel channel_messages ++ map OfSession all_sessions ++ OfSync (welcome_told state user) ∷ []))
      (codecs_framed server_codecs)
      ∙ ap (λ (rest : List (List ℕ)). version_frame server_version ∷ codecs_frame server_codecs ∷ rest) (rest_framed user)

  own_frames : (session : SessionId) (user : User) → has_number session user ≡ true → (frames : List (List ℕ)) → frames_to session (map (λ frame. parcel frame user) frames) ≡ frames
  own_frames session user own [] = refl
  own_frames session user own (frame ∷ frames) = rw own (ap (λ (rest : List (List ℕ)). frame ∷ rest) (own_frames session user own frames))

  block_heard : (user : User) → all_heard nothing (messages user) ≡ public state
  block_heard user =
      let tree : IsKnownTree state.tree (told_channels channel_messages (λ id. None)) (told_links channel_messages (λ one other. false)) = sync_tree state proper in
      let m1 : List Message = map OfChannel channel_messages in
      let m2 : List Message = map OfSession all_sessions in
      fold-append heard nothing (m1 ++ m2) (OfSync (welcome_told state user) ∷ [])
      ∙ fold-append heard nothing m1 m2
      ∙ ap (λ known. all_heard known m2) (heard_channels channel_messages nothing)
      ∙ heard_sessions all_sessions (record nothing { channels = told_channels channel_messages (λ id. None); links = told_links channel_messages (λ one other. false) })
      ∙ (λ i. record {
        channels = tree.channels_are i;
        links = tree.links_are i;
        sessions = fun_ext sessions_at i;
        listening = fun_ext (λ number. fun_ext (listening_at number)) i;
      })
    where
      sessions_at : (number : ℕ) → told_sessions all_sessions (λ session. None) number ≡ (public state).sessions number
      sessions_at number = told_session number all_sessions (λ session. None) ∙ session_known (numbered_session number)

      listening_at : (number channel : ℕ) → told_listening all_sessions (λ session one. false) number channel ≡ (public state).listening number channel
      listening_at number channel = told_listens number channel all_sessions (λ session one. false) ∙ listens_known (numbered_session number) (numbered_channel channel)

  pub block_brings : (session : SessionId) (user : User) → session_of state.roster session ≡ Some user → Brings session (sync_block state session) nothing (public state)
  block_brings session user is = (messages user, framed, block_heard user)
    where
      framed : map frame_of (messages user) ≡ frames_to session (sync_block state session)
      framed =
          block_framed user
          ∙ sym (ap (λ (found : Option User). frames_to session (flat_map (sync_parcels state) (given found))) is
          ∙ ap (frames_to session) (append-nil (sync_parcels state user)) ∙ own_frames session user (found_passes (has_number session) state.roster.sessions user is) (sync_frames state user))
