-- A newcomer is sent what is due to it, and the others are sent that it came.
use Rattle.mum_client_laws.proofs.Common.{◌≡◌, ℕ, zero, suc, Bool, true, false, not, cond, List, [], ◌∷◌, ◌++◌, map, Option, Some, None, refl, ap, sym, ◌∙◌, subst, true≢false, filter, flat_map, is_some, option_map, append-nil, map-append, flat_map_single, ChannelId, SessionId, ROOT, ChannelState, UserState, is_there, row_of, Pair, partners, starts_at, Row, PATH_LIMIT, number_found, session_of, has_number, User, is_empty, given, actor_from, granted_to, IsProper, StateValue, Each, each_append, each_filter, each_so, map_twice, channel_ids, channel_of, channel_told, children, family, has_links, if_it_tells, links_told, numbers, is_child, others, parcel, to_each, user_frame, all_links_told, sync_block, sync_parcels, tree_order, tree_told, welcome_told, user_told, Notice, root_there, frame_of, Message, OfChannel, OfSession, OfSync, has_any, AboutChannel, AboutCodecs, AboutLinks, AboutSession, AboutVersion, AboutWelcome, AreExactly, Due, Subject, all_channels, due_of_join, due_to, due_to_newcomer, has_link, subject_of, about_welcome, unless_empty, with_all_below, Actor}
use Rattle.mum_client_laws.proofs.{Exactly.every, Exactly.exactly_both, Exactly.exactly_each, Exactly.frame_meets, Exactly.pieces_kept, Framed.session_framed, GoneDue.ids_there, Newcomers.all_sessions, Newcomers.block_framed, Newcomers.channel_messages, Newcomers.messages, Newcomers.number_of, Newcomers.own_rows, SessionsDue.some_in, SessionsDue.some_kept}

-- ---- the order of channels

flat_alike : {X Y : Type 0} (f g : X → List Y) → ((x : X) → f x ≡ g x) → (xs : List X) → flat_map f xs ≡ flat_map g xs
flat_alike f g same [] = refl
flat_alike f g same (x ∷ xs) = λ i. same x i ++ flat_alike f g same xs i

in_order : (state : StateValue) (levels : ℕ) (id : ChannelId) → family (children state.tree) levels id ≡ with_all_below state levels id
unfolding family with_all_below
in_order state zero id = refl
in_order state (suc levels) id =
    ap (λ (below : List ChannelId). id ∷ below) (flat_alike (family (children state.tree) levels) (with_all_below state levels) (in_order state levels) (children state.tree id))

each_flat : {X Y : Type 0} (P : X → Type 0) (Q : Y → Type 0) (f : X → List Y) → ((x : X) → P x → Each Q (f x)) → (xs : List X) → Each P xs → Each Q (flat_map f xs)
each_flat P Q f so [] all = tt
each_flat P Q f so (x ∷ xs) all = each_append Q (f x) (flat_map f xs) (so x all.0) (each_flat P Q f so xs all.1)

family_each : (P : ChannelId → Type 0) (kids : ChannelId → List ChannelId) → ((id : ChannelId) → Each P (kids id)) → (levels : ℕ) (id : ChannelId) → P id → Each P (family kids levels id)
unfolding family
family_each P kids all zero id here = tt
family_each P kids all (suc levels) id here = (here, each_flat P P (family kids levels) (family_each P kids all levels) (kids id) (all id))

has_any_is : (xs : List ℕ) → has_any xs ≡ not (is_empty xs)
has_any_is [] = refl
has_any_is (x ∷ xs) = sym (ap not (some_in x xs))

module _ (state : StateValue) (proper : IsProper state) where
  abbrev about : ChannelState → Subject
  about message = subject_of (OfChannel message)

  told_about : (id : ChannelId) → is_there state.tree.channels id ≡ true → map about (map channel_told (given (channel_of state.tree id))) ≡ AboutChannel (Some id.0) ∷ []
  told_about id there = of_row (row_of state.tree.channels id) refl there
    where
      of_row : (found : Option Row) → row_of state.tree.channels id ≡ found → is_some found ≡ true
          → map about (map channel_told (given (option_map (λ (row : Row). row.channel) found))) ≡ AboutChannel (Some id.0) ∷ []
      of_row None is some = absurd (true≢false (sym some))
      of_row (Some row) is some = ap (λ n. AboutChannel (Some n) ∷ []) (number_found state.tree.channels id row is)

  all_there : Each (λ id. is_there state.tree.channels id ≡ true) (tree_order state.tree)
  all_there =
      family_each (λ id. is_there state.tree.channels id ≡ true) (children state.tree)
      (λ id. each_filter (λ one. is_there state.tree.channels one ≡ true) (is_child state.tree id) (channel_ids state.tree) (ids_there state.tree.channels)) PATH_LIMIT ROOT (root_there state proper)

  channels_about : map about (tree_told state.tree) ≡ map (λ (id : ChannelId). AboutChannel (Some id.0)) (with_all_below state PATH_LIMIT ROOT)
  channels_about =
      pieces_kept about (λ id. map channel_told (given (channel_of state.tree id))) (λ id. AboutChannel (Some id.0)) (λ id. true) (tree_order state.tree)
      (each_so (λ id. is_there state.tree.channels id ≡ true) (λ id. map about (map channel_told (given (channel_of state.tree id))) ≡ AboutChannel (Some id.0) ∷ []) told_about (tree_order state.tree) all_there)
      ∙ ap (map (λ (id : ChannelId). AboutChannel (Some id.0))) (all_kept (tree_order state.tree) ∙ in_order state PATH_LIMIT ROOT)
    where
      all_kept : (ids : List ChannelId) → filter (λ id. true) ids ≡ ids
      all_kept [] = refl
      all_kept (id ∷ ids) = ap (λ (rest : List ChannelId). id ∷ rest) (all_kept ids)

  some_link : (id : ChannelId) → not (is_empty (numbers (partners state.tree id))) ≡ has_link state.tree id
  some_link id =
      ap (λ (list : List ℕ). not (is_empty list)) (map_twice (λ (one : ChannelId). one.0) (λ (pair : Pair). pair.1) (filter (starts_at id) state.tree.links))
      ∙ some_kept (λ (pair : Pair). pair.1.0) (starts_at id) state.tree.links

  links_said : (id : ChannelId) → map about (if_it_tells has_links (links_told state.tree id)) ≡ cond (has_link state.tree id) (AboutLinks (Some id.0) ∷ []) []
  links_said id = step (has_links (links_told state.tree id)) refl ∙ ap (λ (b : Bool). cond {A = List Subject} b (AboutLinks (Some id.0) ∷ []) []) (some_link id)
    where
      step : (b : Bool) → has_links (links_told state.tree id) ≡ b → map about (cond {A = List ChannelState} b (links_told state.tree id ∷ []) []) ≡ cond b (AboutLinks (Some id.0) ∷ []) []
      step true some =
          ap (λ (b : Bool). cond {A = Subject} b (AboutLinks (Some id.0)) (AboutChannel (Some id.0)) ∷ []) (has_any_is (numbers (partners state.tree id)) ∙ some)
      step false none = refl

  links_about : map about (all_links_told state.tree) ≡ map (λ (id : ChannelId). AboutLinks (Some id.0)) (filter (has_link state.tree) (all_channels state))
  links_about =
      pieces_kept about (λ id. if_it_tells has_links (links_told state.tree id)) (λ id. AboutLinks (Some id.0)) (has_link state.tree) (all_channels state) (every (λ id. map about (if_it_tells has_links (links_told state.tree id)) ≡ cond (has_link state.tree id) (AboutLinks (Some id.0) ∷ []) []) links_said (all_channels state))

  sessions_about : map subject_of (map OfSession (all_sessions state proper)) ≡ map (λ user. AboutSession (Some user.session.0) None false) state.roster.sessions
  sessions_about =
      ap (λ (list : List UserState). map subject_of (map OfSession list)) (flat_map_single (user_told state.roster) state.roster.sessions)
      ∙ map_twice subject_of OfSession (map (user_told state.roster) state.roster.sessions)
      ∙ map_twice (λ message. subject_of (OfSession message)) (user_told state.roster) state.roster.sessions

  trees_about : map subject_of (map OfChannel (channel_messages state proper))
      ≡ map (λ (id : ChannelId). AboutChannel (Some id.0)) (with_all_below state PATH_LIMIT ROOT) ++ map (λ (id : ChannelId). AboutLinks (Some id.0)) (filter (has_link state.tree) (all_channels state))
  trees_about =
      map_twice subject_of OfChannel (channel_messages state proper) ∙ map-append about (tree_told state.tree) (all_links_told state.tree) ∙ (λ i. channels_about i ++ links_about i)

  welcome_about : (session : SessionId) (user : User) → session_of state.roster session ≡ Some user
      → subject_of (OfSync (welcome_told state user)) ≡ about_welcome state session
  welcome_about session user is =
      (λ i. AboutWelcome (Some (number_of state proper session user is i).0) (Some state.server.bandwidth) (unless_empty state.server.welcome) (Some (granted_to state (actor_from state.tree user) ROOT)))
      ∙ ap (AboutWelcome (Some session.0) (Some state.server.bandwidth) (unless_empty state.server.welcome))
      (sym (ap (λ (b : Bool). option_map (λ who. granted_to state who ROOT) (cond {A = Option Actor} b (option_map (actor_from state.tree) (session_of state.roster session)) None)) (root_there state proper)
      ∙ ap (λ (found : Option User). option_map (λ who. granted_to state who ROOT) (option_map (actor_from state.tree) found)) is))

  all_about : (session : SessionId) (user : User) → session_of state.roster session ≡ Some user → map subject_of (messages state proper user) ≡ due_to_newcomer state session
  all_about session user is =
      ap (λ (rest : List Subject). AboutVersion ∷ AboutCodecs ∷ rest)
      (map-append subject_of (map OfChannel (channel_messages state proper) ++ map OfSession (all_sessions state proper)) (OfSync (welcome_told state user) ∷ [])
      ∙ ap (λ (front : List Subject). front ++ subject_of (OfSync (welcome_told state user)) ∷ []) (map-append subject_of (map OfChannel (channel_messages state proper)) (map OfSession (all_sessions state proper)))
      ∙ (λ i. trees_about i ++ sessions_about i ++ welcome_about session user is i ∷ []))

  -- all that there is, to the newcomer
  block_due : (session : SessionId) (user : User) → session_of state.roster session ≡ Some user
      → AreExactly (sync_block state session) (flat_map (λ about. map (due_to about) (filter (has_number session) state.roster.sessions)) (due_to_newcomer state session))
  block_due session user is =
      let send : Message → Notice = λ message. parcel (frame_of message) user in
      let want : Message → Due = λ message. due_to (subject_of message) user in
      let sent : sync_block state session ≡ map send (messages state proper user) =
      ap (λ (found : Option User). flat_map (sync_parcels state) (given found)) is ∙ append-nil (sync_parcels state user)
      ∙ ap (map (λ frame. parcel frame user)) (sym (block_framed state proper user)) ∙ map_twice (λ frame. parcel frame user) frame_of (messages state proper user) in
      let wanted : map want (messages state proper user) ≡ flat_map (λ about. map (due_to about) (filter (has_number session) state.roster.sessions)) (due_to_newcomer state session) =
      sym (map_twice (λ subject. due_to subject user) subject_of (messages state proper user)) ∙ ap (map (λ subject. due_to subject user)) (all_about session user is)
      ∙ sym (flat_map_single (λ subject. due_to subject user) (due_to_newcomer state session))
      ∙ ap (λ (users : List User). flat_map (λ about. map (due_to about) users) (due_to_newcomer state session)) (sym (own_rows state proper session ∙ ap given is)) in
      subst (λ (notices : List Notice). AreExactly notices (flat_map (λ about. map (due_to about) (filter (has_number session) state.roster.sessions)) (due_to_newcomer state session))) (sym sent)
      (subst (AreExactly (map send (messages state proper user))) wanted
      (exactly_each send want (λ message. frame_meets (frame_of message) message refl user) (messages state proper user)))

  others_due : (session : SessionId) (user : User) → session_of state.roster session ≡ Some user
      → AreExactly (flat_map (λ one. to_each (others state session) (user_frame (user_told state.roster one))) (given (session_of state.roster session)))
      (map (due_to (AboutSession (Some session.0) None false)) (filter (λ one. not (has_number session one)) state.roster.sessions))
  others_due session user is =
      let message : UserState = user_told state.roster user in
      let sent : flat_map (λ one. to_each (others state session) (user_frame (user_told state.roster one))) (given (session_of state.roster session)) ≡ to_each (others state session) (user_frame message) =
      ap (λ (found : Option User). flat_map (λ one. to_each (others state session) (user_frame (user_told state.roster one))) (given found)) is
      ∙ append-nil (to_each (others state session) (user_frame message)) in
      subst (λ (notices : List Notice). AreExactly notices (map (due_to (AboutSession (Some session.0) None false)) (others state session))) (sym sent)
      (subst (λ (one : SessionId). AreExactly (to_each (others state session) (user_frame message)) (map (due_to (AboutSession (Some one.0) None false)) (others state session))) (number_of state proper session user is)
      (exactly_each (parcel (user_frame message)) (due_to (AboutSession (Some user.session.0) None false)) (frame_meets (user_frame message) (OfSession message) (session_framed message)) (others state session)))

  -- the notices of an arrival
  pub join_due : (session : SessionId) (user : User) → session_of state.roster session ≡ Some user
      → AreExactly (sync_block state session ++ flat_map (λ one. to_each (others state session) (user_frame (user_told state.roster one))) (given (session_of state.roster session))) (due_of_join state session)
  join_due session user is =
      exactly_both (sync_block state session) (flat_map (λ one. to_each (others state session) (user_frame (user_told state.roster one))) (given (session_of state.roster session)))
      (flat_map (λ about. map (due_to about) (filter (has_number session) state.roster.sessions)) (due_to_newcomer state session))
      (map (due_to (AboutSession (Some session.0) None false)) (filter (λ one. not (has_number session one)) state.roster.sessions))
      (block_due session user is) (others_due session user is)
