-- The notices of each edit are exactly those that are due.
use Rattle.mum_client_laws.proofs.Common.{◌≡◌, ℕ, Bool, true, false, cond, List, [], ◌∷◌, ◌++◌, map, Option, Some, None, refl, ap, sym, ◌∙◌, subst, ◌<◌, zero, suc, length, get_or, arith, Contains, filter, option_map, eq-eqb, both_ways, append-nil, All-contains_itself, SessionId, Actor, is_there, Channel, session_of, has_number, User, applied, fits, given, actor_from, granted_to, perm_of, IsProper, StateValue, Edit, EditChannel, Join, Kick, Leave, MakeChannel, RemoveChannel, SetAcl, SetTokens, SetUser, Text, Each, each_both, each_from_all, each_passes, each_so, none_found, fit_proper, session_alone, channel_changes_told, channel_told, new_channels_told, channel_gone, channels_gone, departure, last_parcel, user_kicked, user_left, arrival, closes, notices, all_to_each, channel_frame, channel_gone_frame, text_frame, to_each, user_frame, user_gone_frame, parcel, permission_parcel, permission_parcels, permissions_told, text_parcels, text_told, said_if_set, user_changes_told, Notice, OfChannel, OfPermissions, OfSessionGone, OfText, AboutChannel, AboutPermissions, AboutSessionGone, AreExactly, Due, Meets, NothingElseIsSent, changed_channels, changed_sessions, due_of_join, due_of_kick, due_of_policy, due_text, due_to, due_to_all, gone_channels, is_meant, unless_empty, Slot, AccountId, ChannelId, ChannelInfo}
use Rattle.mum_client_laws.proofs.{ChannelsAfter.is_made, ChannelsDue.channels_due, Exactly.exactly_each, Exactly.exactly_eight, Exactly.exactly_for, Exactly.exactly_to_all, Exactly.frame_meets, Framed.channel_framed, Framed.permissions_framed, Framed.session_gone_framed, Framed.text_framed, GoneDue.gone_due, Listening.found_row, Listening.joiner_here, NewcomerDue.join_due, SessionsDue.sessions_due}

-- ---- a session that goes

leave_due : (after : StateValue) (session : SessionId)
    → AreExactly (to_each after.roster.sessions (user_gone_frame (user_left session))) (due_to_all after (AboutSessionGone (Some session.0) None None None ∷ []))
leave_due after session =
    subst (λ (notices : List Notice). AreExactly notices (due_to_all after (AboutSessionGone (Some session.0) None None None ∷ []))) (append-nil (to_each after.roster.sessions (user_gone_frame (user_left session))))
    (exactly_to_all after user_gone_frame OfSessionGone session_gone_framed (user_left session ∷ []))

ban_said : (ban : Bool) → said_if_set ban ≡ cond ban (Some true) None
ban_said true = refl
ban_said false = refl

kick_due : (before : StateValue) (session actor : SessionId) (reason : List ℕ) (ban : Bool)
    → AreExactly (map (last_parcel session (user_gone_frame (user_kicked session actor reason ban))) before.roster.sessions) (map (due_of_kick session actor reason ban) before.roster.sessions)
kick_due before session actor reason ban =
    exactly_each (last_parcel session (user_gone_frame (user_kicked session actor reason ban))) (due_of_kick session actor reason ban) meets before.roster.sessions
  where
    meets : (user : User) → Meets (last_parcel session (user_gone_frame (user_kicked session actor reason ban)) user) (due_of_kick session actor reason ban user)
    meets user =
        let made : List ℕ → Notice = λ bytes. record { to = user.session; slot = user.slot; bytes = bytes; last = has_number session user } in (
          OfSessionGone (user_kicked session actor reason ban),
          ap (AboutSessionGone (Some session.0) (Some actor.0) (unless_empty reason)) (ban_said ban),
          ap made (sym (session_gone_framed (user_kicked session actor reason ban))),
        )

-- ---- a policy

each_contained : {X : Type 0} (P : X → Type 0) (xs : List X) (x : X) → Each P xs → Contains xs x → P x
each_contained P xs x all (k, within, at) = at_place P xs k x all within at
  where
    at_place : {X : Type 0} (P : X → Type 0) (xs : List X) (k : ℕ) (x : X) → Each P xs → k < length xs → get_or xs k x ≡ x → P x
    at_place P [] k x all within at = absurd (omega arith)
    at_place P (y ∷ ys) zero x all within at = subst P at all.0
    at_place P (y ∷ ys) (suc k) x all within at = at_place P ys k x all.1 (omega arith) at

found_itself : (state : StateValue) → IsProper state → Each (λ user. session_of state.roster user.session ≡ Some user) state.roster.sessions
found_itself state proper =
    each_so (Contains state.roster.sessions) (λ user. session_of state.roster user.session ≡ Some user) found state.roster.sessions
    (each_from_all (Contains state.roster.sessions) state.roster.sessions (All-contains_itself state.roster.sessions))
  where
    found : (user : User) → Contains state.roster.sessions user → session_of state.roster user.session ≡ Some user
    found user there = step (session_of state.roster user.session) refl
      where
        step : (one : Option User) → session_of state.roster user.session ≡ one → one ≡ Some user
        step None none =
            absurd (both_ways (has_number user.session user)
            (each_contained (λ (one : User). has_number user.session one ≡ false) state.roster.sessions user (none_found (has_number user.session) state.roster.sessions none) there)
            (eq-eqb user.session.0 user.session.0 refl))
        step (Some first) is =
            ap (λ (one : User). Some one)
            (sym (each_contained (λ (one : User). has_number user.session one ≡ true → one ≡ first) state.roster.sessions user (session_alone state user.session first proper is) there
            (eq-eqb user.session.0 user.session.0 refl)))

policy_due : (state : StateValue) → IsProper state → AreExactly (map (permission_parcel state) state.roster.sessions) (map (due_of_policy state) state.roster.sessions)
policy_due state proper =
    exactly_for (permission_parcel state) (due_of_policy state) state.roster.sessions
    (each_both (λ user. session_of state.roster user.session ≡ Some user) (λ user. is_there state.tree.channels user.channel ≡ true) (λ user. Meets (permission_parcel state user) (due_of_policy state user))
    meets state.roster.sessions (found_itself state proper) (each_passes (λ user. is_there state.tree.channels user.channel) state.roster.sessions proper.inside))
  where
    meets : (user : User) → session_of state.roster user.session ≡ Some user → is_there state.tree.channels user.channel ≡ true → Meets (permission_parcel state user) (due_of_policy state user)
    meets user is there =
        let held : Some (granted_to state (actor_from state.tree user) user.channel) ≡ perm_of state user.session user.channel =
        sym (ap (λ (b : Bool). option_map (λ who. granted_to state who user.channel) (cond {A = Option Actor} b (option_map (actor_from state.tree) (session_of state.roster user.session)) None)) there
        ∙ ap (λ (found : Option User). option_map (λ who. granted_to state who user.channel) (option_map (actor_from state.tree) found)) is) in
        let made : List ℕ → Notice = λ bytes. record { to = user.session; slot = user.slot; bytes = bytes; last = false } in
        (OfPermissions (permissions_told state user), ap (λ (o : Option ℕ). AboutPermissions (Some user.channel.0) o (Some true)) held, ap made (sym (permissions_framed (permissions_told state user))))

-- ---- each edit

-- in the eight parts of the notices, where what is due of each is given
in_parts : (state : StateValue) (edit : Edit) (a b c d e f g h : List Due) → let after : StateValue = applied state edit in
    let here : List User = after.roster.sessions in
    AreExactly (all_to_each here (map channel_frame (new_channels_told after edit))) a → AreExactly (all_to_each here (map channel_frame (channel_changes_told state edit after))) b
    → AreExactly (arrival after edit) c → AreExactly (all_to_each here (map user_frame (user_changes_told state edit after (closes state edit after)))) d
    → AreExactly (all_to_each here (map (λ id. channel_gone_frame (channel_gone id)) (channels_gone state edit after))) e → AreExactly (departure state edit after) f
    → AreExactly (text_parcels after edit) g → AreExactly (permission_parcels after edit) h
    → AreExactly (notices state edit after) (a ++ b ++ c ++ d ++ e ++ f ++ g ++ h)
in_parts state edit a b c d e f g h =
    let after : StateValue = applied state edit in
    let here : List User = after.roster.sessions in
    exactly_eight (all_to_each here (map channel_frame (new_channels_told after edit))) (all_to_each here (map channel_frame (channel_changes_told state edit after))) (arrival after edit)
    (all_to_each here (map user_frame (user_changes_told state edit after (closes state edit after)))) (all_to_each here (map (λ id. channel_gone_frame (channel_gone id)) (channels_gone state edit after)))
    (departure state edit after) (text_parcels after edit) (permission_parcels after edit) a b c d e f g h

join_part : (state : StateValue) (session : SessionId) (slot : Slot) (name : List ℕ) (account : Option AccountId) (tokens : List (List ℕ)) → let join : Edit = Join session slot name account tokens in
    IsProper state → fits state join ≡ true → AreExactly (arrival (applied state join) join) (due_of_join (applied state join) session)
join_part state session slot name account tokens proper fit =
    let join : Edit = Join session slot name account tokens in
    let (user, is) = found_row (applied state join) session (joiner_here state session slot name account tokens fit) in
    join_due (applied state join) (fit_proper state join proper fit).1 session user is

made_due : (state : StateValue) (id parent : ChannelId) (name : List ℕ) (temporary : Bool) (info : ChannelInfo) (maker : Option SessionId) → let making : Edit = MakeChannel id parent name temporary info maker in
    IsProper state → fits state making ≡ true
    → AreExactly (all_to_each (applied state making).roster.sessions (map channel_frame (new_channels_told (applied state making) making))) (due_to_all (applied state making) (AboutChannel (Some id.0) ∷ []))
made_due state id parent name temporary info maker proper fit =
    let making : Edit = MakeChannel id parent name temporary info maker in
    let after : StateValue = applied state making in
    let channel : Channel = record { id = id; parent = parent; name = name; temporary = temporary; info = info } in
    subst (λ (found : Option Channel). AreExactly (all_to_each after.roster.sessions (map channel_frame (map channel_told (given found)))) (due_to_all after (AboutChannel (Some id.0) ∷ [])))
    (sym (is_made state id parent name temporary info maker proper fit))
    (exactly_to_all after channel_frame OfChannel channel_framed (channel_told channel ∷ []))

text_due : (after : StateValue) (actor : SessionId) (sessions : List SessionId) (channels trees : List ChannelId) (message : List ℕ)
    → AreExactly (text_parcels after (Text actor sessions channels trees message)) (map (due_to (due_text actor sessions channels trees message)) (filter (is_meant after actor sessions channels trees) after.roster.sessions))
text_due after actor sessions channels trees message =
    let told = text_told actor sessions channels trees message in
    exactly_each (parcel (text_frame told)) (due_to (due_text actor sessions channels trees message)) (frame_meets (text_frame told) (OfText told) (text_framed told))
    (filter (is_meant after actor sessions channels trees) after.roster.sessions)

three_behind : (xs : List Due) → xs ++ [] ++ [] ++ [] ≡ xs
three_behind xs = append-nil (xs ++ [] ++ []) ∙ append-nil (xs ++ []) ∙ append-nil xs

pub nothing_else_is_sent_lem : NothingElseIsSent
nothing_else_is_sent_lem state (Join session slot name account tokens) proper fit =
    let join : Edit = Join session slot name account tokens in
    let c : List Due = due_of_join (applied state join) session in
    subst (AreExactly (notices state join (applied state join))) (append-nil (c ++ [] ++ [] ++ [] ++ []) ∙ append-nil (c ++ [] ++ [] ++ []) ∙ three_behind c)
    (in_parts state join [] [] c [] [] [] [] [] tt tt (join_part state session slot name account tokens proper fit) tt tt tt tt tt)
nothing_else_is_sent_lem state (Leave session) proper fit =
    let edit : Edit = Leave session in
    let after : StateValue = applied state edit in
    let all : List Due = changed_sessions None state after ++ gone_channels state after ++ due_to_all after (AboutSessionGone (Some session.0) None None None ∷ []) in
    subst (AreExactly (notices state edit after)) (append-nil (all ++ []) ∙ append-nil all)
    (in_parts state edit [] [] [] (changed_sessions None state after) (gone_channels state after) (due_to_all after (AboutSessionGone (Some session.0) None None None ∷ [])) [] []
    tt tt tt (sessions_due state edit proper fit) (gone_due state edit proper fit) (leave_due after session) tt tt)
nothing_else_is_sent_lem state (Kick session actor reason ban) proper fit =
    let edit : Edit = Kick session actor reason ban in
    let after : StateValue = applied state edit in
    let all : List Due = changed_sessions (Some actor) state after ++ gone_channels state after ++ map (due_of_kick session actor reason ban) state.roster.sessions in
    subst (AreExactly (notices state edit after)) (append-nil (all ++ []) ∙ append-nil all)
    (in_parts state edit [] [] [] (changed_sessions (Some actor) state after) (gone_channels state after) (map (due_of_kick session actor reason ban) state.roster.sessions) [] []
    tt tt tt (sessions_due state edit proper fit) (gone_due state edit proper fit) (kick_due state session actor reason ban) tt tt)
nothing_else_is_sent_lem state (MakeChannel id parent name temporary info maker) proper fit =
    let edit : Edit = MakeChannel id parent name temporary info maker in
    let after : StateValue = applied state edit in
    let a : List Due = due_to_all after (AboutChannel (Some id.0) ∷ []) in
    let all : List Due = a ++ changed_sessions None state after ++ gone_channels state after in
    subst (AreExactly (notices state edit after))
    (three_behind ((a ++ [] ++ []) ++ changed_sessions None state after ++ gone_channels state after)
    ∙ ap (λ (front : List Due). front ++ changed_sessions None state after ++ gone_channels state after) (append-nil (a ++ []) ∙ append-nil a))
    (in_parts state edit a [] [] (changed_sessions None state after) (gone_channels state after) [] [] []
    (made_due state id parent name temporary info maker proper fit) tt tt (sessions_due state edit proper fit) (gone_due state edit proper fit) tt tt tt)
nothing_else_is_sent_lem state (EditChannel id actor name parent description position max_users links_add links_remove) proper fit =
    let edit : Edit = EditChannel id actor name parent description position max_users links_add links_remove in
    let after : StateValue = applied state edit in
    let b : List Due = changed_channels state after in
    subst (AreExactly (notices state edit after)) (three_behind (b ++ [] ++ [] ++ []) ∙ three_behind b)
    (in_parts state edit [] b [] [] [] [] [] [] tt (channels_due state id actor name parent description position max_users links_add links_remove proper fit) tt tt tt tt tt tt)
nothing_else_is_sent_lem state (RemoveChannel id actor) proper fit =
    let edit : Edit = RemoveChannel id actor in
    let after : StateValue = applied state edit in
    subst (AreExactly (notices state edit after)) (three_behind (changed_sessions (Some actor) state after ++ gone_channels state after))
    (in_parts state edit [] [] [] (changed_sessions (Some actor) state after) (gone_channels state after) [] [] []
    tt tt tt (sessions_due state edit proper fit) (gone_due state edit proper fit) tt tt tt)
nothing_else_is_sent_lem state (SetUser session actor channel mute deaf clear_suppress priority self_mute self_deaf recording comment context listen unlisten) proper fit =
    let edit : Edit = SetUser session actor channel mute deaf clear_suppress priority self_mute self_deaf recording comment context listen unlisten in
    let after : StateValue = applied state edit in
    subst (AreExactly (notices state edit after)) (three_behind (changed_sessions (Some actor) state after ++ gone_channels state after))
    (in_parts state edit [] [] [] (changed_sessions (Some actor) state after) (gone_channels state after) [] [] []
    tt tt tt (sessions_due state edit proper fit) (gone_due state edit proper fit) tt tt tt)
nothing_else_is_sent_lem state (SetTokens session tokens) proper fit =
    let edit : Edit = SetTokens session tokens in
    let after : StateValue = applied state edit in
    let d : List Due = changed_sessions None state after in
    subst (AreExactly (notices state edit after)) (append-nil (d ++ [] ++ [] ++ []) ∙ three_behind d)
    (in_parts state edit [] [] [] d [] [] [] [] tt tt tt (sessions_due state edit proper fit) tt tt tt tt)
nothing_else_is_sent_lem state (SetAcl channel actor policy) proper fit =
    let edit : Edit = SetAcl channel actor policy in
    let after : StateValue = applied state edit in
    let d : List Due = changed_sessions actor state after in
    let h : List Due = map (due_of_policy after) after.roster.sessions in
    subst (AreExactly (notices state edit after)) (ap (λ (front : List Due). front ++ h) (three_behind d))
    (in_parts state edit [] [] [] d [] [] [] h tt tt tt (sessions_due state edit proper fit) tt tt tt (policy_due after (fit_proper state edit proper fit).1))
nothing_else_is_sent_lem state (Text actor sessions channels trees message) proper fit =
    let edit : Edit = Text actor sessions channels trees message in
    let after : StateValue = applied state edit in
    let g : List Due = map (due_to (due_text actor sessions channels trees message)) (filter (is_meant after actor sessions channels trees) after.roster.sessions) in
    subst (AreExactly (notices state edit after)) (append-nil g)
    (in_parts state edit [] [] [] [] [] [] g [] tt tt tt tt tt tt (text_due after actor sessions channels trees message) tt)
nothing_else_is_sent_lem state edit proper fit = tt
