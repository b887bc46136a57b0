-- What an accepted kick, a UserState that listens and a text show of the permissions of whoever sent them.
use Rattle.mum_command_laws.proofs.Common.{◌≡◌, ℕ, ◌||◌, Bool, true, false, true≢false, not, cond, List, [], ◌∷◌, ◌++◌, length, map, Option, Some, None, refl, ap, sym, ◌∙◌, subst, arith, ⊎_elim, All, cons_option, filter, option_map, option_map_or, cases_Bool, eqb-true, ne_eqb, not-false, or_parts, All-append, All-cons, All-head, All-nil, All-tail, reason_code, ChannelId, SessionId, ROOT, NotThere, BAN, KICK, LISTEN, TEXT_MESSAGE, TextMessage, UserRemove, UserState, Actor, is_there, session_of, RosterState, User, is_empty, granted_where_there, StateValue, Edit, Kicks, SetUser, SendsText, Accepted, Answer, Ignored, channel, is_number_there, first_lack, first_standing, need, way, AllMet, all_off, outcome_at, all_met_where, channels, channels_of, channels_there, channels_told, is_here, is_oneself, session_numbered, session_or, sets_own, needs_to_listen, needs_to_rule_speech, edit_to_kick, edit_to_tell, reasons, actor_for, user_verdict, UserMessage, Join, Changes, Kick, Text, Target, Query, Leave, leaves_own_to_others_lem, clear, KicksWherePermitted, ListensWherePermitted, TextsWherePermitted, may_by}
use Rattle.mum_rules_user.specs.{Asked.command_of, Asked.names_there, Laws.needs_of, Limits.limits, Needs.needs_to_move, Outcome.answer_frame, Outcome.edit_to_change, Outcome.outcome}
use Rattle.mum_command_laws.proofs.MetNeeds.{each_open, either_open, first_part, one_open, others_met, rest_met, second_part}

-- ---- what is accepted is what its command comes to, no reason is against it, and each of its needs is met

record IsAccepted (state : StateValue) (actor : SessionId) (message : UserMessage) (edit : Edit) : Type 0 where
  named : names_there state message ≡ true
  met : AllMet state (needs_of state actor message)
  same : outcome state (actor_for state actor message) actor (command_of actor message) ≡ Accepted edit

accepted : (state : StateValue) (actor : SessionId) (message : UserMessage) (edit : Edit) → user_verdict state (Some actor) message ≡ Accepted edit
    → IsAccepted state actor message edit
accepted state actor message edit is =
    let command = command_of actor message in
    let free = clear state actor message edit is in
    let (met, rest) = outcome_at (first_standing (reasons state (Some actor) message)) (first_lack state (needs_of state actor message))
    (first_standing (limits state actor command)) (outcome state (actor_for state actor message) actor command) edit is in record {
      named = not-false (names_there state message) (all_off (reasons state (Some actor) message) free.reasons).1.1.1.0;
      met = all_met_where state (needs_of state actor message) met;
      same = rest;
    }

query_edits_nothing : (id : ChannelId) (held : Option ℕ) (edit : Edit)
    → option_map_or (λ h. Answer (answer_frame id h)) held (Ignored (reason_code NotThere)) ≡ Accepted edit → ⊥
query_edits_nothing id None edit is = cc
query_edits_nothing id (Some held) edit is = cc

same_edit : (one other : Edit) → Accepted one ≡ Accepted other → one ≡ other
same_edit one other is = cc

same_session : (one other : SessionId) → one.0 ≡ other.0 → one ≡ other
same_session one other same = ap session_numbered same

-- ---- kicking

abbrev session_kicked : Edit → ℕ
session_kicked (Kicks session by reason ban) = session.0
session_kicked edit = 0

abbrev kicked_by : Edit → SessionId
kicked_by (Kicks session by reason ban) = by
kicked_by edit = session_numbered 0

abbrev is_banned : Edit → Bool
is_banned (Kicks session by reason ban) = ban
is_banned edit = false

abbrev is_kick : Edit → Bool
is_kick (Kicks session by reason ban) = true
is_kick edit = false

-- the message is a kick, and this is its edit
kick_asked : (state : StateValue) (who : Actor) (actor : SessionId) (message : UserMessage) (edit : Edit) → is_kick edit ≡ true
    → outcome state who actor (command_of actor message) ≡ Accepted edit
    → (named : UserRemove) × (message ≡ Kick named) × (edit_to_kick actor (session_or actor named.session) named ≡ edit)
kick_asked state who actor (Join login version) edit kick is =
    let no : true ≡ false = sym kick ∙ ap is_kick (sym (same_edit _ edit is)) in cc
kick_asked state who actor (Changes message) edit kick is =
    let no : true ≡ false = sym kick ∙ ap is_kick (sym (same_edit _ edit is)) in cc
kick_asked state who actor (Kick message) edit kick is = (message, refl, same_edit _ edit is)
kick_asked state who actor (Text message) edit kick is =
    let no : true ≡ false = sym kick ∙ ap is_kick (sym (same_edit _ edit is)) in cc
kick_asked state who actor (Target message) edit kick is =
    let no : true ≡ false = sym kick ∙ ap is_kick (sym (same_edit _ edit is)) in cc
kick_asked state who actor (Query message) edit kick is = absurd (query_edits_nothing _ (granted_where_there state who _) edit is)
kick_asked state who actor Leave edit kick is =
    let no : true ≡ false = sym kick ∙ ap is_kick (sym (same_edit _ edit is)) in cc

-- a kick names somebody
named_here : (roster : RosterState) (actor : SessionId) (number : Option ℕ) (session : ℕ) → option_map_or (is_here roster) number false ≡ true
    → (session_or actor number).0 ≡ session → number ≡ Some session
named_here roster actor None session here same = cc
named_here roster actor (Some number) session here same = ap (λ (n : ℕ). Some n) same

pub kicks_where_permitted_lem : KicksWherePermitted
kicks_where_permitted_lem state actor message session by reason ban is =
    let edit = Kicks session by reason ban in
    let all = accepted state actor message edit is in
    let (named, kick, same) = kick_asked state (actor_for state actor message) actor message edit refl all.same in
    let here : option_map_or (is_here state.roster) named.session false ≡ true = subst (λ (m : UserMessage). names_there state m ≡ true) kick all.named in
    let who = actor_for state actor message in
    let met = subst (λ (m : UserMessage). AllMet state (needs_of state actor m)) kick all.met in
    let open_to : (UserMessage → Bool) = λ m. may_by state actor m KICK ROOT || may_by state actor m BAN ROOT in (
      sym (ap kicked_by same),
      (named, kick, named_here state.roster actor named.session session.0 here (ap session_kicked same)),
      ap open_to kick
          ∙ either_open state (way (actor_for state actor (Kick named)) KICK ROOT) (way (actor_for state actor (Kick named)) BAN ROOT) _ met,
      λ (banned : ban ≡ true).
          ap (λ (m : UserMessage). may_by state actor m BAN ROOT) kick
          ∙ one_open state (actor_for state actor (Kick named)) BAN ROOT []
          (subst (λ (b : Bool). AllMet state (cond b (need (actor_for state actor (Kick named)) BAN ROOT ∷ []) [])) (ap is_banned same ∙ banned)
          (rest_met state _ _ met)),
    )

-- ---- listening

abbrev session_changed : Edit → SessionId
session_changed (SetUser session by channel mute deaf clear priority self_mute self_deaf recording comment context listen unlisten) = session
session_changed edit = session_numbered 0

abbrev changed_by : Edit → SessionId
changed_by (SetUser session by channel mute deaf clear priority self_mute self_deaf recording comment context listen unlisten) = by
changed_by edit = session_numbered 0

abbrev listens_to : Edit → List ChannelId
listens_to (SetUser session by channel mute deaf clear priority self_mute self_deaf recording comment context listen unlisten) = listen
listens_to edit = []

abbrev is_change : Edit → Bool
is_change (SetUser session by channel mute deaf clear priority self_mute self_deaf recording comment context listen unlisten) = true
is_change edit = false

-- the message is a UserState, and this is its edit
change_asked : (state : StateValue) (who : Actor) (actor : SessionId) (message : UserMessage) (edit : Edit) → is_change edit ≡ true
    → outcome state who actor (command_of actor message) ≡ Accepted edit
    → (asked : UserState) × (message ≡ Changes asked) × (edit_to_change state.roster actor (session_or actor asked.session) asked ≡ edit)
change_asked state who actor (Join login version) edit change is =
    let no : true ≡ false = sym change ∙ ap is_change (sym (same_edit _ edit is)) in cc
change_asked state who actor (Changes message) edit change is = (message, refl, same_edit _ edit is)
change_asked state who actor (Kick message) edit change is =
    let no : true ≡ false = sym change ∙ ap is_change (sym (same_edit _ edit is)) in cc
change_asked state who actor (Text message) edit change is =
    let no : true ≡ false = sym change ∙ ap is_change (sym (same_edit _ edit is)) in cc
change_asked state who actor (Target message) edit change is =
    let no : true ≡ false = sym change ∙ ap is_change (sym (same_edit _ edit is)) in cc
change_asked state who actor (Query message) edit change is = absurd (query_edits_nothing _ (granted_where_there state who _) edit is)
change_asked state who actor Leave edit change is =
    let no : true ≡ false = sym change ∙ ap is_change (sym (same_edit _ edit is)) in cc

not_empty : {X : Type 0} (x : X) (xs : List X) → is_empty (x ∷ xs) ≡ false
not_empty x xs = ne_eqb (length (x ∷ xs)) 0 (λ e. absurd (omega arith))

-- a UserState that asks to listen sets what each session sets for itself
listening_is_own : (asked : UserState) → sets_own asked ≡ false → is_empty asked.listening_channel_add ≡ true
listening_is_own asked off =
    not-false (is_empty asked.listening_channel_add) (or_parts _ (not (is_empty asked.listening_channel_add)) (or_parts _ _ off).0).1

-- so whoever listens is the actor
listener_is : (actor session : SessionId) (numbers : List ℕ) → (is_oneself actor session ≡ false → is_empty numbers ≡ true)
    → All (λ number. session ≡ actor) numbers
listener_is actor session [] own = All-nil (λ number. session ≡ actor)
listener_is actor session (number ∷ numbers) own =
    ⊎_elim
    (λ (on : is_oneself actor session ≡ true).
    All-cons (λ n. session ≡ actor) number numbers (sym (same_session actor session (eqb-true actor.0 session.0 on)))
    (listener_is actor session numbers (λ off. absurd (true≢false (sym on ∙ off)))))
    (λ (off : is_oneself actor session ≡ false). absurd (true≢false (sym (own off) ∙ not_empty number numbers)))
    (cases_Bool (is_oneself actor session))

each_listens : (session actor : SessionId) (test : ChannelId → Bool) (numbers : List ℕ) → All (λ number. session ≡ actor) numbers
    → All (λ there. test there ≡ true) (channels numbers) → All (λ there. (session ≡ actor) × (test there ≡ true)) (channels numbers)
each_listens session actor test [] own may = All-nil (λ there. (session ≡ actor) × (test there ≡ true))
each_listens session actor test (number ∷ numbers) own may =
    All-cons (λ there. (session ≡ actor) × (test there ≡ true)) (channel number) (channels numbers)
    (All-head (λ n. session ≡ actor) number numbers own, All-head (λ there. test there ≡ true) (channel number) (channels numbers) may)
    (each_listens session actor test numbers (All-tail (λ n. session ≡ actor) number numbers own)
    (All-tail (λ there. test there ≡ true) (channel number) (channels numbers) may))

listened : (state : StateValue) (actor : SessionId) (asked : UserState) (edit : Edit) → user_verdict state (Some actor) (Changes asked) ≡ Accepted edit
    → AllMet state (needs_of state actor (Changes asked))
    → All (λ there. (session_or actor asked.session ≡ actor) × (may_by state actor (Changes asked) LISTEN there ≡ true)) (channels asked.listening_channel_add)
listened state actor asked edit is met =
    let who = actor_for state actor (Changes asked) in
    let session = session_or actor asked.session in
    each_listens session actor (may_by state actor (Changes asked) LISTEN) asked.listening_channel_add
    (listener_is actor session asked.listening_channel_add (λ other. listening_is_own asked (leaves_own_to_others_lem state actor asked edit is other)))
    (each_open state who LISTEN (channels asked.listening_channel_add)
    (others_met state (needs_to_move state who actor session asked ++ needs_to_rule_speech state who session asked) (needs_to_listen who asked) met))

pub listens_where_permitted_lem : ListensWherePermitted
listens_where_permitted_lem state actor message session by channel mute deaf clear priority self_mute self_deaf recording comment context listen unlisten is =
    let edit = SetUser session by channel mute deaf clear priority self_mute self_deaf recording comment context listen unlisten in
    let all = accepted state actor message edit is in
    let (asked, change, same) = change_asked state (actor_for state actor message) actor message edit refl all.same in
    let met = subst (λ (m : UserMessage). AllMet state (needs_of state actor m)) change all.met in
    let said = subst (λ (m : UserMessage). user_verdict state (Some actor) m ≡ Accepted edit) change is in
    let listens = listened state actor asked edit said met in (
      sym (ap changed_by same),
      subst (λ (m : UserMessage). All (λ there. (session ≡ actor) × (may_by state actor m LISTEN there ≡ true)) listen) (sym change)
          (subst (λ (e : Edit). All (λ there. (session_changed e ≡ actor) × (may_by state actor (Changes asked) LISTEN there ≡ true)) (listens_to e)) same listens),
    )

-- ---- texts

abbrev sent_by : Edit → SessionId
sent_by (SendsText by sessions channels trees text) = by
sent_by edit = session_numbered 0

abbrev sessions_told : Edit → List SessionId
sessions_told (SendsText by sessions channels trees text) = sessions
sessions_told edit = []

abbrev places_told : Edit → List ChannelId
places_told (SendsText by sessions channels trees text) = channels ++ trees
places_told edit = []

abbrev is_text : Edit → Bool
is_text (SendsText by sessions channels trees text) = true
is_text edit = false

-- the message is a text, and this is its edit
text_asked : (state : StateValue) (who : Actor) (actor : SessionId) (message : UserMessage) (edit : Edit) → is_text edit ≡ true
    → outcome state who actor (command_of actor message) ≡ Accepted edit
    → (asked : TextMessage) × (message ≡ Text asked) × (edit_to_tell actor asked ≡ edit)
text_asked state who actor (Join login version) edit text is =
    let no : true ≡ false = sym text ∙ ap is_text (sym (same_edit _ edit is)) in cc
text_asked state who actor (Changes message) edit text is =
    let no : true ≡ false = sym text ∙ ap is_text (sym (same_edit _ edit is)) in cc
text_asked state who actor (Kick message) edit text is =
    let no : true ≡ false = sym text ∙ ap is_text (sym (same_edit _ edit is)) in cc
text_asked state who actor (Text message) edit text is = (message, refl, same_edit _ edit is)
text_asked state who actor (Target message) edit text is =
    let no : true ≡ false = sym text ∙ ap is_text (sym (same_edit _ edit is)) in cc
text_asked state who actor (Query message) edit text is = absurd (query_edits_nothing _ (granted_where_there state who _) edit is)
text_asked state who actor Leave edit text is =
    let no : true ≡ false = sym text ∙ ap is_text (sym (same_edit _ edit is)) in cc

module _ (state : StateValue) (test : ChannelId → Bool) where
  -- where each session that is named is
  at_sessions : (numbers : List ℕ) → All (λ there. test there ≡ true) (channels_of state.roster numbers)
      → All (λ session. (user : User) → session_of state.roster session ≡ Some user → test user.channel ≡ true) (map session_numbered numbers)
  at_sessions [] may = All-nil (λ session. (user : User) → session_of state.roster session ≡ Some user → test user.channel ≡ true)
  at_sessions (number ∷ numbers) may = one (session_of state.roster (session_numbered number)) refl (at_sessions numbers) may
    where
      one : (found : Option User) → session_of state.roster (session_numbered number) ≡ found
          → (All (λ there. test there ≡ true) (channels_of state.roster numbers)
          → All (λ session. (user : User) → session_of state.roster session ≡ Some user → test user.channel ≡ true) (map session_numbered numbers))
          → All (λ there. test there ≡ true) (cons_option (option_map (λ user. user.channel) found) (channels_of state.roster numbers))
          → All (λ session. (user : User) → session_of state.roster session ≡ Some user → test user.channel ≡ true) (map session_numbered (number ∷ numbers))
      one None found later rest =
          All-cons (λ session. (user : User) → session_of state.roster session ≡ Some user → test user.channel ≡ true)
          (session_numbered number) (map session_numbered numbers)
          (λ user is. absurd (cc (sym found ∙ is))) (later rest)
      one (Some here) found later rest =
          All-cons (λ session. (user : User) → session_of state.roster session ≡ Some user → test user.channel ≡ true)
          (session_numbered number) (map session_numbered numbers)
          (λ user is. let same : here ≡ user = cc (sym found ∙ is) in
          sym (ap (λ (u : User). test u.channel) same) ∙ All-head (λ there. test there ≡ true) here.channel (channels_of state.roster numbers) rest)
          (later (All-tail (λ there. test there ≡ true) here.channel (channels_of state.roster numbers) rest))

  -- in each channel that is named and is there
  in_channels : (numbers : List ℕ) → All (λ there. test there ≡ true) (channels_there state numbers)
      → All (λ place. is_there state.tree.channels place ≡ true → test place ≡ true) (channels numbers)
  in_channels [] may = All-nil (λ place. is_there state.tree.channels place ≡ true → test place ≡ true)
  in_channels (number ∷ numbers) may = one (is_number_there state.tree number) refl (in_channels numbers) may
    where
      one : (b : Bool) → is_number_there state.tree number ≡ b
          → (All (λ there. test there ≡ true) (channels_there state numbers)
          → All (λ place. is_there state.tree.channels place ≡ true → test place ≡ true) (channels numbers))
          → All (λ there. test there ≡ true) (channels (cond b (number ∷ filter (is_number_there state.tree) numbers) (filter (is_number_there state.tree) numbers)))
          → All (λ place. is_there state.tree.channels place ≡ true → test place ≡ true) (channels (number ∷ numbers))
      one false off later rest =
          All-cons (λ place. is_there state.tree.channels place ≡ true → test place ≡ true) (channel number) (channels numbers)
          (λ on. absurd (true≢false (sym on ∙ off))) (later rest)
      one true on later rest =
          All-cons (λ place. is_there state.tree.channels place ≡ true → test place ≡ true) (channel number) (channels numbers)
          (λ there. All-head (λ place. test place ≡ true) (channel number) (channels_there state numbers) rest)
          (later (All-tail (λ place. test place ≡ true) (channel number) (channels_there state numbers) rest))

module _ (state : StateValue) (actor : SessionId) (asked : TextMessage) (met : AllMet state (needs_of state actor (Text asked))) where
  each_may : All (λ there. may_by state actor (Text asked) TEXT_MESSAGE there ≡ true) (channels_told state asked)
  each_may = each_open state (actor_for state actor (Text asked)) TEXT_MESSAGE (channels_told state asked) met

  sessions_may : All (λ there. may_by state actor (Text asked) TEXT_MESSAGE there ≡ true) (channels_of state.roster asked.session)
  sessions_may =
      first_part (λ there. may_by state actor (Text asked) TEXT_MESSAGE there ≡ true) (channels_of state.roster asked.session) (channels_there state asked.channel_id)
      (first_part (λ there. may_by state actor (Text asked) TEXT_MESSAGE there ≡ true)
      (channels_of state.roster asked.session ++ channels_there state asked.channel_id) (channels_there state asked.tree_id) each_may)

  channels_may : All (λ there. may_by state actor (Text asked) TEXT_MESSAGE there ≡ true) (channels_there state asked.channel_id)
  channels_may =
      second_part (λ there. may_by state actor (Text asked) TEXT_MESSAGE there ≡ true) (channels_of state.roster asked.session) (channels_there state asked.channel_id)
      (first_part (λ there. may_by state actor (Text asked) TEXT_MESSAGE there ≡ true)
      (channels_of state.roster asked.session ++ channels_there state asked.channel_id) (channels_there state asked.tree_id) each_may)

  trees_may : All (λ there. may_by state actor (Text asked) TEXT_MESSAGE there ≡ true) (channels_there state asked.tree_id)
  trees_may =
      second_part (λ there. may_by state actor (Text asked) TEXT_MESSAGE there ≡ true)
      (channels_of state.roster asked.session ++ channels_there state asked.channel_id) (channels_there state asked.tree_id) each_may

  places_may : All (λ place. is_there state.tree.channels place ≡ true → may_by state actor (Text asked) TEXT_MESSAGE place ≡ true)
      (channels asked.channel_id ++ channels asked.tree_id)
  places_may =
      All-append (λ place. is_there state.tree.channels place ≡ true → may_by state actor (Text asked) TEXT_MESSAGE place ≡ true)
      (channels asked.channel_id) (channels asked.tree_id)
      (in_channels state (may_by state actor (Text asked) TEXT_MESSAGE) asked.channel_id channels_may)
      (in_channels state (may_by state actor (Text asked) TEXT_MESSAGE) asked.tree_id trees_may)

pub texts_where_permitted_lem : TextsWherePermitted
texts_where_permitted_lem state actor message by sessions channels trees text is =
    let edit = SendsText by sessions channels trees text in
    let all = accepted state actor message edit is in
    let (asked, sends, same) = text_asked state (actor_for state actor message) actor message edit refl all.same in
    let met = subst (λ (m : UserMessage). AllMet state (needs_of state actor m)) sends all.met in
    let here = at_sessions state (may_by state actor (Text asked) TEXT_MESSAGE) asked.session (sessions_may state actor asked met) in
    let places = places_may state actor asked met in (
      sym (ap sent_by same),
      subst (λ (m : UserMessage). All (λ session. (user : User) → session_of state.roster session ≡ Some user → may_by state actor m TEXT_MESSAGE user.channel ≡ true) sessions) (sym sends)
          (subst (λ (e : Edit). All (λ session. (user : User) → session_of state.roster session ≡ Some user → may_by state actor (Text asked) TEXT_MESSAGE user.channel ≡ true) (sessions_told e)) same here),
      subst (λ (m : UserMessage). All (λ place. is_there state.tree.channels place ≡ true → may_by state actor m TEXT_MESSAGE place ≡ true) (channels ++ trees)) (sym sends)
          (subst (λ (e : Edit). All (λ place. is_there state.tree.channels place ≡ true → may_by state actor (Text asked) TEXT_MESSAGE place ≡ true) (places_told e)) same places),
    )
