-- An accepted command on users is an edit that fits.
use Rattle.mum_rules_user.proofs.Common.{◌≡◌, ℕ, ◌&&◌, ◌||◌, Bool, true, false, not, eqb, ltb, List, [], ◌∷◌, ◌++◌, Option, Some, None, refl, ap, ◌∙◌, list_all, list_any, is_none, option_map, option_map_or, and_from, and_parts, cond_both, leb-false, lt-ltb, not-false, not_from_false, or_parts, list_all-append, ChannelId, SessionId, TextMessage, VoiceTarget, Authenticate, UserRemove, UserState, Actor, is_there, LAST_TARGET, edit_fault, has_number, is_context, is_oversize, EDIT_LIMIT, LeaveEdit, SetTarget, SetTokens, Answer, Ignored, fits, holds_of_given, given, user_parts, granted_where_there, IsProper, is_text, StateValue, channel, given_unless, is_number_there, reason_code, FitsWhereAccepted, first_lack, first_standing, is_gone, takes_no_edits, NotThere, fits_from, named_from, all_off, fits_unless, some_found, UserMessage, Join, User, Kick, Text, Target, Query, Leave, Command, channels, command_of, is_here, names_there, new_channel, number_of_target, session_or, target_asked, limits, limits_of_change, limits_of_target, limits_of_login, tokens_kept, needs, answer_frame, edit_to_change, edit_to_kick, edit_to_tell, outcome, reasons, actor_for, command_verdict, heard_verdict, user_verdict}
use Rattle.mum_rules_user.proofs.{Listened.listening_taken, LoggedIn.kept_are_tokens, LoggedIn.login_fits}

-- ---- the actor is here, and edits are taken

record IsHeard (state : StateValue) (actor : SessionId) : Type 0 where
  here : list_any (has_number actor) state.roster.sessions ≡ true
  room : ltb state.counts.revision EDIT_LIMIT ≡ true

room_left : (state : StateValue) → takes_no_edits state ≡ false → ltb state.counts.revision EDIT_LIMIT ≡ true
room_left state room = lt-ltb state.counts.revision EDIT_LIMIT (leb-false EDIT_LIMIT state.counts.revision room)

heard : (state : StateValue) (actor : SessionId) → (is_gone state actor || takes_no_edits state) ≡ false → IsHeard state actor
heard state actor not_gone =
    let (here, room) = or_parts (is_gone state actor) (takes_no_edits state) not_gone in
    record { here = some_found (has_number actor) state.roster.sessions here; room = room_left state room }

one_here : (state : StateValue) (session : SessionId) → list_any (has_number session) state.roster.sessions ≡ true → list_all (λ s. list_any (has_number s) state.roster.sessions) (session ∷ []) ≡ true
one_here state session here = and_from (list_any (has_number session) state.roster.sessions) true here refl

two_here : (state : StateValue) (one other : SessionId) → list_any (has_number one) state.roster.sessions ≡ true → list_any (has_number other) state.roster.sessions ≡ true → list_all (λ s. list_any (has_number s) state.roster.sessions) (one ∷ other ∷ []) ≡ true
two_here state one other here there = and_from (list_any (has_number one) state.roster.sessions) (list_all (λ s. list_any (has_number s) state.roster.sessions) (other ∷ [])) here (one_here state other there)

-- the session that a message names, or the actor
session_here : (state : StateValue) (actor : SessionId) (number : Option ℕ) → list_any (has_number actor) state.roster.sessions ≡ true → holds_of_given (is_here state.roster) number ≡ true → list_any (has_number (session_or actor number)) state.roster.sessions ≡ true
session_here state actor None here named = here
session_here state actor (Some number) here named = named

kicked_here : (state : StateValue) (actor : SessionId) (number : Option ℕ) → option_map_or (is_here state.roster) number false ≡ true → list_any (has_number (session_or actor number)) state.roster.sessions ≡ true
kicked_here state actor None named = cc
kicked_here state actor (Some number) named = named

channels_here : (state : StateValue) (numbers : List ℕ) → list_all (is_number_there state.tree) numbers ≡ true → list_all (is_there state.tree.channels) (channels numbers) ≡ true
channels_here state [] all = refl
channels_here state (number ∷ numbers) all =
    let (here, rest) = and_parts (is_number_there state.tree number) (list_all (is_number_there state.tree) numbers) all in
    and_from (is_there state.tree.channels (channel number)) (list_all (is_there state.tree.channels) (channels numbers)) here (channels_here state numbers rest)

given_here : (state : StateValue) (test : ChannelId → Bool) (number : Option ℕ) → holds_of_given (is_number_there state.tree) number ≡ true → list_all (is_there state.tree.channels) (given (given_unless test (option_map channel number))) ≡ true
given_here state test None there = refl
given_here state test (Some number) there =
    cond_both (test (channel number)) None (Some (channel number)) (λ o. list_all (is_there state.tree.channels) (given o) ≡ true) (λ same. refl)
    (λ other. and_from (is_there state.tree.channels (channel number)) true there refl)

-- ---- each command

renewal_fits : (state : StateValue) (actor : SessionId) (message : Authenticate) → IsHeard state actor → fits state (SetTokens actor (tokens_kept message.tokens)) ≡ true
renewal_fits state actor message heard =
    let edit = SetTokens actor (tokens_kept message.tokens) in
    fits_from state edit (named_from state edit (one_here state actor heard.here) refl refl) refl (kept_are_tokens message.tokens) heard.room

change_fits : (state : StateValue) (actor : SessionId) (message : UserState) → IsProper state → IsHeard state actor → names_there state (User message) ≡ true → first_standing (limits_of_change state actor (session_or actor message.session) message) ≡ None → fits state (edit_to_change state.roster actor (session_or actor message.session) message) ≡ true
change_fits state actor message proper heard named free =
    let roster = state.roster in
    let session = session_or actor message.session in
    let p = is_there state.tree.channels in
    let a = holds_of_given (is_here roster) message.session in
    let b = holds_of_given (is_number_there state.tree) message.channel_id in
    let c = list_all (is_number_there state.tree) message.listening_channel_add in
    let (abc, left) = and_parts ((a && b) && c) (list_all (is_number_there state.tree) message.listening_channel_remove) named in
    let (ab, added) = and_parts (a && b) c abc in
    let (whom, entered) = and_parts a b ab in
    let here = session_here state actor message.session heard.here whom in
    let into = given (new_channel roster session message) in
    let adds = channels message.listening_channel_add in
    let removes = channels message.listening_channel_remove in
    let there : list_all p (into ++ adds ++ removes) ≡ true =
    list_all-append p (into ++ adds) removes
    ∙ and_from (list_all p (into ++ adds)) (list_all p removes)
    (list_all-append p into adds ∙ and_from (list_all p into) (list_all p adds) (given_here state _ message.channel_id entered) (channels_here state message.listening_channel_add added))
    (channels_here state message.listening_channel_remove left) in
    let off = all_off (limits_of_change state actor session message) free in
    let (bad_text, bad_context) = or_parts (not (holds_of_given is_text message.comment)) (not (holds_of_given is_context message.plugin_context)) off.1.1.1.1.0 in
    let change = user_parts (new_channel roster session message) message.mute message.deaf message.priority_speaker message.self_mute message.self_deaf message.recording message.comment message.plugin_context adds removes in
    let taken : is_none (edit_fault roster session change) ≡ true =
    ap is_none (listening_taken roster session change proper.roster.listeners_rise here off.1.1.0 off.1.1.1.0) in
    let edit = edit_to_change roster actor session message in
    let x = is_none (edit_fault roster session change) in
    let y = holds_of_given is_text message.comment in
    let z = holds_of_given is_context message.plugin_context in
    fits_from state edit
    (named_from state edit (two_here state session actor here heard.here) there refl)
    refl
    (and_from (x && y) z (and_from x y taken (not-false y bad_text)) (not-false z bad_context))
    heard.room

kick_fits : (state : StateValue) (actor : SessionId) (message : UserRemove) → IsHeard state actor → names_there state (Kick message) ≡ true → fits state (edit_to_kick actor (session_or actor message.session) message) ≡ true
kick_fits state actor message heard named =
    let session = session_or actor message.session in
    let edit = edit_to_kick actor session message in
    fits_from state edit (named_from state edit (two_here state session actor (kicked_here state actor message.session named) heard.here) refl refl) refl refl heard.room

text_fits : (state : StateValue) (actor : SessionId) (message : TextMessage) → IsHeard state actor → fits state (edit_to_tell actor message) ≡ true
text_fits state actor message heard =
    let edit = edit_to_tell actor message in
    fits_from state edit (named_from state edit (one_here state actor heard.here) refl refl) refl refl heard.room

target_fits : (state : StateValue) (actor : SessionId) (message : VoiceTarget) → IsHeard state actor → first_standing (limits_of_target message) ≡ None → fits state (SetTarget actor (number_of_target message) (target_asked message)) ≡ true
target_fits state actor message heard free =
    let edit = SetTarget actor (number_of_target message) (target_asked message) in
    let off = all_off (limits_of_target message) free in
    let id = number_of_target message in
    fits_from state edit
    (named_from state edit (one_here state actor heard.here) refl refl)
    (not_from_false (eqb id 0 || ltb LAST_TARGET id) off.0)
    (not_from_false (is_oversize (target_asked message)) off.1.0)
    heard.room

leave_fits : (state : StateValue) (actor : SessionId) → IsHeard state actor → fits state (LeaveEdit actor) ≡ true
leave_fits state actor heard =
    let edit = LeaveEdit actor in
    fits_from state edit (named_from state edit (one_here state actor heard.here) refl refl) refl refl heard.room

answer_fits : (state : StateValue) (id : ChannelId) (held : Option ℕ) → FitsWhereAccepted state (option_map_or (λ h. Answer (answer_frame id h)) held (Ignored (reason_code NotThere)))
answer_fits state id None = tt
answer_fits state id (Some held) = tt

-- ---- every message

command_fits : (state : StateValue) (who : Actor) (actor : SessionId) (command : Command) → (first_standing (limits state actor command) ≡ None → FitsWhereAccepted state (outcome state who actor command)) → FitsWhereAccepted state (command_verdict state who actor command)
command_fits state who actor command fitting =
    fits_unless state _ (first_lack state (needs state who actor command)) _ (λ lack. tt) (λ none.
    fits_unless state _ (first_standing (limits state actor command)) _ (λ kind. tt) fitting)

message_fits : (state : StateValue) (who : Actor) (actor : SessionId) (message : UserMessage) → IsProper state → IsHeard state actor → names_there state message ≡ true → FitsWhereAccepted state (command_verdict state who actor (command_of actor message))
message_fits state who actor (Join message version) proper heard named =
    command_fits state who actor (Command.renew message) (λ free. renewal_fits state actor message heard)
message_fits state who actor (User message) proper heard named =
    command_fits state who actor (Command.change (session_or actor message.session) message) (change_fits state actor message proper heard named)
message_fits state who actor (Kick message) proper heard named =
    command_fits state who actor (Command.kick (session_or actor message.session) message) (λ free. kick_fits state actor message heard named)
message_fits state who actor (Text message) proper heard named =
    command_fits state who actor (Command.text message) (λ free. text_fits state actor message heard)
message_fits state who actor (Target message) proper heard named =
    command_fits state who actor (Command.target message) (target_fits state actor message heard)
message_fits state who actor (Query message) proper heard named =
    let command = command_of actor (Query message) in
    command_fits state who actor command (λ free. answer_fits state _ (granted_where_there state who _))
message_fits state who actor Leave proper heard named =
    command_fits state who actor Command.leave (λ free. leave_fits state actor heard)

nobody_fits : (state : StateValue) (message : UserMessage) → first_standing (reasons state None message) ≡ None → FitsWhereAccepted state (heard_verdict state None message)
nobody_fits state (Join message version) none =
    let off = all_off (reasons state None (Join message version)) none in
    fits_unless state _ (first_standing (limits_of_login state version message)) _ (λ kind. tt) (login_fits state version message (room_left state off.0))
nobody_fits state (User message) none = tt
nobody_fits state (Kick message) none = tt
nobody_fits state (Text message) none = tt
nobody_fits state (Target message) none = tt
nobody_fits state (Query message) none = tt
nobody_fits state Leave none = tt

-- an accepted edit of a session fits the state
pub accepted_fits : (state : StateValue) (actor : SessionId) (message : UserMessage) → IsProper state → FitsWhereAccepted state (user_verdict state (Some actor) message)
accepted_fits state actor message proper =
    fits_unless state _ (first_standing (reasons state (Some actor) message)) _ (λ reason. tt) (λ none.
    let off = all_off (reasons state (Some actor) message) none in
    message_fits state (actor_for state actor message) actor message proper (heard state actor off.0) (not-false (names_there state message) off.1.1.1.0))

-- and so does that of a connection without one
pub login_accepted_fits : (state : StateValue) (message : UserMessage) → FitsWhereAccepted state (user_verdict state None message)
login_accepted_fits state message =
    fits_unless state _ (first_standing (reasons state None message)) _ (λ reason. tt) (nobody_fits state message)
