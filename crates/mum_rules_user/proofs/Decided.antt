-- What is decided of a message that there is no reason to ignore.
use Rattle.mum_rules_user.proofs.Common.{◌≡◌, ℕ, Bool, true, false, not, ltb, List, [], ◌∷◌, length, Option, Some, None, Result, Ok, Err, ap, sym, ◌∙◌, subst, list_any, is_none, option_map_or, IfOk, eqb-true, not-false, or_from, SessionId, Actor, UserRow, session_of, has_number, Verdict, Ignored, IsProper, StateValue, Reason, EmptyText, Gone, NotLoggedIn, NotThere, OfAnother, TooLong, COMMAND_LIMIT, reason_code, Case, FitsWhereAccepted, case_of, first_standing, is_gone, takes_no_edits, tokens_for_once, actor_with, nobody, all_off, found_passes, some_found, UserMessage, command_of, is_empty_text, names_there, payload_of, sets_own_of_another, reasons, actor_for, command_verdict, heard_verdict, tokens_brought, user_verdict}
use Rattle.mum_rules_user.proofs.Accepted.{accepted_fits, login_accepted_fits}

-- the reasons that are left where the session is here and edits are taken
abbrev pub later_reasons : StateValue → SessionId → UserMessage → List (Case Reason)
later_reasons state actor message =
    case_of TooLong (ltb COMMAND_LIMIT (length (payload_of message)))
    ∷ case_of NotThere (not (names_there state message))
    ∷ case_of OfAnother (sets_own_of_another actor message)
    ∷ case_of EmptyText (is_empty_text message)
    ∷ []

pub reasons_left : (state : StateValue) (actor : SessionId) (message : UserMessage) (user : UserRow) → session_of state.roster actor ≡ Some user → takes_no_edits state ≡ false → first_standing (reasons state (Some actor) message) ≡ first_standing (later_reasons state actor message)
reasons_left state actor message user found room =
    let here : is_gone state actor ≡ false = ap is_none found in
    let later = case_of NotLoggedIn false ∷ later_reasons state actor message in
    ap (λ (b : Bool). first_standing (case_of Gone b ∷ later)) (or_from (is_gone state actor) (takes_no_edits state) here room)

-- a session is found under its own number
pub same_session : (state : StateValue) (actor : SessionId) (user : UserRow) → session_of state.roster actor ≡ Some user → user.session ≡ actor
same_session state actor user found =
    ap (λ (n : ℕ). let s : SessionId = record { 0 = n } in s) (eqb-true user.session.0 actor.0 (found_passes (has_number actor) state.roster.sessions user found))

pub found_here : (state : StateValue) (actor : SessionId) (user : UserRow) → session_of state.roster actor ≡ Some user → list_any (has_number actor) state.roster.sessions ≡ true
found_here state actor user found = some_found (has_number actor) state.roster.sessions (ap is_none found)

pub found_again : (state : StateValue) (actor : SessionId) (user : UserRow) → session_of state.roster actor ≡ Some user → session_of state.roster user.session ≡ Some user
found_again state actor user found = ap (session_of state.roster) (same_session state actor user found) ∙ found

-- what no later reason leaves
pub named_there : (state : StateValue) (actor : SessionId) (message : UserMessage) → first_standing (later_reasons state actor message) ≡ None → names_there state message ≡ true
named_there state actor message none = not-false (names_there state message) (all_off (later_reasons state actor message) none).1.0

-- the verdict on the command, asked by the session with what the message brings
pub session_verdict : (state : StateValue) (actor : SessionId) (message : UserMessage) (user : UserRow) → session_of state.roster actor ≡ Some user → takes_no_edits state ≡ false → first_standing (later_reasons state actor message) ≡ None → command_verdict state (actor_with state.tree user (tokens_for_once user.tokens (tokens_brought message))) user.session (command_of user.session message) ≡ user_verdict state (Some actor) message
session_verdict state actor message user found room none =
    let who = actor_with state.tree user (tokens_for_once user.tokens (tokens_brought message)) in
    let asked : who ≡ actor_for state actor message =
    sym (ap (λ (o : Option UserRow). option_map_or (λ (u : UserRow). actor_with state.tree u (tokens_for_once u.tokens (tokens_brought message))) o nobody) found) in
    ap (λ (s : SessionId). command_verdict state who s (command_of s message)) (same_session state actor user found)
    ∙ ap (λ (w : Actor). command_verdict state w actor (command_of actor message)) asked
    ∙ sym (ap (λ (o : Option Reason). option_map_or (λ reason. Ignored (reason_code reason)) o (heard_verdict state (Some actor) message)) (reasons_left state actor message user found room ∙ none))

pub fitting : {E : Type 0} (state : StateValue) (actor : SessionId) (message : UserMessage) (given : Result Verdict E) → IsProper state → IfOk given (λ v. v ≡ user_verdict state (Some actor) message) → IfOk given (FitsWhereAccepted state)
fitting state actor message (Ok v) proper is = subst (FitsWhereAccepted state) (sym is) (accepted_fits state actor message proper)
fitting state actor message (Err e) proper is = tt

pub fitting_login : {E : Type 0} (state : StateValue) (message : UserMessage) (given : Result Verdict E) → IfOk given (λ v. v ≡ user_verdict state None message) → IfOk given (FitsWhereAccepted state)
fitting_login state message (Ok v) is = subst (FitsWhereAccepted state) (sym is) (login_accepted_fits state message)
fitting_login state message (Err e) is = tt
