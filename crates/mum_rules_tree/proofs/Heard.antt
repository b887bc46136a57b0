-- What is decided of a message that there is no reason to ignore.
use Rattle.mum_rules_tree.proofs.Common.{◌≡◌, ℕ, ◌||◌, Bool, true, false, not, cond, ltb, List, [], ◌∷◌, length, Option, Some, None, Result, Ok, Err, ap, sym, ◌∙◌, subst, ⊎_elim, find, is_none, option_map_or, IfOk, cases_Bool, eqb-true, not_from_true, or_from, SessionId, Actor, User, session_of, has_number, Verdict, Ignored, actor_from, IsProper, StateValue, TreeMessage, Reason, Gone, NotThere, TooLong, COMMAND_LIMIT, command_of, names_there, payload_of, reason_code, FitsWhereAccepted, case_of, first_standing, is_gone, reasons, takes_no_edits, actor_named, command_verdict, nobody, tree_verdict}
use Rattle.mum_rules_tree.proofs.Accepted.{accepted_fits}

pub found_passes : {X : Type 0} (p : X → Bool) (xs : List X) (x : X) → find p xs ≡ Some x → p x ≡ true
found_passes p [] x found = cc
found_passes {X} p (y ∷ ys) x found =
    ⊎_elim
    (λ (on : p y ≡ true). let here : Some y ≡ Some x = subst (λ (b : Bool). cond b (Some y) (find p ys) ≡ Some x) on found in let same : y ≡ x = cc in ap p (sym same) ∙ on)
    (λ (off : p y ≡ false). found_passes p ys x (subst (λ (b : Bool). cond b (Some y) (find p ys) ≡ Some x) off found))
    (cases_Bool (p y))

none_of : (a b d : Bool) → a ≡ false → b ≡ false → d ≡ false → first_standing (case_of Gone a ∷ case_of TooLong b ∷ case_of NotThere d ∷ []) ≡ None
none_of a b d no_a no_b no_d =
    ap (λ (x : Bool). first_standing (case_of Gone x ∷ case_of TooLong b ∷ case_of NotThere d ∷ [])) no_a
    ∙ ap (λ (x : Bool). first_standing (case_of Gone false ∷ case_of TooLong x ∷ case_of NotThere d ∷ [])) no_b
    ∙ ap (λ (x : Bool). first_standing (case_of Gone false ∷ case_of TooLong false ∷ case_of NotThere x ∷ [])) no_d

-- the verdict on the command, asked by the session as it is
pub heard_verdict : (state : StateValue) (actor by : SessionId) (message : TreeMessage) (user : User) (who : Actor) → session_of state.roster actor ≡ Some user → takes_no_edits state ≡ false → ltb COMMAND_LIMIT (length (payload_of message)) ≡ false → names_there state.tree message ≡ true → who ≡ actor_from state.tree user → by ≡ user.session → command_verdict state who by (command_of message) ≡ tree_verdict state actor message
heard_verdict state actor by message user who found room short named asks from =
    let command = command_of message in
    let number : user.session.0 ≡ actor.0 = eqb-true user.session.0 actor.0 (found_passes (has_number actor) state.roster.sessions user found) in
    let same : by ≡ actor = from ∙ ap (λ (n : ℕ). let s : SessionId = record { 0 = n } in s) number in
    let asked : who ≡ actor_named state actor = asks ∙ sym (ap (λ (o : Option User). option_map_or (actor_from state.tree) o nobody) found) in
    let here : is_gone state actor ≡ false = ap is_none found in
    let none : first_standing (reasons state actor message) ≡ None =
    none_of (is_gone state actor || takes_no_edits state) (ltb COMMAND_LIMIT (length (payload_of message))) (not (names_there state.tree message))
    (or_from (is_gone state actor) (takes_no_edits state) here room) short (not_from_true (names_there state.tree message) named) in
    ap (λ (w : Actor). command_verdict state w by command) asked
    ∙ ap (λ (s : SessionId). command_verdict state (actor_named state actor) s command) same
    ∙ sym (ap (λ (o : Option Reason). option_map_or (λ reason. Ignored (reason_code reason)) o (command_verdict state (actor_named state actor) actor command)) none)

pub decided : {E : Type 0} (given : Result Verdict E) (one other : Verdict) → one ≡ other → IfOk given (λ v. v ≡ one) → IfOk given (λ v. v ≡ other)
decided (Ok v) one other same is = is ∙ same
decided (Err e) one other same is = tt

pub fitting : {E : Type 0} (state : StateValue) (actor : SessionId) (message : TreeMessage) (given : Result Verdict E) → IsProper state → IfOk given (λ v. v ≡ tree_verdict state actor message) → IfOk given (FitsWhereAccepted state)
fitting state actor message (Ok v) proper is = subst (FitsWhereAccepted state) (sym is) (accepted_fits state actor message proper)
fitting state actor message (Err e) proper is = tt
