-- What the crates below prove of states and decisions, by the names under which it is used here.
use Rattle.mum_core.proofs.Common.{◌≡◌, ℕ, ◌≤◌, List, Option, None, Some, refl, inl, inr, ◌⊎◌, IsTrue, AccountId, SessionId, Actor, next_number, next_slot, Edit, JoinEdit, Verdict, Accepted, Answer, all_fit, led_to, applied, granted_where_there, IsProper, StateValue, keeps_proper_lem, numbers_rise, TreeMessage, FitsWhereAccepted, first_lack, first_standing, tree_verdict, tree_accepted_fits, UserMessage, Kick, Text, Target, Query, UserCommand, command_of, limits, limits_of_login, needs, answer_frame, outcome, reasons, actor_for, command_verdict, heard_verdict, user_verdict, accepted_fits, login_accepted_fits, Asked, verdict, tree_holds, unless, seat_of}
use Rattle.mum_rules_user.specs.declared.message.UserMessage.TheVariants.{Join, User, Leave}
use Rattle.mum_session.specs.declared.command.Asked.TheVariants as commands

pub keeps_proper : (state : StateValue) (edits : List Edit) → IsProper state → IsTrue (all_fit state edits) → IsProper (led_to state edits)
keeps_proper = keeps_proper_lem

pub last_rises : (state : StateValue) (edit : Edit) → state.roster.last ≤ (applied state edit).roster.last
last_rises = numbers_rise

-- no command on channels gives a seat
tree_seats_nobody : (state : StateValue) (session : SessionId) (message : TreeMessage) → seat_of (tree_verdict state session message) ≡ None
tree_seats_nobody = tree_holds (λ v. seat_of v ≡ None) (record {
  ignored = λ why. refl;
  lacks = λ perm channel. refl;
  refused = λ kind. refl;
  answered = λ frame. refl;
  made = λ id parent name temporary info maker. refl;
  changed = λ id actor name parent description position max_users links_add links_remove. refl;
  removed = λ id actor. refl;
  ruled = λ channel actor policy. refl;
})

-- ---- who is given a seat

-- a verdict gives no seat, or it is the next one and the actor had none
abbrev pub SeatsNext : StateValue → Option SessionId → Verdict → Type 0
SeatsNext state session decided =
    (seat_of decided ≡ None)
    ⊎ ((session ≡ None) × ((name : List ℕ) × (account : Option AccountId) × (tokens : List (List ℕ))
    × (decided ≡ Accepted (JoinEdit (next_number state.roster) (next_slot state.roster) name account tokens))))

outcome_seats : (state : StateValue) (session : Option SessionId) (who : Actor) (actor : SessionId) (command : UserCommand) → SeatsNext state session (outcome state who actor command)
outcome_seats state session who actor (UserCommand.renew message) = inl refl
outcome_seats state session who actor (UserCommand.change other message) = inl refl
outcome_seats state session who actor (UserCommand.kick other message) = inl refl
outcome_seats state session who actor (UserCommand.text message) = inl refl
outcome_seats state session who actor (UserCommand.target message) = inl refl
outcome_seats state session who actor (UserCommand.query id) =
    unless (SeatsNext state session) (λ held. Answer (answer_frame id held)) (granted_where_there state who id) _ (λ held. inl refl) (inl refl)
outcome_seats state session who actor UserCommand.leave = inl refl

command_seats : (state : StateValue) (session : Option SessionId) (who : Actor) (actor : SessionId) (command : UserCommand) → SeatsNext state session (command_verdict state who actor command)
command_seats state session who actor command =
    unless (SeatsNext state session) _ (first_lack state (needs state who actor command)) _ (λ lack. inl refl)
    (unless (SeatsNext state session) _ (first_standing (limits state actor command)) _ (λ kind. inl refl)
    (outcome_seats state session who actor command))

heard_seats : (state : StateValue) (session : Option SessionId) (message : UserMessage) → SeatsNext state session (heard_verdict state session message)
heard_seats state (Some actor) message = command_seats state (Some actor) (actor_for state actor message) actor (command_of actor message)
heard_seats state None (Join message version) =
    unless (SeatsNext state None) _ (first_standing (limits_of_login state version message)) _ (λ kind. inl refl) (inr (refl, (_, _, _, refl)))
heard_seats state None (User message) = inl refl
heard_seats state None (Kick message) = inl refl
heard_seats state None (Text message) = inl refl
heard_seats state None (Target message) = inl refl
heard_seats state None (Query message) = inl refl
heard_seats state None Leave = inl refl

user_seats : (state : StateValue) (session : Option SessionId) (message : UserMessage) → SeatsNext state session (user_verdict state session message)
user_seats state session message =
    unless (SeatsNext state session) _ (first_standing (reasons state session message)) _ (λ reason. inl refl) (heard_seats state session message)

pub verdict_seats : (state : StateValue) (session : Option SessionId) (command : Asked) → SeatsNext state session (verdict state session command)
unfolding verdict
verdict_seats state None (commands.Tree message) = inl refl
verdict_seats state (Some session) (commands.Tree message) = inl (tree_seats_nobody state session message)
verdict_seats state None (commands.User message) = user_seats state None message
verdict_seats state (Some session) (commands.User message) = user_seats state (Some session) message

-- ---- what is decided fits

user_fits : (state : StateValue) (session : Option SessionId) (message : UserMessage) → IsProper state → FitsWhereAccepted state (user_verdict state session message)
user_fits state None message proper = login_accepted_fits state message
user_fits state (Some session) message proper = accepted_fits state session message proper

pub verdict_fits : (state : StateValue) (session : Option SessionId) (command : Asked) → IsProper state → FitsWhereAccepted state (verdict state session command)
unfolding verdict
verdict_fits state None (commands.Tree message) proper = tt
verdict_fits state (Some session) (commands.Tree message) proper = tree_accepted_fits state session message proper
verdict_fits state None (commands.User message) proper = user_fits state None message proper
verdict_fits state (Some session) (commands.User message) proper = user_fits state (Some session) message proper
