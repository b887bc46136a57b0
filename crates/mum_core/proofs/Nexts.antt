-- The command of a connection that is decided next.
use Rattle.mum_core.proofs.Common.{◌≡◌, true, Option, Some, None, refl, sym, ap, ◌∙◌, is_some, option_map, option_or, SessionId, StateValue, Verdict, answered, leave_waiting, next_command, next_of_frame, session_of, verdict, Asked, Connection, Leave, Reply, Stays, Waits, Leads, Decided}
use Rattle.mum_session.specs.declared.command.Asked.TheVariants.{User}
use Rattle.mum_rules_user.specs.declared.message.UserMessage.TheVariants as messages

-- it is that of its frame, where that is next, and else its leave
pub frame_next : (x : Connection) (command : Asked) → next_of_frame x ≡ Some command → next_command x ≡ Some command
frame_next x command is = ap (λ (first : Option Asked). option_or first (leave_waiting x.leave)) is

pub leave_next : (x : Connection) → next_of_frame x ≡ None → is_some (next_command x) ≡ true → next_command x ≡ Some (User messages.Leave)
leave_next x none waits = by_leave x.leave (next_of_frame x) none waits
  where
    by_leave : (leave : Leave) (first : Option Asked) → first ≡ None → is_some (option_or first (leave_waiting leave)) ≡ true → option_or first (leave_waiting leave) ≡ Some (User messages.Leave)
    by_leave leave (Some command) none waits = cc
    by_leave Stays None none waits = cc
    by_leave Waits None none waits = refl
    by_leave Leads None none waits = refl
    by_leave Decided None none waits = cc

-- it is decided so
pub frame_answered : (first : Option Asked) (reply : Reply) (x : Connection) → is_some first ≡ true → record x { waiting = None; decided = Some reply } ≡ answered first reply x
frame_answered None reply x is = cc
frame_answered (Some command) reply x is = refl

-- what is decided of the next command is what is decided of the one that it is
pub decided_of : (state : StateValue) (session : Option SessionId) (x : Connection) (command : Asked) (decided : Verdict)
    → session ≡ session_of x → next_command x ≡ Some command → decided ≡ verdict state session command → option_map (verdict state (session_of x)) (next_command x) ≡ Some decided
decided_of state session x command decided of_it next is =
    ap (option_map (verdict state (session_of x))) next ∙ ap (λ (v : Verdict). Some v) (sym (is ∙ ap (λ (s : Option SessionId). verdict state s command) of_it))
