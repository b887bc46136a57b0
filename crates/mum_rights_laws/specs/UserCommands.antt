-- What is said of each accepted message on users: by whom it is, and of whom.
use Rattle.std.specs.Prelude.{◌≡◌, ℕ, List, [], ◌++◌, Some, unwrap_or}
use Rattle.std.specs.List.{All, Contains}
use Rattle.mum_base.specs.declared.number.SessionId.{SessionId}
use Rattle.mum_users.specs.Sessions.{session_of}
use Rattle.mum_users.specs.declared.user.User.{User}
use Rattle.mum_msg_state.specs.declared.user_state.UserState.{UserState}
use Rattle.mum_state.specs.{Applied.applied, Proper.IsProper, State.StateValue}
use Rattle.mum_state.specs.declared.{edit.Edit.Edit, verdict.Verdict.TheVariants.Accepted}
use Rattle.mum_rules_user.specs.Verdict.{user_verdict}
use Rattle.mum_rules_user.specs.declared.message.UserMessage.{UserMessage, TheVariants.User as Changes}

-- the access tokens that a message brings for itself: a UserState may
abbrev pub tokens_in : UserMessage → List (List ℕ)
tokens_in (Changes asked) = asked.temporary_access_tokens
tokens_in message = []

-- the actor is there, and these tokens count for its message: its own, and then some of those that the message brings
pub record IsActor (before : StateValue) (actor : SessionId) (message : UserMessage) (own : User)
    (tokens : List (List ℕ)) : Type 0 where
  pub there : session_of before.roster actor ≡ Some own
  pub counted : (added : List (List ℕ)) × All (Contains (tokens_in message)) added × (tokens ≡ own.tokens ++ added)

-- this holds of each message on users that is accepted of a session in a proper state: of the state before and the state
-- after, the session, the tokens that count, and the message
abbrev pub OfUserCommands : (StateValue → StateValue → User → List (List ℕ) → UserMessage → Type 0) → Type 0
OfUserCommands Holds =
    (before : StateValue) (actor : SessionId) (message : UserMessage) (edit : Edit) → IsProper before
    → user_verdict before (Some actor) message ≡ Accepted edit
    → (own : User) × (tokens : List (List ℕ)) × IsActor before actor message own tokens
    × Holds before (applied before edit) own tokens message

-- the message is a UserState that names the session, or that is the session's own and names nobody
abbrev pub IsAbout : User → UserMessage → User → Type 0
IsAbout own message user =
    (asked : UserState) × (message ≡ Changes asked) × (unwrap_or asked.session own.session.0 ≡ user.session.0)
